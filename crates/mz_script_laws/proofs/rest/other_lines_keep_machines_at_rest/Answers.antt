-- Each of these lines leads to one event at most.
use Rattle.mz_script.specs.Script.{session_place}
use Rattle.mz_script_laws.proofs.OtherLines.{added_rests, cancels_rests, closes_rests, gives_back_rests, moves_rests}
use Rattle.mz_script_laws.proofs.rest.other_lines_keep_machines_at_rest.Goals as goal

pub returns-clause-cancels : goal.returns-clause-cancels
returns-clause-cancels c = λ machine name rest. cancels_rests machine name (session_place machine.log name) rest

pub returns-clause-closes : goal.returns-clause-closes
returns-clause-closes c = closes_rests

pub returns-clause-clusters : goal.returns-clause-clusters
returns-clause-clusters c = added_rests

pub returns-clause-moves : goal.returns-clause-moves
returns-clause-moves c = moves_rests

pub returns-clause-gives_back : goal.returns-clause-gives_back
returns-clause-gives_back c = gives_back_rests
