-- A machine at rest makes a turn.
use Rattle.mz_script_laws.proofs.Settling.{turns_turn}
use Rattle.mz_script_laws.proofs.turns.turns_answer_all.Goals as goal

pub returns : goal.returns
returns c = turns_turn
