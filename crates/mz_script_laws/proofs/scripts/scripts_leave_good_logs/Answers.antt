-- Each clause is a part of what a script leaves.
use Rattle.mz_script_laws.proofs.BuiltLines.{script_at_rest, script_good, script_plain}
use Rattle.mz_script_laws.proofs.scripts.scripts_leave_good_logs.Goals as goal

pub returns-clause-rest : goal.returns-clause-rest
returns-clause-rest c = script_at_rest

pub returns-clause-plain : goal.returns-clause-plain
returns-clause-plain c = script_plain

pub returns-clause-good : goal.returns-clause-good
returns-clause-good c = script_good
