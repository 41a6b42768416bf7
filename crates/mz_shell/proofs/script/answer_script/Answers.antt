-- Without memory for a piece nothing was read and nothing written.
use Rattle.mz_shell.proofs.NextLemmas.{part_none}
use Rattle.mz_shell.proofs.script.answer_script.Goals as goal

pub returns-in_default-clause-stopped : goal.returns-in_default-clause-stopped
returns-in_default-clause-stopped g c = part_none _ _

pub returns-clause-stopped : goal.returns-clause-stopped
returns-clause-stopped g c = part_none _ _
