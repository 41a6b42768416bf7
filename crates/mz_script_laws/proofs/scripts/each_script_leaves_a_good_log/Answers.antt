-- A line that is read from bytes is honest.
use Rattle.mz_script_laws.proofs.HonestLines.{line_honest, read_script_good}
use Rattle.mz_script_laws.proofs.scripts.each_script_leaves_a_good_log.Goals as goal

pub returns-clause-honest : goal.returns-clause-honest
returns-clause-honest c = line_honest

pub returns-clause-good : goal.returns-clause-good
returns-clause-good c = read_script_good
