use Rattle.mz_sql.proofs.FaultLemmas.{no_fault}
use Rattle.mz_sql.proofs.laws.no_fault.Goals as goal

-- its tokens go on to their end, where they are a statement
pub returns : goal.returns
returns c = no_fault
