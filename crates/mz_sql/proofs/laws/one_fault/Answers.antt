use Rattle.mz_sql.proofs.FaultLemmas.{one_fault}
use Rattle.mz_sql.proofs.laws.one_fault.Goals as goal

-- of two fronts of the tokens that stop, neither passes the other
pub returns : goal.returns
returns c = one_fault
