use Rattle.mz_sql.proofs.AskedLemmas.{one_spelled}
use Rattle.mz_sql.proofs.laws.one_statement.Goals as goal

-- by its one cut
pub returns : goal.returns
returns c = one_spelled
