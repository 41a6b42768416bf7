use Rattle.mz_sql.proofs.AskedLemmas.{each_text_asks}
use Rattle.mz_sql.proofs.laws.each_text_asks.Goals as goal

-- it is cut and read, or has its fault where no token begins
pub returns : goal.returns
returns c = each_text_asks
