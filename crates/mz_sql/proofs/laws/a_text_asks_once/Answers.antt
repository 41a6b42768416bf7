use Rattle.mz_sql.proofs.AskedLemmas.{a_text_asks_once}
use Rattle.mz_sql.proofs.laws.a_text_asks_once.Goals as goal

-- its tokens are read in one way
pub returns : goal.returns
returns c = a_text_asks_once
