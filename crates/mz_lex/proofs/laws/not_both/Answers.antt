use Rattle.mz_lex.proofs.CutLemmas.{not_both}
use Rattle.mz_lex.proofs.laws.not_both.Goals as goal

-- the tokens up to the fault would be all
pub returns : goal.returns
returns c = not_both
