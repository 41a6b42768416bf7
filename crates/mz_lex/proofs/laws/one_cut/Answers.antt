use Rattle.mz_lex.proofs.CutLemmas.{one_cut}
use Rattle.mz_lex.proofs.laws.one_cut.Goals as goal

-- token by token, since the first byte tells the kind and the bytes tell the length
pub returns : goal.returns
returns c = one_cut
