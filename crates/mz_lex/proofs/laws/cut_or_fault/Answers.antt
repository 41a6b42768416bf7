use Rattle.mz_lex.proofs.TotalLemmas.{cut_or_fault}
use Rattle.mz_lex.proofs.laws.cut_or_fault.Goals as goal

-- token by token, until nothing is left or no token begins
pub returns : goal.returns
returns c = cut_or_fault
