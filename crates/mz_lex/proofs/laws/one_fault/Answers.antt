use Rattle.mz_lex.proofs.CutLemmas.{one_fault}
use Rattle.mz_lex.proofs.laws.one_fault.Goals as goal

-- what precedes both places is the same
pub returns : goal.returns
returns c = one_fault
