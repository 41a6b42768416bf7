use Rattle.std.proofs.Common.{sym, subst, rules}
use Rattle.std.specs.Prelude.{Ok, All, []}
use Rattle.mz_lex.specs.Cut.{IsSpan}
use Rattle.mz_lex.proofs.CutLemmas.{only_cut, only_place, in_order, spans}
use Rattle.mz_lex.proofs.lexer.tokens.Goals as goal

-- a text that is cut is not refused
pub returns-in_err-cut-clause-only : goal.returns-in_err-cut-clause-only
returns-in_err-cut-clause-only c = only_cut c.args.text.now c.from_residual.result (search rules) (search rules)

-- the fault is the only one
pub returns-in_err-cut-clause-place : goal.returns-in_err-cut-clause-place
returns-in_err-cut-clause-place c = only_place c.args.text.now c.from_residual.result (search rules) (search rules)

-- tokens stand in order
pub from_vec-requires : goal.from_vec-requires
from_vec-requires c = in_order 0 c.args.text.now c.in_ok-cut.field-0.items [] (rw c.as_bytes.ensures.value at c.in_ok-cut.ensures.ok)

-- each token is the slice of its span
pub returns-clause-spans : goal.returns-clause-spans
returns-clause-spans c = subst (All (IsSpan c.args.text.now)) (sym c.from_vec.ensures) (spans [] c.args.text.now c.in_ok-cut.field-0.items [] (rw c.as_bytes.ensures.value at c.in_ok-cut.ensures.ok))

-- the cut is the only one
pub returns-clause-only : goal.returns-clause-only
returns-clause-only c = only_cut c.args.text.now (Ok c.from_vec.result) (search rules) (search rules)

-- a text that is cut has no fault
pub returns-clause-place : goal.returns-clause-place
returns-clause-place c = only_place c.args.text.now (Ok c.from_vec.result) (search rules) (search rules)
