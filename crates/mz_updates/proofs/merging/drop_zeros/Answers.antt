use Rattle.std.proofs.Common.{pos, not, FitsSigned, rules}
use Rattle.std.specs.Int.{w128}
use Rattle.std.specs.Ordering.{int_eq}
use Rattle.std.proofs.lemmas.Fn.{filter_same, All-from_retain}
use Rattle.std.proofs.lemmas.List.Elements.{recursion_from_All}
use Rattle.mz_updates.specs.declared.update.Update.{Update}
use Rattle.mz_updates.proofs.merging.drop_zeros.Goals as goal

-- each call is the test of its update
pub returns-clause-kept : goal.returns-clause-kept
returns-clause-kept c = filter_same _ (λ (u : Update). not (int_eq u.diff (pos 0))) _ (λ x b f' k. search rules) _ _ c.retain.ensures.filtered

-- and has looked at its diff
pub returns-clause-fits : goal.returns-clause-fits
returns-clause-fits c = record {
  each = recursion_from_All (λ (u : Update). FitsSigned w128 u.diff) _ (All-from_retain _ (λ (u : Update). FitsSigned w128 u.diff) _ (λ x b f' k. search rules) _ _ c.retain.ensures.filtered);
}
