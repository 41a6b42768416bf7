use Rattle.std.proofs.Common.{ℤ, List, rules}
use Rattle.std.proofs.lemmas.Fn.{filter_same}
use Rattle.mz_value.specs.declared.datum.Datum.{Datum}
use Rattle.mz_plan.specs.Condition.{holds}
use Rattle.mz_ops.proofs.filter.keep.Goals as goal

-- each call is the test of its row
pub returns : goal.returns
returns c = filter_same _ (λ (w : List Datum × ℤ). holds c.args.cond.now w.0) _ (λ x b f' k. search rules) _ _ c.retain.ensures.filtered
