use Rattle.std.proofs.Common.{ℤ, List, rules}
use Rattle.std.proofs.lemmas.Fn.{filter_same}
use Rattle.mz_value.specs.declared.datum.Datum.{Datum}
use Rattle.mz_reduce.specs.Grouping.{is_taken}
use Rattle.mz_reduce.proofs.showing.keep_taken.Goals as goal

-- each call is the test of its row
pub returns : goal.returns
returns c = filter_same _ (λ (w : List Datum × ℤ). is_taken c.args.aggregates.now w) _ (λ x b f' k. search rules) _ _ c.retain.ensures.filtered
