use Rattle.std.proofs.Common.{length, take, ◌∙◌, ap}
use Rattle.std.specs.Ordering.{is_eq}
use Rattle.std.specs.Cmp.Lexicographic.{lists_ties}
use Rattle.mz_value.specs.contracts.datum.DatumOrd.TheImpl.Laws.{matches_eq-law}
use Rattle.mz_value.specs.Datum.{datum_cmp}
use Rattle.mz_value.specs.RowOrder.{cmp-derived}
use Rattle.mz_arrange.specs.Arranged.{begins_with}
use Rattle.mz_arrange.proofs.seeking.begins_with.Goals as goal

-- lists of values are equal where they tie
pub returns : goal.returns
returns c =
    c.starts_with.ensures.value
    ∙ lists_ties datum_cmp (λ x y. matches_eq-law x y ∙ ap is_eq (cmp-derived x y)) c.as_slice-2.result.now (take (length c.as_slice-2.result.now) c.as_slice.result.now)
    ∙ (λ i. begins_with (c.as_slice-2.ensures i) (c.as_slice.ensures i))
