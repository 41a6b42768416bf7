use Rattle.std.proofs.Common.{◌∙◌, ap}
use Rattle.std.specs.Ordering.{is_eq}
use Rattle.std.specs.Cmp.Lexicographic.{lists_ties}
use Rattle.mz_value.specs.contracts.datum.DatumOrd.TheImpl.Laws.{matches_eq-law}
use Rattle.mz_value.specs.Datum.{datum_cmp}
use Rattle.mz_value.specs.Row.{row_eq}
use Rattle.mz_value.specs.RowOrder.{cmp-derived}
use Rattle.mz_value.proofs.row.RowPartialEq.eq.Goals as goal

-- lists of values are equal where they tie
pub returns : goal.returns
returns c = c.eq.ensures ∙ lists_ties datum_cmp (λ x y. matches_eq-law x y ∙ ap is_eq (cmp-derived x y)) c.self.inside.cells.items c.other.inside.cells.items ∙ (λ i. row_eq (c.self.view_is i) (c.other.view_is i))
