-- The orders of values and of rows are total, and only one value stands at a place of them.
use Rattle.std.specs.Prelude.{◌≡◌, T, true, false, List, refl}
use Rattle.std.specs.Bool.{Decides}
use Rattle.std.specs.Ordering.{bool_cmp, is_eq}
use Rattle.std.specs.Cmp.{IsTotalOrder, IsEquivalence, Equal-is, tied_itself, eq_by_cmp_equiv}
use Rattle.std.specs.Cmp.Lexicographic.{lists_total}
use Rattle.std.specs.declared.cmp.Ordering.TheVariants.{Equal}
use Rattle.std.specs.FinMap.{IsAntisymmetric, int_cmp-IsAntisymmetric, nat_cmp-IsAntisymmetric, slice_cmp-IsAntisymmetric}
use Rattle.std.proofs.Common.{sym, subst, ap}
use Rattle.mz_value.specs.declared.datum.Datum.{Datum}
use Rattle.mz_value.specs.declared.datum.Datum.TheVariants.{Int, Text, Bool as Truth, Wide}
use Rattle.mz_value.specs.contracts.datum.DatumOrd.TheImpl.{ghosts}
use Rattle.mz_value.specs.contracts.datum.DatumOrd.TheImpl.Laws.{total-law}
use Rattle.mz_value.specs.Datum.{datum_cmp}
use Rattle.mz_value.specs.Row.{row_cmp, row_eq}

-- the order that is derived is the one by cases
pub cmp-derived : (x y : Datum) → ghosts.cmp x y ≡ datum_cmp x y
cmp-derived (Int x) (Int y) = refl
cmp-derived (Int x) (Text y) = refl
cmp-derived (Int x) (Truth y) = refl
cmp-derived (Int x) (Wide y) = refl
cmp-derived (Text x) (Int y) = refl
cmp-derived (Text x) (Text y) = refl
cmp-derived (Text x) (Truth y) = refl
cmp-derived (Text x) (Wide y) = refl
cmp-derived (Truth x) (Int y) = refl
cmp-derived (Truth x) (Text y) = refl
cmp-derived (Truth x) (Truth y) = refl
cmp-derived (Truth x) (Wide y) = refl
cmp-derived (Wide x) (Int y) = refl
cmp-derived (Wide x) (Text y) = refl
cmp-derived (Wide x) (Truth y) = refl
cmp-derived (Wide x) (Wide y) = refl

-- so it is total
pub datum_total : IsTotalOrder datum_cmp
datum_total = subst IsTotalOrder (λ i x y. cmp-derived x y i) total-law

-- truth values that tie are one
bool_exact : IsAntisymmetric bool_cmp
bool_exact true true h = refl
bool_exact false false h = refl
bool_exact x y h = absurd (subst (λ r. T (is_eq r)) (sym h) tt)

-- values that tie are one
pub datum_exact : IsAntisymmetric datum_cmp
datum_exact (Int x) (Int y) h = ap Int (int_cmp-IsAntisymmetric x y h)
datum_exact (Text x) (Text y) h = ap Text (slice_cmp-IsAntisymmetric nat_cmp-IsAntisymmetric x y h)
datum_exact (Truth x) (Truth y) h = ap Truth (bool_exact x y h)
datum_exact (Wide x) (Wide y) h = ap Wide (int_cmp-IsAntisymmetric x y h)
datum_exact x y h = absurd (subst (λ r. T (is_eq r)) (sym h) tt)

-- the order of rows is total
pub row_total : IsTotalOrder row_cmp
row_total = lists_total datum_total

-- and rows that tie are one
pub row_exact : IsAntisymmetric row_cmp
row_exact = slice_cmp-IsAntisymmetric datum_exact

-- the test of rows is an equivalence
pub row_equiv : IsEquivalence row_eq
row_equiv = eq_by_cmp_equiv row_total

-- and says whether they are one
pub row_eq-Decides : (x y : List Datum) → Decides (row_eq x y) (x ≡ y)
row_eq-Decides x y = (
  λ e. row_exact x y ((Equal-is (row_cmp x y)).0 e),
  λ e. (Equal-is (row_cmp x y)).1 (subst (λ z. row_cmp x z ≡ Equal) e (tied_itself row_total x)),
)
