-- A bag without negative counts has each of its rows once at least.
use Rattle.std.proofs.Common.{◌≡◌, ◌≢◌, Bool, true, false, cond, ℤ, pos, ◌≤ℤ◌, List, [], ◌∷◌, None, Some, unwrap_or, refl, sym, ap, subst, ◌∙◌, arith}
use Rattle.std.proofs.lemmas.Int.{ints}
use Rattle.std.proofs.lemmas.Map.Keys.{IsDistinct-head, IsDistinct-tail}
use Rattle.std.specs.FinMap.{entries, find, get, get-entries}
use Rattle.std.specs.List.{AllByRecursion as Each, IsDistinct}
use Rattle.std.specs.Map.{keys_of}
use Rattle.mz_value.specs.Row.{row_cmp, row_eq}
use Rattle.mz_value.specs.RowOrder.{row_eq-Decides}
use Rattle.mz_value.specs.declared.datum.Datum.{Datum}
use Rattle.mz_bag.specs.Bag.{Counts, IsBag}
use Rattle.mz_bag.specs.Weighted.{Weighted}
use Rattle.mz_bag.proofs.BagLaws.{IsDistinct-entries, count-entries, find-absent}
use Rattle.mz_plan.specs.Signs.{IsNotNegative}
use Rattle.mz_plan_laws.proofs.Weighing.{row_itself}

-- where no row stands twice, what holds of each number that is found holds of each weight
each_found : (P : ℤ → Type 0) (es : Weighted) → IsDistinct row_eq (keys_of es)
    → ((q : List Datum) (n : ℤ) → find row_cmp q es ≡ Some n → P n) → Each (λ w. P w.1) es
each_found P [] once h = tt
each_found P (e ∷ es) once h = (
  h e.0 e.1 (ap (λ c. cond c (Some e.1) (find row_cmp e.0 es)) (row_itself e.0)),
  each_found P es (IsDistinct-tail row_eq e.0 (keys_of es) once) (λ q n found. by q n (row_eq q e.0) refl found),
)
  where
    by : (q : List Datum) (n : ℤ) (c : Bool) → row_eq q e.0 ≡ c → find row_cmp q es ≡ Some n → P n
    by q n true is found =
        let none : find row_cmp q es ≡ None =
        subst (λ r. find row_cmp r es ≡ None) (sym ((row_eq-Decides q e.0).0 is))
        (find-absent e.0 es (IsDistinct-head row_eq e.0 (keys_of es) once)) in
        absurd cc
    by q n false is found = h q n (ap (λ c. cond c (Some e.1) (find row_cmp q es)) is ∙ found)

-- a number that isn't negative and isn't 0 is at least 1
at_least : (n : ℤ) → pos 0 ≤ℤ n → n ≢ pos 0 → pos 1 ≤ℤ n
at_least n h k = omega (arith, ints, h, k)

-- so a bag without negative counts has each of its rows once at least
pub each_there : (bag : Counts) → IsBag bag → IsNotNegative (entries bag) → Each (λ w. pos 1 ≤ℤ w.1) (entries bag)
each_there bag is h =
    each_found (λ n. pos 1 ≤ℤ n) (entries bag) (IsDistinct-entries bag) (λ q n found.
    let has : get bag q ≡ Some n = get-entries bag q ∙ found in
    at_least n
    (subst (λ z. pos 0 ≤ℤ z) (count-entries bag q ∙ ap (λ o. unwrap_or o (pos 0)) has) (h.counts q))
    (λ zero. is.no_zero q (has ∙ ap Some zero)))
