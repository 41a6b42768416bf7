-- Updates at one time, added up row by row.
use Rattle.std.proofs.Common.{◌≡◌, ℕ, zero, suc, ◌+◌, ◌<◌, ◌≤◌, ◌==◌, nat_le, Bool, true, false, cond, ℤ, pos, ◌+ℤ◌, List, [], ◌∷◌, length, FitsSigned, refl, sym, ap, subst, ◌∙◌, rules, arith}
use Rattle.std.proofs.lemmas.Bool.Decides.{nat_tests}
use Rattle.std.proofs.lemmas.Int.{ints}
use Rattle.std.proofs.lemmas.Cmp.{tied_itself, nat_cmp_total}
use Rattle.std.specs.Int.{w128}
use Rattle.std.specs.List.{AllByRecursion as Each, IsDistinct}
use Rattle.std.specs.List.Sorted.{IsStrictlySortedBy}
use Rattle.std.specs.Map.{keys_of}
use Rattle.std.specs.Ordering.{nat_cmp, ordering_then, is_eq}
use Rattle.std.specs.declared.cmp.Ordering.TheVariants.{Less, Equal}
use Rattle.mz_value.specs.declared.datum.Datum.{Datum}
use Rattle.mz_value.specs.Row.{row_cmp, row_eq}
use Rattle.mz_bag.specs.Bag.{Fits}
use Rattle.mz_bag.specs.Weighted.{count}
use Rattle.mz_updates.specs.declared.update.Update.{Update}
use Rattle.mz_updates.specs.Consolidated.{update_cmp, IsConsolidated}
use Rattle.mz_updates.specs.Contents.{weights, at, contents, changes, compacted, FitsFrom, HasSums, IsBefore, IsFrom, SameContents}
use Rattle.mz_updates.proofs.ContentsLaws.{contents-before, contents-from, changes-from, count-at_first, count-at_next, contents-compacted, IsFrom-compacted, IsBefore-compacted, weights-compacted}

-- a count within the bound is an i128
pub fits_signed : (z : ℤ) → Fits z → FitsSigned w128 z
fits_signed z h = let low = h.low in let high = h.high in search (rules, ints)

-- a list of length 0 has no update
pub no_update : (us : List Update) → length us ≡ 0 → us ≡ []
no_update [] h = refl
no_update (u ∷ us) h = cc

-- ---- updates at one time

-- each is at this time
abbrev AreAt : ℕ → List Update → Type 0
AreAt t us = Each (λ u. u.time ≡ t) us

-- what begins at a time and ends before the next is at that time
are_at : (t : ℕ) (us : List Update) → Each (λ u. t ≤ u.time) us → Each (λ u. u.time < t + 1) us → AreAt t us
are_at t [] h k = tt
are_at t (u ∷ us) h k = (omega (arith, h.0, k.0), are_at t us h.1 k.1)

-- it changes all that it has at that time
changes_there : (t : ℕ) (us : List Update) → AreAt t us → changes t us ≡ weights us
changes_there t [] h = refl
changes_there t (u ∷ us) h =
    let here : (u.time == t) ≡ true = grind (arith, nat_tests, h.0) in
    ap (λ c. weights (cond c (u ∷ at t us) (at t us))) here ∙ ap (λ ws. (u.row, u.diff) ∷ ws) (changes_there t us h.1)

-- and nothing at another
changes_elsewhere : (t s : ℕ) (us : List Update) → AreAt t us → (t == s) ≡ false → changes s us ≡ []
changes_elsewhere t s [] h k = refl
changes_elsewhere t s (u ∷ us) h k =
    let other : (u.time == s) ≡ false = ap (λ n. n == s) h.0 ∙ k in
    ap (λ c. weights (cond c (u ∷ at s us) (at s us))) other ∙ changes_elsewhere t s us h.1 k

-- so where its rows' counts are within the bound, its sums are too
sums_at : (t : ℕ) (us : List Update) → AreAt t us → ((row : List Datum) → Fits (count row (weights us))) → HasSums us
sums_at t us h fits = record { fits = λ s row. by s row (t == s) refl }
  where
    by : (s : ℕ) (row : List Datum) (c : Bool) → (t == s) ≡ c → FitsSigned w128 (count row (changes s us))
    by s row true e =
        let same : t ≡ s = grind (arith, nat_tests) in
        subst (λ n. FitsSigned w128 (count row (changes n us))) same (subst (λ ws. FitsSigned w128 (count row ws)) (sym (changes_there t us h)) (fits_signed (count row (weights us)) (fits row)))
    by s row false e =
        let none : FitsSigned w128 (pos 0) = search (rules, ints) in
        subst (λ ws. FitsSigned w128 (count row ws)) (sym (changes_elsewhere t s us h e)) none

-- updates up to a time, moved up to it, have sums
pub sums_compacted : (t : ℕ) (us : List Update) → IsBefore (t + 1) us → ((row : List Datum) → Fits (count row (weights us))) → HasSums (compacted t us)
sums_compacted t us h fits =
    let now : IsBefore (t + 1) (compacted t us) = IsBefore-compacted t (t + 1) us (omega arith) h in
    sums_at t (compacted t us) (are_at t (compacted t us) (IsFrom-compacted t us).each now.each)
    (λ row. subst (λ ws. Fits (count row ws)) (sym (weights-compacted t us)) (fits row))

-- ---- rows at one time

-- of two updates at one time the first stands before the second by its row
row_less : (t : ℕ) (u w : Update) → u.time ≡ t → w.time ≡ t → update_cmp u w ≡ Less → row_eq u.row w.row ≡ false
row_less t u w h k less =
    let tied : nat_cmp u.time w.time ≡ Equal = (λ i. nat_cmp (h i) (k i)) ∙ tied_itself nat_cmp_total t in
    let rows : row_cmp u.row w.row ≡ Less = sym (ap (λ r. ordering_then r (row_cmp u.row w.row)) tied) ∙ less in
    ap is_eq rows

-- so those after one have other rows
rows_apart : (t : ℕ) (u : Update) (us : List Update) → u.time ≡ t → AreAt t us → Each (λ w. update_cmp u w ≡ Less) us → Each (λ k. row_eq u.row k ≡ false) (keys_of (weights us))
rows_apart t u [] h k less = tt
rows_apart t u (w ∷ us) h k less = (row_less t u w h k.0 less.0, rows_apart t u us h k.1 less.1)

-- and no row stands twice
rows_once : (t : ℕ) (us : List Update) → AreAt t us → IsStrictlySortedBy update_cmp us → IsDistinct row_eq (keys_of (weights us))
unfolding IsStrictlySortedBy IsDistinct
rows_once t [] h strict = tt
rows_once t (u ∷ us) h strict = (rows_apart t u us h.0 h.1 strict.0, rows_once t us h.1 strict.1)

pub consolidated_once : (t : ℕ) (us : List Update) → IsFrom t us → IsBefore (t + 1) us → IsConsolidated us → IsDistinct row_eq (keys_of (weights us))
consolidated_once t us from before is = rows_once t us (are_at t us from.each before.each) is.in_order

-- ---- what is merged counts as before

pub count_merged : (t : ℕ) (us vs : List Update) → IsBefore (t + 1) us → IsBefore (t + 1) vs → SameContents vs (compacted t us)
    → (row : List Datum) → count row (weights vs) ≡ count row (weights us)
count_merged t us vs before after same row =
    sym (ap (count row) (contents-before t (t + 1) vs after (omega arith)))
    ∙ same.counts t row ∙ ap (count row) (contents-compacted t t us (omega arith) ∙ contents-before t (t + 1) us before (omega arith))

-- ---- sums of what fits

-- two numbers within the bound differ by an i128
pub difference_fits : (a b z : ℤ) → Fits a → Fits b → b ≡ a +ℤ z → FitsSigned w128 z
difference_fits a b z h k e = let low = h.low in let high = h.high in let least = k.low in let most = k.high in search (rules, ints)

-- so what changes in contents that fit is one
pub sums_from : (since : ℕ) (us : List Update) → IsFrom since us → FitsFrom since us → HasSums us
sums_from since us from fits = record { fits = by }
  where
    none : FitsSigned w128 (pos 0)
    none = search (rules, ints)

    early : (t : ℕ) (row : List Datum) → t < since → FitsSigned w128 (count row (changes t us))
    early t row h = subst (λ ws. FitsSigned w128 (count row ws)) (sym (changes-from t since us from h)) none

    later : (t : ℕ) (row : List Datum) → since ≤ t → FitsSigned w128 (count row (changes t us))
    later zero row h = fits_signed (count row (changes 0 us)) (subst Fits (count-at_first row us) (fits.fits 0 row h))
    later (suc t) row h = by_first (nat_le since t) refl
      where
        by_first : (c : Bool) → nat_le since t ≡ c → FitsSigned w128 (count row (changes (suc t) us))
        by_first true e =
            let before : since ≤ t = grind (arith, nat_tests) in
            difference_fits (count row (contents t us)) (count row (contents (suc t) us)) (count row (changes (suc t) us)) (fits.fits t row before) (fits.fits (suc t) row h) (count-at_next t row us)
        by_first false e =
            let before : t < since = grind (arith, nat_tests) in
            let alone : count row (contents (suc t) us) ≡ count row (changes (suc t) us) =
            count-at_next t row us ∙ ap (λ ws. count row ws +ℤ count row (changes (suc t) us)) (contents-from t since us from before) ∙ omega (arith, ints) in
            fits_signed (count row (changes (suc t) us)) (subst Fits alone (fits.fits (suc t) row h))

    by : (t : ℕ) (row : List Datum) → FitsSigned w128 (count row (changes t us))
    by t row = by_side (nat_le since t) refl
      where
        by_side : (c : Bool) → nat_le since t ≡ c → FitsSigned w128 (count row (changes t us))
        by_side true e = later t row (grind (arith, nat_tests))
        by_side false e = early t row (grind (arith, nat_tests))
