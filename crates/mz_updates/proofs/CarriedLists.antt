-- What a list in order is once its diffs are carried and those of 0 dropped: in strict order, with the same changes.
use Rattle.std.proofs.Common.{◌≡◌, ◌≢◌, ℕ, suc, ◌+◌, ◌==◌, Bool, true, false, not, cond, ℤ, pos, ◌+ℤ◌, List, [], ◌∷◌, IsSorted, get_or, FitsSigned, refl, sym, ap, subst, ◌∙◌, true≢false, rules, arith}
use Rattle.std.proofs.lemmas.Bool.Decides.{nat_tests}
use Rattle.std.proofs.lemmas.Int.{ints, int_wrap_fits, int_wrap-add_same, SFits-int_wrap}
use Rattle.std.specs.Bool.{⊤}
use Rattle.std.specs.Int.{w128, int_wrap}
use Rattle.std.specs.List.{AllByRecursion as Each}
use Rattle.std.specs.List.Sorted.{IsStrictlySortedBy}
use Rattle.std.specs.Ordering.{nat_cmp, int_eq, is_lt, is_eq, is_gt, ordering_then, ordering_reverse}
use Rattle.std.specs.declared.cmp.Ordering.{Ordering}
use Rattle.std.specs.declared.cmp.Ordering.TheVariants.{Less, Equal, Greater}
use Rattle.std.specs.Cmp.{IsTotalOrder, signed_Decides}
use Rattle.std.specs.FinMap.{nat_cmp-IsAntisymmetric}
use Rattle.std.proofs.lemmas.Cmp.{upto, tied_itself, alike_right, on_total, then_total, nat_cmp_total}
use Rattle.mz_value.specs.declared.datum.Datum.{Datum}
use Rattle.mz_value.specs.Row.{row_cmp, row_eq}
use Rattle.mz_value.specs.RowOrder.{row_total, row_exact, row_eq-Decides}
use Rattle.mz_bag.specs.Weighted.{count}
use Rattle.mz_updates.specs.declared.update.Update.{Update}
use Rattle.mz_updates.specs.Consolidated.{update_cmp}
use Rattle.mz_updates.specs.Carrying.{is_twin, emptied, joined, carried_on, carried, with_change, AreInRange}
use Rattle.mz_updates.specs.Contents.{changes}
use Rattle.mz_updates.proofs.ContentsLaws.{amount, count-changes}

-- ---- the order of updates

-- it is total
pub update_total : IsTotalOrder update_cmp
update_total = then_total (on_total (λ u. u.time) nat_cmp_total) (on_total (λ u. u.row) row_total)

-- two orders one after the other tie where both do
both_tie : (r s : Ordering) → is_eq (ordering_then r s) ≡ true → (r ≡ Equal) × (s ≡ Equal)
both_tie Less s h = absurd (true≢false (sym h))
both_tie Equal Less h = absurd (true≢false (sym h))
both_tie Equal Equal h = (refl, refl)
both_tie Equal Greater h = absurd (true≢false (sym h))
both_tie Greater s h = absurd (true≢false (sym h))

-- twins have one time and one row
twin_time : (u v : Update) → is_twin u v ≡ true → u.time ≡ v.time
twin_time u v h = nat_cmp-IsAntisymmetric u.time v.time (both_tie (nat_cmp u.time v.time) (row_cmp u.row v.row) h).0

twin_row : (u v : Update) → is_twin u v ≡ true → u.row ≡ v.row
twin_row u v h = row_exact u.row v.row (both_tie (nat_cmp u.time v.time) (row_cmp u.row v.row) h).1

-- what is not greater, and no twin, is less
less_apart : (r : Ordering) → is_gt r ≡ false → is_eq r ≡ false → r ≡ Less
less_apart Less h k = refl
less_apart Equal h k = absurd (true≢false k)
less_apart Greater h k = absurd (true≢false h)

-- what is less is not greater, and no twin
not_greater : (r : Ordering) → r ≡ Less → is_gt r ≡ false
not_greater r h = ap is_gt h

not_tied : (r : Ordering) → r ≡ Less → is_eq r ≡ false
not_tied r h = ap is_eq h

-- less than one that is not greater than a third is less than that
less_then : (u v w : Update) → update_cmp u v ≡ Less → is_gt (update_cmp v w) ≡ false → update_cmp u w ≡ Less
less_then u v w h k = by (update_cmp v w) refl
  where
    by : (r : Ordering) → update_cmp v w ≡ r → update_cmp u w ≡ Less
    by Less e = update_total.trans u v w h e
    by Equal e = sym (alike_right update_total v w u e) ∙ h
    by Greater e = absurd (true≢false (sym (ap is_gt e) ∙ k))

-- ---- lists in order

-- each update is not after any later one
abbrev pub InOrder : List Update → Type 0
InOrder [] = ⊤
InOrder (u ∷ us) = Each (λ v. is_gt (update_cmp u v) ≡ false) us × InOrder us

-- where the second of two is not less, the first is not greater
turned : (u v : Update) → is_lt (update_cmp v u) ≡ false → is_gt (update_cmp u v) ≡ false
turned u v h = ap is_gt (update_total.antisymm u v) ∙ by (update_cmp v u) h
  where
    by : (r : Ordering) → is_lt r ≡ false → is_gt (ordering_reverse r) ≡ false
    by Less k = absurd (true≢false k)
    by Equal k = refl
    by Greater k = refl

-- what is not after the first of a list in order is not after any of it
onward : (u v : Update) (us : List Update) → is_gt (update_cmp u v) ≡ false → Each (λ w. is_gt (update_cmp v w) ≡ false) us → Each (λ w. is_gt (update_cmp u w) ≡ false) us
onward u v [] h k = tt
onward u v (w ∷ us) h k = (upto update_total u v w h k.0, onward u v us h k.1)

-- what is left of a sorted list is sorted
sorted_rest : (u : Update) (us : List Update) → IsSorted update_cmp (u ∷ us) → IsSorted update_cmp us
sorted_rest u us h k d a b = subst (λ n. is_lt (update_cmp (get_or (u ∷ us) n d) (get_or us k d)) ≡ false) (step k) (h (suc k) d (omega arith) (omega arith))
  where
    step : (k : ℕ) → suc k + 1 ≡ suc (k + 1)
    step k = omega arith

-- a list that is sorted is in order
pub sorted_in_order : (us : List Update) → IsSorted update_cmp us → InOrder us
sorted_in_order [] h = tt
sorted_in_order (u ∷ []) h = (tt, tt)
sorted_in_order (u ∷ v ∷ us) h =
    let rest : InOrder (v ∷ us) = sorted_in_order (v ∷ us) (sorted_rest u (v ∷ us) h) in
    let first : is_gt (update_cmp u v) ≡ false = turned u v (h 0 u (omega arith) (omega arith)) in
    ((first, onward u v us first rest.0), rest)

-- ---- the order is strict in the end

-- none is after any of these that has a change
kept_above : (u : Update) (us : List Update) → Each (λ w. is_gt (update_cmp u w) ≡ false) us → Each (λ w. is_gt (update_cmp u w) ≡ false) (with_change us)
kept_above u [] h = tt
kept_above u (w ∷ us) h = by (not (int_eq w.diff (pos 0))) (kept_above u us h.1)
  where
    by : (c : Bool) → Each (λ w. is_gt (update_cmp u w) ≡ false) (with_change us) → Each (λ w. is_gt (update_cmp u w) ≡ false) (cond c (w ∷ with_change us) (with_change us))
    by true k = (h.0, k)
    by false k = k

-- less than one that is not greater than any of a list is less than all of it
all_less : (u v : Update) (us : List Update) → update_cmp u v ≡ Less → Each (λ w. is_gt (update_cmp v w) ≡ false) us → Each (λ w. update_cmp u w ≡ Less) us
all_less u v [] h k = tt
all_less u v (w ∷ us) h k = (less_then u v w h k.0, all_less u v us h k.1)

-- updates in strict order, of which the first stands before none
pub record IsStrictFrom (u : Update) (us : List Update) : Type 0 where
  pub above : Each (λ w. is_gt (update_cmp u w) ≡ false) us
  pub strict : IsStrictlySortedBy update_cmp us

-- no update with a change
strict_nil : (u : Update) → IsStrictFrom u []
unfolding IsStrictlySortedBy
strict_nil u = record { above = tt; strict = tt }

-- one update, and those that it is less than, where it has a change
strict_cons : (c : Bool) (u : Update) (us : List Update) → Each (λ w. update_cmp u w ≡ Less) us → IsStrictlySortedBy update_cmp us → IsStrictFrom u (cond c (u ∷ us) us)
unfolding IsStrictlySortedBy
strict_cons true u us h k = record { above = (ap is_gt (tied_itself update_total u), none_above us h); strict = (h, k) }
  where
    none_above : (vs : List Update) → Each (λ w. update_cmp u w ≡ Less) vs → Each (λ w. is_gt (update_cmp u w) ≡ false) vs
    none_above [] h = tt
    none_above (w ∷ vs) h = (not_greater _ h.0, none_above vs h.1)
strict_cons false u us h k = record { above = none_above us h; strict = k }
  where
    none_above : (vs : List Update) → Each (λ w. update_cmp u w ≡ Less) vs → Each (λ w. is_gt (update_cmp u w) ≡ false) vs
    none_above [] h = tt
    none_above (w ∷ vs) h = (not_greater _ h.0, none_above vs h.1)

-- what is left of a list in order, once carried
strict_on : (u : Update) (us : List Update) → Each (λ w. is_gt (update_cmp u w) ≡ false) us → InOrder us → IsStrictFrom u (with_change (carried_on u us))
strict_on u [] h k = strict_cons (not (int_eq u.diff (pos 0))) u [] tt (strict_nil u).strict
strict_on u (v ∷ us) h k = by (is_twin u v) refl (strict_on (joined u v) us k.0 k.1) (strict_on v us k.0 k.1)
  where
    by : (c : Bool) → is_twin u v ≡ c → IsStrictFrom (joined u v) (with_change (carried_on (joined u v) us)) → IsStrictFrom v (with_change (carried_on v us))
        → IsStrictFrom u (with_change (cond c (emptied u ∷ carried_on (joined u v) us) (u ∷ carried_on v us)))
    by true e rest alone = record { above = onward u v (with_change (carried_on (joined u v) us)) h.0 rest.above; strict = rest.strict }
    by false e both rest =
        let less : update_cmp u v ≡ Less = less_apart (update_cmp u v) h.0 e in
        strict_cons (not (int_eq u.diff (pos 0))) u (with_change (carried_on v us)) (all_less u v (with_change (carried_on v us)) less rest.above) rest.strict

pub strict_carried : (us : List Update) → InOrder us → IsStrictlySortedBy update_cmp (with_change (carried us))
unfolding IsStrictlySortedBy
strict_carried [] h = tt
strict_carried (u ∷ us) h = (strict_on u us h.0 h.1).strict

-- ---- none is 0

changed : (us : List Update) → Each (λ u. u.diff ≢ pos 0) (with_change us)
changed [] = tt
changed (u ∷ us) = by (int_eq u.diff (pos 0)) refl (changed us)
  where
    by : (c : Bool) → int_eq u.diff (pos 0) ≡ c → Each (λ u. u.diff ≢ pos 0) (with_change us) → Each (λ u. u.diff ≢ pos 0) (cond (not c) (u ∷ with_change us) (with_change us))
    by true e h = h
    by false e h = ((λ z. true≢false (sym ((signed_Decides u.diff (pos 0)).1 z) ∙ e)), h)

pub no_zero_carried : (us : List Update) → Each (λ u. u.diff ≢ pos 0) (with_change (carried us))
no_zero_carried us = changed (carried us)

-- ---- the changes stay

-- sums of numbers that wrap alike wrap alike
wraps_both : (a b c d : ℤ) → int_wrap w128 a ≡ int_wrap w128 c → int_wrap w128 b ≡ int_wrap w128 d → int_wrap w128 (a +ℤ b) ≡ int_wrap w128 (c +ℤ d)
wraps_both a b c d h k =
    int_wrap-add_same w128 a c b h
    ∙ ap (int_wrap w128) (swapped c b) ∙ int_wrap-add_same w128 b d c k ∙ ap (int_wrap w128) (swapped d c)
  where
    swapped : (x y : ℤ) → x +ℤ y ≡ y +ℤ x
    swapped x y = omega (arith, ints)

-- a number wraps to what wraps alike
wraps_again : (z : ℤ) → int_wrap w128 (int_wrap w128 z) ≡ int_wrap w128 z
wraps_again z = int_wrap_fits w128 (int_wrap w128 z) (SFits-int_wrap w128 z)

-- twins change together what the second changes once the first's diff is added to its own
wraps_joined : (t : ℕ) (row : List Datum) (u v : Update) → is_twin u v ≡ true → int_wrap w128 (amount t row (joined u v)) ≡ int_wrap w128 (amount t row u +ℤ amount t row v)
wraps_joined t row u v e =
    by (v.time == t) (row_eq row v.row)
    ∙ ap (int_wrap w128) (λ i. cond (sym (twin_time u v e) i == t) (cond (row_eq row (sym (twin_row u v e) i)) u.diff (pos 0)) (pos 0) +ℤ amount t row v)
  where
    by : (c d : Bool) → int_wrap w128 (cond c (cond d (int_wrap w128 (v.diff +ℤ u.diff)) (pos 0)) (pos 0)) ≡ int_wrap w128 (cond c (cond d u.diff (pos 0)) (pos 0) +ℤ cond c (cond d v.diff (pos 0)) (pos 0))
    by true true = wraps_again (v.diff +ℤ u.diff) ∙ ap (int_wrap w128) (omega (arith, ints))
    by true false = ap (int_wrap w128) (omega (arith, ints))
    by false d = ap (int_wrap w128) (omega (arith, ints))

-- what is emptied changes nothing
nothing_emptied : (t : ℕ) (row : List Datum) (u : Update) → amount t row (emptied u) ≡ pos 0
nothing_emptied t row u = by (u.time == t) (row_eq row u.row)
  where
    by : (c d : Bool) → cond c (cond d (pos 0) (pos 0)) (pos 0) ≡ pos 0
    by true true = refl
    by true false = refl
    by false d = refl

-- a carried list changes the same, but for what wraps
wraps_on : (t : ℕ) (row : List Datum) (u : Update) (us : List Update) → int_wrap w128 (count row (changes t (carried_on u us))) ≡ int_wrap w128 (count row (changes t (u ∷ us)))
wraps_on t row u [] = refl
wraps_on t row u (v ∷ us) = by (is_twin u v) refl (wraps_on t row (joined u v) us) (wraps_on t row v us)
  where
    by : (c : Bool) → is_twin u v ≡ c → int_wrap w128 (count row (changes t (carried_on (joined u v) us))) ≡ int_wrap w128 (count row (changes t (joined u v ∷ us)))
        → int_wrap w128 (count row (changes t (carried_on v us))) ≡ int_wrap w128 (count row (changes t (v ∷ us)))
        → int_wrap w128 (count row (changes t (cond c (emptied u ∷ carried_on (joined u v) us) (u ∷ carried_on v us)))) ≡ int_wrap w128 (count row (changes t (u ∷ v ∷ us)))
    by true e both alone =
        let rest = carried_on (joined u v) us in
        ap (int_wrap w128) (count-changes t row (emptied u) rest ∙ ap (λ z. z +ℤ count row (changes t rest)) (nothing_emptied t row u) ∙ omega (arith, ints))
        ∙ both
        ∙ ap (int_wrap w128) (count-changes t row (joined u v) us)
        ∙ wraps_both (amount t row (joined u v)) (count row (changes t us)) (amount t row u +ℤ amount t row v) (count row (changes t us)) (wraps_joined t row u v e) refl
        ∙ ap (int_wrap w128) (omega (arith, ints, count-changes t row u (v ∷ us), count-changes t row v us))
    by false e both alone =
        let rest = carried_on v us in
        ap (int_wrap w128) (count-changes t row u rest)
        ∙ wraps_both (amount t row u) (count row (changes t rest)) (amount t row u) (count row (changes t (v ∷ us))) refl alone
        ∙ ap (int_wrap w128) (sym (count-changes t row u (v ∷ us)))

wraps_carried : (t : ℕ) (row : List Datum) (us : List Update) → int_wrap w128 (count row (changes t (carried us))) ≡ int_wrap w128 (count row (changes t us))
wraps_carried t row [] = refl
wraps_carried t row (u ∷ us) = wraps_on t row u us

-- a diff of 0 changes nothing
nothing_zero : (t : ℕ) (row : List Datum) (u : Update) → u.diff ≡ pos 0 → amount t row u ≡ pos 0
nothing_zero t row u e = (λ i. cond (u.time == t) (cond (row_eq row u.row) (e i) (pos 0)) (pos 0)) ∙ nothing_emptied t row u

-- so those without one change the same
count-with_change : (t : ℕ) (row : List Datum) (us : List Update) → count row (changes t (with_change us)) ≡ count row (changes t us)
count-with_change t row [] = refl
count-with_change t row (u ∷ us) = by (int_eq u.diff (pos 0)) refl (count-with_change t row us) ∙ sym (count-changes t row u us)
  where
    by : (c : Bool) → int_eq u.diff (pos 0) ≡ c → count row (changes t (with_change us)) ≡ count row (changes t us)
        → count row (changes t (cond (not c) (u ∷ with_change us) (with_change us))) ≡ amount t row u +ℤ count row (changes t us)
    by true e h = h ∙ (let none : amount t row u ≡ pos 0 = nothing_zero t row u ((signed_Decides u.diff (pos 0)).0 e) in omega (arith, ints))
    by false e h = count-changes t row u (with_change us) ∙ ap (λ z. amount t row u +ℤ z) h

pub wraps_left : (t : ℕ) (row : List Datum) (us : List Update) → int_wrap w128 (count row (changes t (with_change (carried us)))) ≡ int_wrap w128 (count row (changes t us))
wraps_left t row us = ap (int_wrap w128) (count-with_change t row (carried us)) ∙ wraps_carried t row us

-- ---- in strict order no change is a sum of two

-- updates after one of a row and time change nothing of it
nothing_after : (t : ℕ) (row : List Datum) (u : Update) (us : List Update) → (u.time == t) ≡ true → row_eq row u.row ≡ true → Each (λ w. update_cmp u w ≡ Less) us → count row (changes t us) ≡ pos 0
nothing_after t row u [] here same h = refl
nothing_after t row u (w ∷ us) here same h = by (w.time == t) (row_eq row w.row) refl refl (nothing_after t row u us here same h.1)
  where
    by : (c d : Bool) → (w.time == t) ≡ c → row_eq row w.row ≡ d → count row (changes t us) ≡ pos 0 → count row (changes t (w ∷ us)) ≡ pos 0
    by true true e f k =
        let one : u.row ≡ w.row = sym ((row_eq-Decides row u.row).0 same) ∙ (row_eq-Decides row w.row).0 f in
        let then : u.time ≡ w.time = grind (arith, nat_tests) in
        let tied : update_cmp u w ≡ Equal = (λ i. ordering_then (nat_cmp u.time (sym then i)) (row_cmp u.row (sym one i))) ∙ tied_itself update_total u in
        absurd (true≢false (sym (ap is_eq tied) ∙ ap is_eq h.0))
    by true false e f k = count-changes t row w us ∙ (λ i. cond (e i) (cond (f i) w.diff (pos 0)) (pos 0) +ℤ k i)
    by false d e f k = count-changes t row w us ∙ (λ i. cond (e i) (cond (row_eq row w.row) w.diff (pos 0)) (pos 0) +ℤ k i)

-- so each change is one diff, or none
strict_fits : (us : List Update) → IsStrictlySortedBy update_cmp us → Each (λ u. FitsSigned w128 u.diff) us → (t : ℕ) (row : List Datum) → FitsSigned w128 (count row (changes t us))
unfolding IsStrictlySortedBy
strict_fits [] h k t row = search (rules, ints)
strict_fits (u ∷ us) h k t row = by (u.time == t) (row_eq row u.row) refl refl (strict_fits us h.1 k.1 t row)
  where
    alone : (z : ℤ) → count row (changes t us) ≡ pos 0 → FitsSigned w128 z → FitsSigned w128 (z +ℤ count row (changes t us))
    alone z none fits = let same : z ≡ z +ℤ count row (changes t us) = omega (arith, ints) in subst (FitsSigned w128) same fits

    other : count row (changes t (u ∷ us)) ≡ pos 0 +ℤ count row (changes t us) → FitsSigned w128 (count row (changes t us)) → FitsSigned w128 (count row (changes t (u ∷ us)))
    other same fits = let rest : count row (changes t us) ≡ count row (changes t (u ∷ us)) = omega (arith, ints, same) in subst (FitsSigned w128) rest fits

    by : (c d : Bool) → (u.time == t) ≡ c → row_eq row u.row ≡ d → FitsSigned w128 (count row (changes t us)) → FitsSigned w128 (count row (changes t (u ∷ us)))
    by true true e f fits = subst (FitsSigned w128) (sym (count-changes t row u us ∙ (λ i. cond (e i) (cond (f i) u.diff (pos 0)) (pos 0) +ℤ count row (changes t us)))) (alone u.diff (nothing_after t row u us e f h.0) k.0)
    by true false e f fits = other (count-changes t row u us ∙ (λ i. cond (e i) (cond (f i) u.diff (pos 0)) (pos 0) +ℤ count row (changes t us))) fits
    by false d e f fits = other (count-changes t row u us ∙ (λ i. cond (e i) (cond (row_eq row u.row) u.diff (pos 0)) (pos 0) +ℤ count row (changes t us))) fits

pub consolidated_fits : (us : List Update) → IsStrictlySortedBy update_cmp us → AreInRange us → (t : ℕ) (row : List Datum) → FitsSigned w128 (count row (changes t us))
consolidated_fits us h k = strict_fits us h k.each
