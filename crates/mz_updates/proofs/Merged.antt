-- Sorted, carried and without what is 0: the updates are consolidated, and contain what they did.
use Rattle.std.proofs.Common.{◌≡◌, ℕ, ◌+◌, ◌<◌, ◌≤◌, ◌==◌, Bool, true, false, not, cond, ℤ, pos, negsuc, ◌+ℤ◌, ◌-ℤ◌, List, [], ◌∷◌, sum_by, IsPermutation, IsSorted, FitsSigned, refl, sym, ap, ◌∙◌, subst, arith}
use Rattle.std.proofs.lemmas.Int.{ints, int_wrap_fits}
use Rattle.std.proofs.lemmas.List.Sums.{sum_by-cons}
use Rattle.std.proofs.lemmas.List.Sorted.{sum_by-IsPermutation, All-permutation}
use Rattle.std.proofs.lemmas.List.Elements.{All-from_recursion, recursion_from_All}
use Rattle.std.specs.Int.{w128, int_wrap}
use Rattle.std.specs.List.{AllByRecursion as Each}
use Rattle.std.specs.Ordering.{int_eq}
use Rattle.mz_value.specs.declared.datum.Datum.{Datum}
use Rattle.mz_value.specs.Row.{row_eq}
use Rattle.mz_bag.specs.Weighted.{count}
use Rattle.mz_updates.specs.declared.update.Update.{Update}
use Rattle.mz_updates.specs.Carrying.{is_twin, emptied, joined, carried_on, carried, with_change, AreInRange}
use Rattle.mz_updates.specs.Consolidated.{update_cmp, IsConsolidated}
use Rattle.mz_updates.specs.Contents.{weights, at, changes, HasSums, IsBefore, IsFrom, SameContents}
use Rattle.mz_updates.proofs.ContentsLaws.{same_changes}
use Rattle.mz_updates.proofs.CarriedLists.{sorted_in_order, strict_carried, no_zero_carried, wraps_left, consolidated_fits}

-- ---- another order

-- how much of a number is above 0, and how much below
abbrev above : ℤ → ℕ
above (pos n) = n
above (negsuc n) = 0

abbrev under : ℤ → ℕ
under (pos n) = 0
under (negsuc n) = n + 1

parts : (z : ℤ) → z ≡ pos (above z) -ℤ pos (under z)
parts (pos n) = omega (arith, ints)
parts (negsuc n) = omega (arith, ints)

-- what an update adds to a row's count at a time, and what it takes
adds : List Datum → ℕ → Update → ℕ
adds row t u = cond (u.time == t) (cond (row_eq row u.row) (above u.diff) 0) 0

takes : List Datum → ℕ → Update → ℕ
takes row t u = cond (u.time == t) (cond (row_eq row u.row) (under u.diff) 0) 0

-- a change is the difference of two sums of numbers
change_parts : (row : List Datum) (t : ℕ) (us : List Update)
    → count row (changes t us) ≡ pos (sum_by (adds row t) us) -ℤ pos (sum_by (takes row t) us)
unfolding adds takes
change_parts row t [] = refl
change_parts row t (u ∷ us) = by (u.time == t) (change_parts row t us)
    ∙ sym (λ i. pos (sum_by-cons (adds row t) u us i) -ℤ pos (sum_by-cons (takes row t) u us i))
  where
    by : (c : Bool) → count row (changes t us) ≡ pos (sum_by (adds row t) us) -ℤ pos (sum_by (takes row t) us)
        → count row (weights (cond c (u ∷ at t us) (at t us)))
        ≡ pos (cond c (cond (row_eq row u.row) (above u.diff) 0) 0 + sum_by (adds row t) us)
        -ℤ pos (cond c (cond (row_eq row u.row) (under u.diff) 0) 0 + sum_by (takes row t) us)
    by false h = omega (arith, ints, h)
    by true h = in_row (row_eq row u.row)
      where
        in_row : (e : Bool) → cond e u.diff (pos 0) +ℤ count row (changes t us)
            ≡ pos (cond e (above u.diff) 0 + sum_by (adds row t) us) -ℤ pos (cond e (under u.diff) 0 + sum_by (takes row t) us)
        in_row true = omega (arith, ints, h, parts u.diff)
        in_row false = omega (arith, ints, h)

-- so lists in another order change the same
pub permuted_changes : (us vs : List Update) → IsPermutation us vs → (t : ℕ) (row : List Datum) → count row (changes t us) ≡ count row (changes t vs)
permuted_changes us vs h t row =
    change_parts row t us
    ∙ sym (λ i. pos (sum_by-IsPermutation (adds row t) us vs h i) -ℤ pos (sum_by-IsPermutation (takes row t) us vs h i))
    ∙ sym (change_parts row t vs)

-- ---- what is merged

-- what each change is comes out of its last i128, since that fits
merged_changes : (us vs : List Update) → HasSums us → IsPermutation us vs → IsSorted update_cmp vs → AreInRange (with_change (carried vs))
    → (t : ℕ) (row : List Datum) → count row (changes t (with_change (carried vs))) ≡ count row (changes t us)
merged_changes us vs sums moved sorted fit t row =
    let left = with_change (carried vs) in
    let now : FitsSigned w128 (count row (changes t left)) = consolidated_fits left (strict_carried vs (sorted_in_order vs sorted)) fit t row in
    sym (int_wrap_fits w128 (count row (changes t left)) now)
    ∙ wraps_left t row vs ∙ ap (int_wrap w128) (sym (permuted_changes us vs moved t row))
    ∙ int_wrap_fits w128 (count row (changes t us)) (sums.fits t row)

pub merged_same : (us vs ws : List Update) → HasSums us → IsPermutation us vs → IsSorted update_cmp vs → ws ≡ with_change (carried vs) → AreInRange ws → SameContents ws us
merged_same us vs ws sums moved sorted is fit =
    subst (λ xs. SameContents xs us) (sym is) (same_changes (with_change (carried vs)) us (merged_changes us vs sums moved sorted (subst AreInRange is fit)))

pub merged_consolidated : (vs ws : List Update) → IsSorted update_cmp vs → ws ≡ with_change (carried vs) → IsConsolidated ws
merged_consolidated vs ws sorted is =
    subst IsConsolidated (sym is) (record { in_order = strict_carried vs (sorted_in_order vs sorted); no_zero = no_zero_carried vs })

-- ---- its times

-- what holds of each time holds of each time that is carried on
times_on : (P : ℕ → Type 0) (u : Update) (us : List Update) → P u.time → Each (λ v. P v.time) us → Each (λ v. P v.time) (carried_on u us)
times_on P u [] h k = (h, tt)
times_on P u (v ∷ us) h k = by (is_twin u v) (times_on P (joined u v) us k.0 k.1) (times_on P v us k.0 k.1)
  where
    by : (c : Bool) → Each (λ v. P v.time) (carried_on (joined u v) us) → Each (λ v. P v.time) (carried_on v us)
        → Each (λ v. P v.time) (cond c (emptied u ∷ carried_on (joined u v) us) (u ∷ carried_on v us))
    by true with_both alone = (h, with_both)
    by false with_both alone = (h, alone)

times_carried : (P : ℕ → Type 0) (us : List Update) → Each (λ v. P v.time) us → Each (λ v. P v.time) (carried us)
times_carried P [] h = tt
times_carried P (u ∷ us) h = times_on P u us h.0 h.1

-- and of each that is kept
times_kept : (P : ℕ → Type 0) (us : List Update) → Each (λ v. P v.time) us → Each (λ v. P v.time) (with_change us)
times_kept P [] h = tt
times_kept P (u ∷ us) h = by (not (int_eq u.diff (pos 0))) (times_kept P us h.1)
  where
    by : (c : Bool) → Each (λ v. P v.time) (with_change us) → Each (λ v. P v.time) (cond c (u ∷ with_change us) (with_change us))
    by true k = (h.0, k)
    by false k = k

merged_times : (P : ℕ → Type 0) (us vs : List Update) → IsPermutation us vs → Each (λ v. P v.time) us → Each (λ v. P v.time) (with_change (carried vs))
merged_times P us vs moved h =
    times_kept P (carried vs) (times_carried P vs (recursion_from_All (λ v. P v.time) vs (All-permutation (λ v. P v.time) us vs moved (All-from_recursion (λ v. P v.time) us h))))

pub merged_from : (us vs ws : List Update) → IsPermutation us vs → ws ≡ with_change (carried vs) → (lower : ℕ) → IsFrom lower us → IsFrom lower ws
merged_from us vs ws moved is lower h = subst (IsFrom lower) (sym is) (record { each = merged_times (λ t. lower ≤ t) us vs moved h.each })

pub merged_before : (us vs ws : List Update) → IsPermutation us vs → ws ≡ with_change (carried vs) → (upper : ℕ) → IsBefore upper us → IsBefore upper ws
merged_before us vs ws moved is upper h = subst (IsBefore upper) (sym is) (record { each = merged_times (λ t. t < upper) us vs moved h.each })
