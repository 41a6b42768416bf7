-- The parts of a table that a batch has.
use Rattle.std.proofs.Common.{◌≡◌, ℕ, zero, suc, ◌+◌, ◌-◌, ◌<◌, ◌≤◌, ◌==◌, ◌&&◌, nat_le, nat_lt, Bool, true, false, cond, pos, ◌+ℤ◌, List, [], ◌∷◌, ◌++◌, take, drop, length, get_or, FitsSigned, refl, sym, ap, subst, ◌∙◌, rules, arith}
use Rattle.std.proofs.lemmas.Bool.Decides.{nat_tests}
use Rattle.std.proofs.lemmas.Int.{ints}
use Rattle.std.proofs.Math.Seq.{take-length}
use Rattle.std.specs.Int.{w128}
use Rattle.std.specs.List.{AllByRecursion as Each}
use Rattle.mz_value.specs.declared.datum.Datum.{Datum}
use Rattle.mz_bag.specs.Bag.{count_in, Fits}
use Rattle.mz_bag.specs.Weighted.{count, bag_of}
use Rattle.mz_bag.proofs.BagLaws.{bag_of-same, count_in-bag_of}
use Rattle.mz_updates.specs.declared.update.Update.{Update}
use Rattle.mz_updates.specs.Batch.{AreChanges, AreContents}
use Rattle.mz_updates.specs.Contents.{weights, up_to, contents, at, changes, between, compacted, FitsFrom, HasSums, IsBefore, IsFrom, SameContents}
use Rattle.mz_updates.proofs.ContentsLaws.{filter-both, contents-compacted, between-up_to, changes-from, count-at_first, count-at_next, IsBefore-up_to, IsBefore-compacted}
use Rattle.mz_updates.proofs.RowBags.{difference_fits}
use Rattle.mz_tables.specs.Kept.{IsOrdered}
use Rattle.mz_tables.proofs.KeptLaws.{sums_compacted}

-- ---- where the updates from a time on begin

-- what holds of each of a list holds at each place
at_place : (P : Update → Type 0) (us : List Update) → Each P us → (k : ℕ) (d : Update) → k < length us → P (get_or us k d)
at_place P [] h k d l = absurd (omega arith)
at_place P (u ∷ us) h zero d l = h.0
at_place P (u ∷ us) h (suc k) d l = at_place P us h.1 k d (omega arith)

-- ordered times don't fall from one place to a later one
pub non_decreasing : (us : List Update) → IsOrdered us → (i j : ℕ) (d : Update) → i ≤ j → j < length us → (get_or us i d).time ≤ (get_or us j d).time
non_decreasing [] h i j d k l = absurd (omega arith)
non_decreasing (u ∷ us) h zero zero d k l = omega arith
non_decreasing (u ∷ us) h zero (suc j) d k l = at_place (λ v. u.time ≤ v.time) us h.0 j d (omega arith)
non_decreasing (u ∷ us) h (suc i) zero d k l = absurd (omega arith)
non_decreasing (u ∷ us) h (suc i) (suc j) d k l = non_decreasing us h.1 i j d (omega arith) (omega arith)

-- what holds at each place below one holds of the list up to it
pub each_taken : (P : Update → Type 0) (n : ℕ) (us : List Update) → ((k : ℕ) (d : Update) → k < n → k < length us → P (get_or us k d)) → Each P (take n us)
each_taken P zero us h = tt
each_taken P (suc n) [] h = tt
each_taken P (suc n) (u ∷ us) h = (h 0 u (omega arith) (omega arith), each_taken P n us (λ k d a b. h (suc k) d (omega arith) (omega arith)))

-- none of those before a time is from it on
none_between : (ready upper : ℕ) (us : List Update) → Each (λ u. u.time < ready) us → between ready upper us ≡ []
none_between ready upper [] h = refl
none_between ready upper (u ∷ us) h =
    let is : (nat_le ready u.time && nat_lt u.time upper) ≡ false = grind (arith, nat_tests, h.0) in
    ap (λ c. cond c (u ∷ between ready upper us) (between ready upper us)) is ∙ none_between ready upper us h.1

-- a list is its first part, and the rest
parted : (n : ℕ) (us : List Update) → take n us ++ drop n us ≡ us
parted zero us = refl
parted (suc n) [] = refl
parted (suc n) (u ∷ us) = ap (λ vs. u ∷ vs) (parted n us)

-- so those from it on are among the rest
pub between_rest : (ready upper n : ℕ) (us : List Update) → Each (λ u. u.time < ready) (take n us) → between ready upper (drop n us) ≡ between ready upper us
between_rest ready upper n us h =
    sym (ap (λ vs. vs ++ between ready upper (drop n us)) (none_between ready upper (take n us) h))
    ∙ sym (filter-both (λ u. nat_le ready u.time && nat_lt u.time upper) (take n us) (drop n us))
    ∙ ap (between ready upper) (parted n us)

-- the rest of a slice is all that is left
pub rest_whole : (n : ℕ) (us : List Update) → n ≤ length us → take (length us - n) (drop n us) ≡ drop n us
rest_whole n us h = ap (λ m. take m (drop n us)) (left n us h) ∙ take-length (drop n us)
  where
    left : (n : ℕ) (us : List Update) → n ≤ length us → length us - n ≡ length (drop n us)
    left zero us h = omega arith
    left (suc n) [] h = omega arith
    left (suc n) (u ∷ us) h = step (left n us (omega arith))
      where
        step : length us - n ≡ length (drop n us) → length (u ∷ us) - suc n ≡ length (drop n us)
        step e = omega (arith, e)

-- ---- what changed

-- between two times the same changes as in all
at_between : (t ready upper : ℕ) (us : List Update) → ready ≤ t → t < upper → at t (between ready upper us) ≡ at t us
at_between t ready upper [] h k = refl
at_between t ready upper (u ∷ us) h k = by (u.time == t) (nat_le ready u.time && nat_lt u.time upper) refl refl (at_between t ready upper us h k)
  where
    by : (c d : Bool) → (u.time == t) ≡ c → (nat_le ready u.time && nat_lt u.time upper) ≡ d → at t (between ready upper us) ≡ at t us
        → at t (cond d (u ∷ between ready upper us) (between ready upper us)) ≡ cond c (u ∷ at t us) (at t us)
    by true true e f rest = ap (λ b. cond b (u ∷ at t (between ready upper us)) (at t (between ready upper us))) e ∙ ap (λ vs. u ∷ vs) rest
    by true false e f rest = absurd (grind (arith, nat_tests))
    by false true e f rest = ap (λ b. cond b (u ∷ at t (between ready upper us)) (at t (between ready upper us))) e ∙ rest
    by false false e f rest = rest

-- and at no other time
from_between : (ready upper : ℕ) (us : List Update) → Each (λ u. ready ≤ u.time) (between ready upper us)
from_between ready upper [] = tt
from_between ready upper (u ∷ us) = by (nat_le ready u.time && nat_lt u.time upper) refl (from_between ready upper us)
  where
    by : (c : Bool) → (nat_le ready u.time && nat_lt u.time upper) ≡ c → Each (λ u. ready ≤ u.time) (between ready upper us)
        → Each (λ u. ready ≤ u.time) (cond c (u ∷ between ready upper us) (between ready upper us))
    by true e h = (grind (arith, nat_tests), h)
    by false e h = h

before_between : (ready upper : ℕ) (us : List Update) → Each (λ u. u.time < upper) (between ready upper us)
before_between ready upper [] = tt
before_between ready upper (u ∷ us) = by (nat_le ready u.time && nat_lt u.time upper) refl (before_between ready upper us)
  where
    by : (c : Bool) → (nat_le ready u.time && nat_lt u.time upper) ≡ c → Each (λ u. u.time < upper) (between ready upper us)
        → Each (λ u. u.time < upper) (cond c (u ∷ between ready upper us) (between ready upper us))
    by true e h = (grind (arith, nat_tests), h)
    by false e h = h

pub IsFrom-between : (ready upper : ℕ) (us : List Update) → IsFrom ready (between ready upper us)
IsFrom-between ready upper us = record { each = from_between ready upper us }

pub IsBefore-between : (ready upper : ℕ) (us : List Update) → IsBefore upper (between ready upper us)
IsBefore-between ready upper us = record { each = before_between ready upper us }

none_from : (t upper : ℕ) (us : List Update) → Each (λ u. u.time < upper) us → upper ≤ t → at t us ≡ []
none_from t upper [] h k = refl
none_from t upper (u ∷ us) h k =
    let is : (u.time == t) ≡ false = grind (arith, nat_tests, h.0) in
    ap (λ c. cond c (u ∷ at t us) (at t us)) is ∙ none_from t upper us h.1 k

-- what changes after the since is an i128
change_fits : (since t : ℕ) (us : List Update) (row : List Datum) → FitsFrom since us → since < t → FitsSigned w128 (count row (changes t us))
change_fits since zero us row fits h = absurd (omega arith)
change_fits since (suc t) us row fits h =
    difference_fits (count row (contents t us)) (count row (contents (suc t) us)) (count row (changes (suc t) us)) (fits.fits t row (omega arith)) (fits.fits (suc t) row (omega arith)) (count-at_next t row us)

-- so what is between two times, the first after the since, can be added up
pub sums_between : (since ready upper : ℕ) (us : List Update) → FitsFrom since us → since < ready → HasSums (between ready upper us)
sums_between since ready upper us fits later = record { fits = λ t row. by t row (nat_le ready t) (nat_lt t upper) refl refl }
  where
    nothing : (t : ℕ) (row : List Datum) → at t (between ready upper us) ≡ [] → FitsSigned w128 (count row (changes t (between ready upper us)))
    nothing t row e = let none : FitsSigned w128 (pos 0) = search (rules, ints) in subst (λ vs. FitsSigned w128 (count row (weights vs))) (sym e) none

    by : (t : ℕ) (row : List Datum) (c d : Bool) → nat_le ready t ≡ c → nat_lt t upper ≡ d → FitsSigned w128 (count row (changes t (between ready upper us)))
    by t row true true e f =
        let from : ready ≤ t = grind (arith, nat_tests) in
        let below : t < upper = grind (arith, nat_tests) in
        subst (λ vs. FitsSigned w128 (count row (weights vs))) (sym (at_between t ready upper us from below)) (change_fits since t us row fits (omega arith))
    by t row true false e f = nothing t row (none_from t upper (between ready upper us) (before_between ready upper us) (grind (arith, nat_tests)))
    by t row false d e f = subst (λ ws. FitsSigned w128 (count row ws)) (sym (changes-from t ready (between ready upper us) (IsFrom-between ready upper us) (grind (arith, nat_tests)))) (search (rules, ints))

-- lists that contain the same change the same
same_change : (us vs : List Update) → SameContents us vs → (t : ℕ) (row : List Datum) → count row (changes t us) ≡ count row (changes t vs)
same_change us vs same zero row = sym (count-at_first row us) ∙ same.counts 0 row ∙ count-at_first row vs
same_change us vs same (suc t) row = omega (arith, ints, count-at_next t row us, count-at_next t row vs, same.counts (suc t) row, same.counts t row)

-- a row's count at a time is that before it and what changes
changed_count : (t : ℕ) (us : List Update) (row : List Datum) → 0 < t → count_in (bag_of (contents t us)) row ≡ count_in (bag_of (contents (t - 1) us)) row +ℤ count row (changes t us)
changed_count zero us row h = absurd (omega arith)
changed_count (suc t) us row h =
    count_in-bag_of (contents (suc t) us) row ∙ count-at_next t row us
    ∙ ap (λ z. z +ℤ count row (changes (suc t) us)) (sym (count_in-bag_of (contents t us) row) ∙ (λ i. count_in (bag_of (contents (sym (before t) i) us)) row))
  where
    before : (t : ℕ) → suc t - 1 ≡ t
    before t = omega arith

pub changed_part : (ready to : ℕ) (us ws : List Update) → 0 < ready → SameContents ws (between ready (to + 1) us) → IsFrom ready ws → IsBefore (to + 1) ws
    → AreChanges (λ t. bag_of (contents t us)) ready to ws
changed_part ready to us ws later same from before = record {
  from = from;
  before = before;
  change = λ t row h k.
      changed_count t us row (omega (arith, later, h))
      ∙ ap (λ z. count_in (bag_of (contents (t - 1) us)) row +ℤ z)
      (sym (same_change ws (between ready (to + 1) us) same t row ∙ ap (λ vs. count row (weights vs)) (at_between t ready (to + 1) us h (omega (arith, k)))));
}

-- ---- the whole table

-- what is up to a time contains the same up to it
up_to_twice : (t to : ℕ) (us : List Update) → t ≤ to → up_to t (up_to to us) ≡ up_to t us
up_to_twice t to [] h = refl
up_to_twice t to (u ∷ us) h = by (nat_le u.time t) (nat_le u.time to) refl refl (up_to_twice t to us h)
  where
    by : (c d : Bool) → nat_le u.time t ≡ c → nat_le u.time to ≡ d → up_to t (up_to to us) ≡ up_to t us
        → up_to t (cond d (u ∷ up_to to us) (up_to to us)) ≡ cond c (u ∷ up_to t us) (up_to t us)
    by true true e f rest = ap (λ b. cond b (u ∷ up_to t (up_to to us)) (up_to t (up_to to us))) e ∙ ap (λ vs. u ∷ vs) rest
    by true false e f rest = absurd (grind (arith, nat_tests))
    by false true e f rest = ap (λ b. cond b (u ∷ up_to t (up_to to us)) (up_to t (up_to to us))) e ∙ rest
    by false false e f rest = rest

-- and from it on what is there then
up_to_after : (t to : ℕ) (us : List Update) → to ≤ t → up_to t (up_to to us) ≡ up_to to us
up_to_after t to [] h = refl
up_to_after t to (u ∷ us) h = by (nat_le u.time to) refl (up_to_after t to us h)
  where
    by : (d : Bool) → nat_le u.time to ≡ d → up_to t (up_to to us) ≡ up_to to us
        → up_to t (cond d (u ∷ up_to to us) (up_to to us)) ≡ cond d (u ∷ up_to to us) (up_to to us)
    by true f rest =
        let is : nat_le u.time t ≡ true = grind (arith, nat_tests) in
        ap (λ b. cond b (u ∷ up_to t (up_to to us)) (up_to t (up_to to us))) is ∙ ap (λ vs. u ∷ vs) rest
    by false f rest = rest

-- so it fits where all does
fits_up_to : (since to : ℕ) (us : List Update) → FitsFrom since us → since ≤ to → FitsFrom since (up_to to us)
fits_up_to since to us fits reaches = record { fits = λ t row h. by t row h (nat_le t to) refl }
  where
    by : (t : ℕ) (row : List Datum) → since ≤ t → (c : Bool) → nat_le t to ≡ c → Fits (count row (contents t (up_to to us)))
    by t row h true e = subst (λ vs. Fits (count row (weights vs))) (sym (up_to_twice t to us (grind (arith, nat_tests)))) (fits.fits t row h)
    by t row h false e = subst (λ vs. Fits (count row (weights vs))) (sym (up_to_after t to us (grind (arith, nat_tests)))) (fits.fits to row reaches)

pub sums_whole : (since to : ℕ) (us : List Update) → FitsFrom since us → since ≤ to → HasSums (compacted since (between 0 (to + 1) us))
sums_whole since to us fits reaches = subst (λ vs. HasSums (compacted since vs)) (sym (between-up_to to us)) (sums_compacted since (up_to to us) (fits_up_to since to us fits reaches))

pub before_whole : (since to : ℕ) (us : List Update) → since ≤ to → IsBefore (to + 1) (compacted since (between 0 (to + 1) us))
before_whole since to us reaches = subst (λ vs. IsBefore (to + 1) (compacted since vs)) (sym (between-up_to to us)) (IsBefore-compacted since (to + 1) (up_to to us) (omega arith) (IsBefore-up_to to us))

pub whole_part : (since to : ℕ) (us ws : List Update) → SameContents ws (compacted since (between 0 (to + 1) us)) → IsFrom since ws → IsBefore (to + 1) ws
    → AreContents (λ t. bag_of (contents t us)) since to ws
whole_part since to us ws same from before = record {
  from = from;
  before = before;
  contain = λ t h k. bag_of-same (contents t ws) (contents t us) (λ row.
      same.counts t row ∙ ap (count row) (contents-compacted since t (between 0 (to + 1) us) h ∙ ap (contents t) (between-up_to to us) ∙ ap weights (up_to_twice t to us k)));
}
