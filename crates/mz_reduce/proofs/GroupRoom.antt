-- Room for the rows that are still to come into groups: what is counted and added up over them is within the bound.
use Rattle.std.proofs.Common.{◌≡◌, ℕ, ◌+◌, ◌*◌, ◌≤◌, ◌^◌, Bool, true, false, cond, ◌&&◌, ℤ, nat_abs, nat_le, ◌+ℤ◌, ◌*ℤ◌, List, [], ◌∷◌, ◌++◌, refl, sym, ap, subst, ◌∙◌, append_assoc, le_trans, mul-le-mul_left, true≢false, arith}
use Rattle.std.proofs.lemmas.Bool.{leb-true}
use Rattle.std.proofs.lemmas.List.{append-nil}
use Rattle.std.specs.FinMap.{entries}
use Rattle.std.specs.List.{AllByRecursion}
use Rattle.mz_value.specs.declared.datum.Datum.{Datum}
use Rattle.mz_bag.specs.Bag.{count_in, Fits}
use Rattle.mz_bag.specs.Mass.{mass}
use Rattle.mz_bag.specs.Weighted.{Weighted}
use Rattle.mz_bag.proofs.BagLaws.{IsDistinct-entries}
use Rattle.mz_bag.proofs.MassLaws.{mass_append, size_count, size_fits, size_product, size_sum}
use Rattle.mz_plan.specs.Bound.{weighed, IsSummable}
use Rattle.mz_plan.specs.Operators.{filtered, has_key}
use Rattle.mz_plan.specs.Value.{number_of, value_at}
use Rattle.mz_plan.specs.declared.aggregate.Aggregate.{Aggregate}
use Rattle.mz_plan.specs.declared.aggregate.Aggregate.TheVariants.{Count, Sum, Min, Max}
use Rattle.mz_plan_laws.proofs.Bounds.{least_mass, mass_filtered}
use Rattle.mz_keyed.specs.Keyed.{Keyed, rows_of, AreKept}
use Rattle.mz_keyed.proofs.KeyedLaws.{key_alike, key_mass, kept_more}
use Rattle.mz_reduce.specs.Grouping.{sums_int, sums_ints, AreBounded, AreIn, HasRoom, IsOn, IsRowIn}
use Rattle.mz_reduce.proofs.KeptGroups.{none_in, one_in}

-- ---- sums

-- weighed lists one behind the other
weighed_append : (f : List Datum → ℤ) (vs ws : Weighted) → mass (weighed f (vs ++ ws)) ≡ mass (weighed f vs) + mass (weighed f ws)
weighed_append f [] ws = omega arith
weighed_append f (v ∷ vs) ws = omega (arith, weighed_append f vs ws)

-- a filter leaves no more
weighed_filtered : (f : List Datum → ℤ) (keeps : List Datum → Bool) (ws : Weighted)
    → mass (weighed f (filtered keeps ws)) ≤ mass (weighed f ws)
weighed_filtered f keeps [] = omega arith
weighed_filtered f keeps (w ∷ ws) = by (keeps w.0) (weighed_filtered f keeps ws)
  where
    by : (c : Bool) → mass (weighed f (filtered keeps ws)) ≤ mass (weighed f ws)
        → mass (weighed f (cond c (w ∷ filtered keeps ws) (filtered keeps ws))) ≤ nat_abs (w.1 *ℤ f w.0) + mass (weighed f ws)
    by true h = omega (arith, h)
    by false h = omega (arith, h)

-- numbers no larger than an INT's weigh at most so often the mass
weighed_ints : (f : List Datum → ℤ) (ws : Weighted) → AllByRecursion (λ w. nat_le (nat_abs (f w.0)) (2 ^ 31) ≡ true) ws
    → mass (weighed f ws) ≤ mass ws * 2 ^ 31
weighed_ints f [] h = omega arith
weighed_ints f (w ∷ ws) h =
    let size : nat_abs (f w.0) ≤ 2 ^ 31 = leb-true (nat_abs (f w.0)) (2 ^ 31) h.0 in
    let here : nat_abs (w.1 *ℤ f w.0) ≤ nat_abs w.1 * 2 ^ 31 =
    subst (λ n. n ≤ nat_abs w.1 * 2 ^ 31) (sym (size_product w.1 (f w.0))) (mul-le-mul_left (nat_abs w.1) size) in
    omega (arith, here, weighed_ints f ws h.1)

-- sums that weigh no more are within the bound too
sums_less : (vs ws : Weighted) (aggregates : List Aggregate)
    → ((f : List Datum → ℤ) → mass (weighed f vs) ≤ mass (weighed f ws))
    → AllByRecursion (IsSummable ws) aggregates → AllByRecursion (IsSummable vs) aggregates
sums_less vs ws [] less h = tt
sums_less vs ws (Count ∷ aggregates) less h = (tt, sums_less vs ws aggregates less h.1)
sums_less vs ws (Sum place ∷ aggregates) less h = (
  record { within = le_trans (less (λ row. number_of (value_at row place))) h.0.within },
  sums_less vs ws aggregates less h.1,
)
sums_less vs ws (Min place ∷ aggregates) less h = (tt, sums_less vs ws aggregates less h.1)
sums_less vs ws (Max place ∷ aggregates) less h = (tt, sums_less vs ws aggregates less h.1)

-- so it is where lists weigh no more
bounded_less : (aggregates : List Aggregate) (vs ws : Weighted) → mass vs ≤ mass ws
    → ((f : List Datum → ℤ) → mass (weighed f vs) ≤ mass (weighed f ws)) → AreBounded aggregates ws → AreBounded aggregates vs
bounded_less aggregates vs ws fewer less h = record {
  light = record { within = le_trans fewer h.light.within };
  sums = sums_less vs ws aggregates less h.sums;
}

-- and where rows come behind
bounded_front : (aggregates : List Aggregate) (vs ws : Weighted) → AreBounded aggregates (vs ++ ws) → AreBounded aggregates vs
bounded_front aggregates vs ws h = bounded_less aggregates vs (vs ++ ws) (omega (arith, mass_append vs ws))
    (λ f. omega (arith, weighed_append f vs ws)) h

-- and for the rows of a key
bounded_key : (places : List ℕ) (aggregates : List Aggregate) (groups : Keyed) (ws : Weighted) (key : List Datum)
    → AreKept places groups ws → AreBounded aggregates ws → AreBounded aggregates (entries (rows_of groups key))
bounded_key places aggregates groups ws key h bounded =
    bounded_less aggregates (entries (rows_of groups key)) ws (key_mass places groups ws key h)
    (λ f. le_trans (least_mass f (entries (rows_of groups key)) (filtered (has_key places key) ws) (IsDistinct-entries (rows_of groups key))
    (key_alike places groups ws key h)) (weighed_filtered f (has_key places key) ws)) bounded

-- ---- rows whose numbers are no larger than an INT's

-- both of two
both_true : (a b : Bool) → (a && b) ≡ true → (a ≡ true) × (b ≡ true)
both_true true true h = (refl, refl)
both_true false b h = absurd (true≢false (sym h))
both_true true false h = absurd (true≢false (sym h))

-- what holds of each row for all aggregates holds for the first, and for the others
for_first : (aggregate : Aggregate) (aggregates : List Aggregate) (ws : Weighted)
    → AllByRecursion (λ w. sums_ints (aggregate ∷ aggregates) w.0 ≡ true) ws → AllByRecursion (λ w. sums_int w.0 aggregate ≡ true) ws
for_first aggregate aggregates [] h = tt
for_first aggregate aggregates (w ∷ ws) h =
    ((both_true (sums_int w.0 aggregate) (sums_ints aggregates w.0) h.0).0, for_first aggregate aggregates ws h.1)

for_others : (aggregate : Aggregate) (aggregates : List Aggregate) (ws : Weighted)
    → AllByRecursion (λ w. sums_ints (aggregate ∷ aggregates) w.0 ≡ true) ws → AllByRecursion (λ w. sums_ints aggregates w.0 ≡ true) ws
for_others aggregate aggregates [] h = tt
for_others aggregate aggregates (w ∷ ws) h =
    ((both_true (sums_int w.0 aggregate) (sums_ints aggregates w.0) h.0).1, for_others aggregate aggregates ws h.1)

-- so the sums of few rows are within the bound
ints_summable : (aggregates : List Aggregate) (ws : Weighted) → AllByRecursion (λ w. sums_ints aggregates w.0 ≡ true) ws
    → mass ws * 2 ^ 31 ≤ 2 ^ 100 → AllByRecursion (IsSummable ws) aggregates
ints_summable [] ws h few = tt
ints_summable (Count ∷ aggregates) ws h few = (tt, ints_summable aggregates ws (for_others Count aggregates ws h) few)
ints_summable (Sum place ∷ aggregates) ws h few = (
  record { within = le_trans (weighed_ints (λ row. number_of (value_at row place)) ws (for_first (Sum place) aggregates ws h)) few },
  ints_summable aggregates ws (for_others (Sum place) aggregates ws h) few,
)
ints_summable (Min place ∷ aggregates) ws h few = (tt, ints_summable aggregates ws (for_others (Min place) aggregates ws h) few)
ints_summable (Max place ∷ aggregates) ws h few = (tt, ints_summable aggregates ws (for_others (Max place) aggregates ws h) few)

pub ints_bounded : (aggregates : List Aggregate) (ws : Weighted) → AllByRecursion (λ w. sums_ints aggregates w.0 ≡ true) ws
    → mass ws * 2 ^ 31 ≤ 2 ^ 100 → AreBounded aggregates ws
ints_bounded aggregates ws h few = record {
  light = record { within = omega (arith, few) };
  sums = ints_summable aggregates ws h few;
}

-- ---- room

-- the next row's count fits
pub room_fits : (places : List ℕ) (aggregates : List Aggregate) (groups : Keyed) (row : List Datum) (diff : ℤ) (rest : Weighted)
    → HasRoom places aggregates groups ((row, diff) ∷ rest) → (key : List Datum) → Fits (count_in (rows_of groups key) row +ℤ diff)
room_fits places aggregates groups row diff rest room key =
    let counted : nat_abs (count_in (rows_of groups key) row) ≤ mass room.ws =
    subst (λ z. nat_abs z ≤ mass room.ws) (sym (room.kept.each key row))
    (le_trans (size_count row (filtered (has_key places key) room.ws)) (mass_filtered (has_key places key) room.ws)) in
    size_fits (count_in (rows_of groups key) row +ℤ diff)
    (omega (arith, size_sum (count_in (rows_of groups key) row) diff, counted, mass_append room.ws ((row, diff) ∷ rest), room.bounded.light.within))

-- and the groups are bounded
pub room_bounded : (places : List ℕ) (aggregates : List Aggregate) (groups : Keyed) (rest : Weighted)
    → HasRoom places aggregates groups rest → (key : List Datum) → AreBounded aggregates (entries (rows_of groups key))
room_bounded places aggregates groups rest room key =
    bounded_key places aggregates groups room.ws key room.kept (bounded_front aggregates room.ws rest room.bounded)

-- at first all rows are to come
pub begun : (places : List ℕ) (aggregates : List Aggregate) (groups : Keyed) (rows : Weighted) (touched : List (List Datum)) (out : Weighted)
    → HasRoom places aggregates groups rows → touched ≡ [] → out ≡ [] → IsOn places aggregates groups groups rows rows touched out
begun places aggregates groups rows touched out room untouched none = record {
  done = [];
  whole = refl;
  came = none_in places aggregates groups out touched none untouched;
  room = room;
}

-- then one less
pub one_more : (places : List ℕ) (aggregates : List Aggregate) (groups now more : Keyed) (all rest : Weighted)
    (touched others : List (List Datum)) (out new : Weighted) (row : List Datum) (diff : ℤ)
    → IsOn places aggregates groups now all ((row, diff) ∷ rest) touched out
    → IsRowIn places aggregates now more row diff touched others out new
    → IsOn places aggregates groups more all rest others new
one_more places aggregates groups now more all rest touched others out new row diff h one = record {
  done = h.done ++ (row, diff) ∷ [];
  whole = append_assoc h.done ((row, diff) ∷ []) rest ∙ h.whole;
  came = one_in places aggregates groups now more h.done touched others out new row diff h.came one;
  room = record {
    ws = h.room.ws ++ (row, diff) ∷ [];
    kept = kept_more places now more h.room.ws row diff h.room.kept one.added;
    bounded = subst (AreBounded aggregates) (sym (append_assoc h.room.ws ((row, diff) ∷ []) rest)) h.room.bounded;
  };
}

-- and in the end none
pub ended : (places : List ℕ) (aggregates : List Aggregate) (groups now : Keyed) (all rest : Weighted) (touched : List (List Datum))
    (out : Weighted) → IsOn places aggregates groups now all rest touched out → rest ≡ []
    → AreIn places aggregates groups now all touched out × HasRoom places aggregates now []
ended places aggregates groups now all rest touched out h none = (
  subst (λ ws. AreIn places aggregates groups now ws touched out) (sym (append-nil h.done) ∙ ap (λ ws. h.done ++ ws) (sym none) ∙ h.whole) h.came,
  subst (λ ws. HasRoom places aggregates now ws) none h.room,
)
