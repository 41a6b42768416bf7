-- A change of groups: which rows are taken, and what came of them.
use Rattle.std.proofs.Common.{◌≡◌, ◌≢◌, ℕ, zero, suc, ◌+◌, ◌≤◌, Bool, true, false, cond, not, ◌&&◌, ℤ, pos, negsuc, nat_abs, ◌+ℤ◌, List, [], ◌∷◌, ◌++◌, length, refl, sym, ap, subst, ◌∙◌, true≢false, arith}
use Rattle.std.proofs.lemmas.Bool.{le-leb}
use Rattle.std.proofs.lemmas.Int.{ints}
use Rattle.std.specs.Cmp.{signed_Decides}
use Rattle.std.specs.List.{AllByRecursion}
use Rattle.std.specs.Ordering.{int_eq}
use Rattle.mz_value.specs.Row.{row_eq}
use Rattle.mz_value.specs.declared.datum.Datum.{Datum}
use Rattle.mz_bag.specs.Mass.{mass}
use Rattle.mz_bag.specs.Weighted.{Weighted, count}
use Rattle.mz_bag.proofs.BagLaws.{count-append}
use Rattle.mz_bag.proofs.MassLaws.{mass_append}
use Rattle.mz_plan.specs.Operators.{filtered, grouped}
use Rattle.mz_plan.specs.Small.{SumsInts}
use Rattle.mz_plan.specs.declared.aggregate.Aggregate.{Aggregate}
use Rattle.mz_plan.specs.declared.aggregate.Aggregate.TheVariants.{Count, Sum, Min, Max}
use Rattle.mz_plan_laws.specs.Alike.{Alike}
use Rattle.mz_plan_laws.proofs.Bounds.{mass_filtered}
use Rattle.mz_plan_laws.proofs.MeaningLaws.{grouped_same}
use Rattle.mz_plan_laws.proofs.OperatorLaws.{filter_linear}
use Rattle.mz_keyed.specs.Keyed.{Keyed, AreKept}
use Rattle.mz_keyed.proofs.KeyedLaws.{kept_none, kept_same}
use Rattle.mz_ops.specs.Change.{IsBearable, IsChange, IsWithin}
use Rattle.mz_reduce.specs.Grouping.{grouped_ints, is_taken, sums_ints, taken, AreRegrouped, HasRoom}
use Rattle.mz_reduce.specs.Laws.{group_load}
use Rattle.mz_reduce.specs.Orders.{AreOrders, Orders}
use Rattle.mz_reduce.specs.Totals.{AreKeptGroups, AreTotals, KeyTotals}
use Rattle.mz_reduce.proofs.GroupRoom.{ints_bounded}
use Rattle.mz_reduce.proofs.KeptGroups.{regrouped_gives, regrouped_mass}
use Rattle.mz_reduce.proofs.OrdersLaws.{none_ordered}
use Rattle.mz_reduce.proofs.TotalsLaws.{none_totals}

-- ---- the rows that are taken

-- they count as all whose numbers are no larger than an INT's
taken_alike : (aggregates : List Aggregate) (ws : Weighted) → Alike (taken aggregates ws) (filtered (sums_ints aggregates) ws)
taken_alike aggregates [] q = refl
taken_alike aggregates (w ∷ ws) q = by (int_eq w.1 (pos 0)) (sums_ints aggregates w.0) refl (taken_alike aggregates ws q)
  where
    by : (c d : Bool) → int_eq w.1 (pos 0) ≡ c → count q (taken aggregates ws) ≡ count q (filtered (sums_ints aggregates) ws)
        → count q (cond (not c && d) (w ∷ taken aggregates ws) (taken aggregates ws))
        ≡ count q (cond d (w ∷ filtered (sums_ints aggregates) ws) (filtered (sums_ints aggregates) ws))
    by false true e h = ap (λ n. cond (row_eq q w.0) w.1 (pos 0) +ℤ n) h
    by false false e h = h
    by true false e h = h
    by true true e h =
        let none : w.1 ≡ pos 0 = (signed_Decides w.1 (pos 0)).0 e in
        omega (arith, ints, h, nothing (row_eq q w.0) none)
      where
        nothing : (b : Bool) → w.1 ≡ pos 0 → cond b w.1 (pos 0) ≡ pos 0
        nothing true z = z
        nothing false z = refl

-- what isn't 0 has some size
size_some : (z : ℤ) → z ≢ pos 0 → 1 ≤ nat_abs z
size_some (pos zero) h = absurd (h refl)
size_some (pos (suc n)) h = omega arith
size_some (negsuc n) h = omega arith

-- and are no more than the mass
taken_length : (aggregates : List Aggregate) (ws : Weighted) → length (taken aggregates ws) ≤ mass ws
taken_length aggregates [] = omega arith
taken_length aggregates (w ∷ ws) = by (int_eq w.1 (pos 0)) (sums_ints aggregates w.0) refl (taken_length aggregates ws)
  where
    by : (c d : Bool) → int_eq w.1 (pos 0) ≡ c → length (taken aggregates ws) ≤ mass ws
        → length (cond (not c && d) (w ∷ taken aggregates ws) (taken aggregates ws)) ≤ nat_abs w.1 + mass ws
    by true d e h = omega (arith, h)
    by false false e h = omega (arith, h)
    by false true e h =
        let some : 1 ≤ nat_abs w.1 = size_some w.1 (λ z. true≢false (sym ((signed_Decides w.1 (pos 0)).1 z) ∙ e)) in
        omega (arith, h, some)

taken_mass : (aggregates : List Aggregate) (ws : Weighted) → mass (taken aggregates ws) ≤ mass ws
taken_mass aggregates [] = omega arith
taken_mass aggregates (w ∷ ws) = by (is_taken aggregates w) (taken_mass aggregates ws)
  where
    by : (c : Bool) → mass (taken aggregates ws) ≤ mass ws
        → mass (cond c (w ∷ taken aggregates ws) (taken aggregates ws)) ≤ nat_abs w.1 + mass ws
    by true h = omega (arith, h)
    by false h = omega (arith, h)

-- their numbers are no larger than an INT's
taken_ints : (aggregates : List Aggregate) (ws : Weighted) → AllByRecursion (λ w. sums_ints aggregates w.0 ≡ true) (taken aggregates ws)
taken_ints aggregates [] = tt
taken_ints aggregates (w ∷ ws) = by (not (int_eq w.1 (pos 0))) (sums_ints aggregates w.0) refl (taken_ints aggregates ws)
  where
    by : (c d : Bool) → sums_ints aggregates w.0 ≡ d → AllByRecursion (λ w. sums_ints aggregates w.0 ≡ true) (taken aggregates ws)
        → AllByRecursion (λ w. sums_ints aggregates w.0 ≡ true) (cond (c && d) (w ∷ taken aggregates ws) (taken aggregates ws))
    by true true e h = (e, h)
    by true false e h = h
    by false d e h = h

filtered_ints : (aggregates : List Aggregate) (ws : Weighted)
    → AllByRecursion (λ w. sums_ints aggregates w.0 ≡ true) (filtered (sums_ints aggregates) ws)
filtered_ints aggregates [] = tt
filtered_ints aggregates (w ∷ ws) = by (sums_ints aggregates w.0) refl (filtered_ints aggregates ws)
  where
    by : (d : Bool) → sums_ints aggregates w.0 ≡ d → AllByRecursion (λ w. sums_ints aggregates w.0 ≡ true) (filtered (sums_ints aggregates) ws)
        → AllByRecursion (λ w. sums_ints aggregates w.0 ≡ true)
        (cond d (w ∷ filtered (sums_ints aggregates) ws) (filtered (sums_ints aggregates) ws))
    by true e h = (e, h)
    by false e h = h

both_ints : (aggregates : List Aggregate) (vs ws : Weighted) → AllByRecursion (λ w. sums_ints aggregates w.0 ≡ true) vs
    → AllByRecursion (λ w. sums_ints aggregates w.0 ≡ true) ws → AllByRecursion (λ w. sums_ints aggregates w.0 ≡ true) (vs ++ ws)
both_ints aggregates [] ws h k = k
both_ints aggregates (v ∷ vs) ws h k = (h.0, both_ints aggregates vs ws h.1 k)

-- ---- a change

-- what is bearable has room
pub room_of : (places : List ℕ) (aggregates : List Aggregate) (groups : Keyed) (totals : KeyTotals) (orders : Orders)
    (left right : Weighted) → IsBearable (λ ls rs. AreKeptGroups places aggregates groups totals orders ls) group_load left right
    → HasRoom places aggregates groups (taken aggregates left)
room_of places aggregates groups totals orders left right h = record {
  ws = filtered (sums_ints aggregates) h.first;
  kept = h.stand.rows;
  bounded = ints_bounded aggregates (filtered (sums_ints aggregates) h.first ++ taken aggregates left)
      (both_ints aggregates (filtered (sums_ints aggregates) h.first) (taken aggregates left) (filtered_ints aggregates h.first) (taken_ints aggregates left))
      (omega (
        arith,
        h.within,
        mass_append (filtered (sums_ints aggregates) h.first) (taken aggregates left),
        mass_filtered (sums_ints aggregates) h.first,
        taken_mass aggregates left,
      ));
}

-- the rows with those that are taken count as the rows with all
more_alike : (aggregates : List Aggregate) (ls left : Weighted)
    → Alike (filtered (sums_ints aggregates) ls ++ taken aggregates left) (filtered (sums_ints aggregates) (ls ++ left))
more_alike aggregates ls left q =
    count-append q (filtered (sums_ints aggregates) ls) (taken aggregates left)
    ∙ ap (λ n. count q (filtered (sums_ints aggregates) ls) +ℤ n) (taken_alike aggregates left q)
    ∙ sym ((filter_linear (sums_ints aggregates)).adds ls left q)

-- what was regrouped is a change
pub regrouped_change : (places : List ℕ) (aggregates : List Aggregate) (groups now : Keyed) (totals numbers : KeyTotals)
    (orders ranked : Orders) (left right out : Weighted) → AreRegrouped places aggregates groups now (taken aggregates left) out
    → AreTotals aggregates now numbers → AreOrders aggregates now ranked
    → IsChange (λ ls rs. grouped_ints places aggregates ls) (λ ls rs. AreKeptGroups places aggregates groups totals orders ls)
    (λ ls rs. AreKeptGroups places aggregates now numbers ranked ls) left right out
regrouped_change places aggregates groups now totals numbers orders ranked left right out h sums ranks = record {
  stands = λ ls rs k. record {
    rows = kept_same places now (filtered (sums_ints aggregates) ls ++ taken aggregates left)
        (filtered (sums_ints aggregates) (ls ++ left)) (more_alike aggregates ls left)
        (h.came.keeps (filtered (sums_ints aggregates) ls) k.rows);
    totals_are = sums;
    orders_are = ranks;
  };
  gives = λ ls rs k q.
      ap (count q) (sym (grouped_same places aggregates (filtered (sums_ints aggregates) ls ++ taken aggregates left)
      (filtered (sums_ints aggregates) (ls ++ left)) (more_alike aggregates ls left)))
      ∙ regrouped_gives places aggregates groups now (taken aggregates left) out (filtered (sums_ints aggregates) ls) h k.rows q;
}

-- of little mass
pub regrouped_within : (places : List ℕ) (aggregates : List Aggregate) (groups now : Keyed) (totals : KeyTotals) (orders : Orders)
    (left right out : Weighted) → AreRegrouped places aggregates groups now (taken aggregates left) out
    → IsWithin (λ ls rs. AreKeptGroups places aggregates groups totals orders ls) group_load left right out
regrouped_within places aggregates groups now totals orders left right out h = record {
  most = λ ls rs k. omega (
    arith,
    regrouped_mass places aggregates groups now (taken aggregates left) out h,
    taken_length aggregates left,
  );
}

-- under the names that the code has
pub regrouped_same : (places ps : List ℕ) (aggregates ags : List Aggregate) (groups now : Keyed) (rows left made out : Weighted)
    → AreRegrouped ps ags groups now rows made → ps ≡ places → ags ≡ aggregates → rows ≡ taken ags left → out ≡ made
    → AreRegrouped places aggregates groups now (taken aggregates left) out
regrouped_same places ps aggregates ags groups now rows left made out h e f g k =
    subst (λ ws. AreRegrouped places aggregates groups now (taken aggregates left) ws) (sym k)
    (subst (λ xs. AreRegrouped places xs groups now (taken xs left) made) f
    (subst (λ ws. AreRegrouped places ags groups now ws made) g (subst (λ qs. AreRegrouped qs ags groups now rows made) e h)))

pub room_same : (places ps : List ℕ) (aggregates ags : List Aggregate) (groups : Keyed) (left rows : Weighted)
    → HasRoom places aggregates groups (taken aggregates left) → ps ≡ places → ags ≡ aggregates → rows ≡ taken ags left
    → HasRoom ps ags groups rows
room_same places ps aggregates ags groups left rows h e f g =
    subst (λ ws. HasRoom ps ags groups ws) (sym g) (subst (λ qs. HasRoom qs ags groups (taken ags left)) (sym e)
    (subst (λ xs. HasRoom places xs groups (taken xs left)) (sym f) h))

-- totals under the names that the code has
pub totals_same : (aggregates ags : List Aggregate) (groups : Keyed) (totals : KeyTotals) → AreTotals aggregates groups totals
    → ags ≡ aggregates → AreTotals ags groups totals
totals_same aggregates ags groups totals h same = subst (λ xs. AreTotals xs groups totals) (sym same) h

-- and orders
pub orders_same : (aggregates ags : List Aggregate) (groups : Keyed) (orders : Orders) → AreOrders aggregates groups orders
    → ags ≡ aggregates → AreOrders ags groups orders
orders_same aggregates ags groups orders h same = subst (λ xs. AreOrders xs groups orders) (sym same) h

-- without a row nothing is kept
pub none_kept : (places : List ℕ) (aggregates : List Aggregate) (groups : Keyed) (totals : KeyTotals) (orders : Orders)
    → groups ≡ [] → totals ≡ [] → orders ≡ [] → AreKeptGroups places aggregates groups totals orders []
none_kept places aggregates groups totals orders none nothing no_order = record {
  rows = subst (λ es. AreKept places es []) (sym none) (kept_none places);
  totals_are = none_totals aggregates groups totals none nothing;
  orders_are = none_ordered aggregates groups orders none no_order;
}

-- ---- INTs alone

-- an aggregate that takes INTs alone takes no larger number
sums_one : (row : List Datum) (aggregates : List Aggregate) → AllByRecursion (SumsInts row) aggregates → sums_ints aggregates row ≡ true
sums_one row [] h = refl
sums_one row (Count ∷ aggregates) h = sums_one row aggregates h.1
sums_one row (Sum place ∷ aggregates) h = λ i. le-leb _ _ h.0 i && sums_one row aggregates h.1 i
sums_one row (Min place ∷ aggregates) h = sums_one row aggregates h.1
sums_one row (Max place ∷ aggregates) h = sums_one row aggregates h.1

-- so all rows are taken
all_ints : (aggregates : List Aggregate) (ws : Weighted) → AllByRecursion (λ w. AllByRecursion (SumsInts w.0) aggregates) ws
    → filtered (sums_ints aggregates) ws ≡ ws
all_ints aggregates [] h = refl
all_ints aggregates (w ∷ ws) h =
    ap (λ c. cond c (w ∷ filtered (sums_ints aggregates) ws) (filtered (sums_ints aggregates) ws)) (sums_one w.0 aggregates h.0)
    ∙ ap (λ vs. w ∷ vs) (all_ints aggregates ws h.1)

pub groups_of_ints : (places : List ℕ) (aggregates : List Aggregate) (ws : Weighted)
    → AllByRecursion (λ w. AllByRecursion (SumsInts w.0) aggregates) ws
    → grouped_ints places aggregates ws ≡ grouped places aggregates ws
groups_of_ints places aggregates ws h = ap (grouped places aggregates) (all_ints aggregates ws h)
