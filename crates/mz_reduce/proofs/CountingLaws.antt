-- Distinct rows go through a change row by row.
use Rattle.std.proofs.Common.{◌≡◌, ◌≢◌, zero, suc, ◌≤◌, Bool, true, false, cond, not, ℤ, pos, negsuc, nat_abs, ◌+ℤ◌, ◌-ℤ◌, List, [], ◌∷◌, ◌++◌, length, refl, sym, ap, subst, ◌∙◌, append_assoc, true≢false, arith}
use Rattle.std.proofs.lemmas.Int.{ints}
use Rattle.std.proofs.lemmas.List.{append-nil}
use Rattle.std.specs.Cmp.{signed_Decides}
use Rattle.std.specs.FinMap.{empty}
use Rattle.std.specs.Ordering.{int_eq}
use Rattle.mz_value.specs.declared.datum.Datum.{Datum}
use Rattle.mz_value.specs.Row.{row_eq}
use Rattle.mz_value.specs.RowOrder.{row_eq-Decides}
use Rattle.mz_bag.specs.Bag.{Counts, count_in, Fits}
use Rattle.mz_bag.specs.Mass.{mass}
use Rattle.mz_bag.specs.Weighted.{Weighted, count}
use Rattle.mz_bag.proofs.BagLaws.{count-append, count_in-added, count_in-empty}
use Rattle.mz_bag.proofs.MassLaws.{mass_append, size_count, size_fits, size_sum}
use Rattle.mz_plan.specs.Operators.{distinct}
use Rattle.mz_plan_laws.specs.Alike.{Alike}
use Rattle.mz_plan_laws.proofs.OperatorLaws.{count_distinct}
use Rattle.mz_plan_laws.proofs.Weighing.{row_itself}
use Rattle.mz_ops.specs.Change.{IsBearable, IsChange, IsWithin}
use Rattle.mz_reduce.specs.Counting.{is_there, turned, AreCounted, HasRoom, IsCounted, IsCountOf, IsOn}
use Rattle.mz_reduce.specs.Laws.{kept_load}

-- ---- one row

-- 1 where a row is there
abbrev once : Bool → ℤ
once is = cond is (pos 1) (pos 0)

-- a row that turned counts what it is more than it was, and no other row counts
count_turned : (q row : List Datum) (was is : Bool) → count q (turned row was is) ≡ cond (row_eq q row) (once is -ℤ once was) (pos 0)
count_turned q row false true = one (row_eq q row) (pos 1)
  where
    one : (c : Bool) (n : ℤ) → cond c n (pos 0) +ℤ pos 0 ≡ cond c n (pos 0)
    one true n = omega (arith, ints)
    one false n = refl
count_turned q row true false = one (row_eq q row) (negsuc 0)
  where
    one : (c : Bool) (n : ℤ) → cond c n (pos 0) +ℤ pos 0 ≡ cond c n (pos 0)
    one true n = omega (arith, ints)
    one false n = refl
count_turned q row true true = none (row_eq q row)
  where
    none : (c : Bool) → pos 0 ≡ cond c (pos 0) (pos 0)
    none true = refl
    none false = refl
count_turned q row false false = none (row_eq q row)
  where
    none : (c : Bool) → pos 0 ≡ cond c (pos 0) (pos 0)
    none true = refl
    none false = refl

-- what DISTINCT counts, by whether the row is there
once_there : (n : ℤ) → cond (int_eq n (pos 0)) (pos 0) (pos 1) ≡ once (is_there n)
once_there n = by (int_eq n (pos 0))
  where
    by : (c : Bool) → cond c (pos 0) (pos 1) ≡ once (not c)
    by true = refl
    by false = refl

count_once : (q : List Datum) (ws : Weighted) → count q (distinct ws) ≡ once (is_there (count q ws))
count_once q ws = count_distinct q ws ∙ once_there (count q ws)

-- one row more changes the count of that row alone
distinct_one : (ws : Weighted) (row : List Datum) (diff : ℤ) → Alike (distinct (ws ++ (row, diff) ∷ []))
    (distinct ws ++ turned row (is_there (count row ws)) (is_there (count row ws +ℤ diff)))
distinct_one ws row diff q =
    count_once q (ws ++ (row, diff) ∷ [])
    ∙ ap (λ n. once (is_there n)) (count-append q ws ((row, diff) ∷ []))
    ∙ by (row_eq q row) refl
    ∙ sym (count-append q (distinct ws) (turned row (is_there (count row ws)) (is_there (count row ws +ℤ diff)))
    ∙ (λ i. count_once q ws i +ℤ count_turned q row (is_there (count row ws)) (is_there (count row ws +ℤ diff)) i))
  where
    by : (c : Bool) → row_eq q row ≡ c
        → once (is_there (count q ws +ℤ (cond c diff (pos 0) +ℤ pos 0)))
        ≡ once (is_there (count q ws))
        +ℤ cond (row_eq q row) (once (is_there (count row ws +ℤ diff)) -ℤ once (is_there (count row ws))) (pos 0)
    by true e =
        let same : count q ws ≡ count row ws = ap (λ r. count r ws) ((row_eq-Decides q row).0 e) in
        let plain : count q ws +ℤ (diff +ℤ pos 0) ≡ count row ws +ℤ diff = omega (arith, ints, same) in
        let old : once (is_there (count q ws)) ≡ once (is_there (count row ws)) = ap (λ n. once (is_there n)) same in
        let new : once (is_there (count q ws +ℤ (diff +ℤ pos 0))) ≡ once (is_there (count row ws +ℤ diff)) = ap (λ n. once (is_there n)) plain in
        let here : cond (row_eq q row) (once (is_there (count row ws +ℤ diff)) -ℤ once (is_there (count row ws))) (pos 0)
        ≡ once (is_there (count row ws +ℤ diff)) -ℤ once (is_there (count row ws)) =
        ap (λ c. cond c (once (is_there (count row ws +ℤ diff)) -ℤ once (is_there (count row ws))) (pos 0)) e in
        new ∙ omega (arith, ints, old, here)
    by false e =
        let plain : count q ws +ℤ (pos 0 +ℤ pos 0) ≡ count q ws = omega (arith, ints) in
        let here : cond (row_eq q row) (once (is_there (count row ws +ℤ diff)) -ℤ once (is_there (count row ws))) (pos 0) ≡ pos 0 =
        ap (λ c. cond c (once (is_there (count row ws +ℤ diff)) -ℤ once (is_there (count row ws))) (pos 0)) e in
        ap (λ n. once (is_there n)) plain ∙ omega (arith, ints, here)

-- what isn't 0 has some size
size_some : (z : ℤ) → z ≢ pos 0 → 1 ≤ nat_abs z
size_some (pos zero) h = absurd (h refl)
size_some (pos (suc n)) h = omega arith
size_some (negsuc n) h = omega arith

-- a row turns only where its count changes
turned_mass : (row : List Datum) (n diff : ℤ) → mass (turned row (is_there n) (is_there (n +ℤ diff))) ≤ nat_abs diff
turned_mass row n diff = by (int_eq n (pos 0)) (int_eq (n +ℤ diff) (pos 0)) refl refl
  where
    by : (c d : Bool) → int_eq n (pos 0) ≡ c → int_eq (n +ℤ diff) (pos 0) ≡ d → mass (turned row (not c) (not d)) ≤ nat_abs diff
    by true true e f = omega arith
    by false false e f = omega arith
    by true false e f =
        let none : n ≡ pos 0 = (signed_Decides n (pos 0)).0 e in
        size_some diff (λ z. true≢false (sym ((signed_Decides (n +ℤ diff) (pos 0)).1 (omega (arith, ints, none, z))) ∙ f))
    by false true e f =
        let none : n +ℤ diff ≡ pos 0 = (signed_Decides (n +ℤ diff) (pos 0)).0 f in
        size_some diff (λ z. true≢false (sym ((signed_Decides n (pos 0)).1 (omega (arith, ints, none, z))) ∙ e))

-- ---- rows one after another

-- the count of a row that came in
own_count : (bag more : Counts) (row : List Datum) (diff : ℤ) (old new : Weighted) → IsCounted bag more row diff old new
    → count_in more row ≡ count_in bag row +ℤ diff
own_count bag more row diff old new one =
    ap (λ b. count_in b row) one.added ∙ count_in-added bag row diff row
    ∙ ap (λ c. count_in bag row +ℤ cond c diff (pos 0)) (row_itself row)

-- with one row more
counted_more : (bag more : Counts) (ws : Weighted) (row : List Datum) (diff : ℤ) (old new : Weighted) → IsCountOf bag ws
    → IsCounted bag more row diff old new → IsCountOf more (ws ++ (row, diff) ∷ [])
counted_more bag more ws row diff old new h one = record {
  each = λ q.
      ap (λ b. count_in b q) one.added ∙ count_in-added bag row diff q
      ∙ ap (λ z. z +ℤ cond (row_eq q row) diff (pos 0)) (h.each q)
      ∙ sym (count-append q ws ((row, diff) ∷ []) ∙ omega (arith, ints));
}

-- no row came in
none_counted : (bag : Counts) → AreCounted bag bag [] []
none_counted bag = record {
  keeps = λ ws h. subst (IsCountOf bag) (sym (append-nil ws)) h;
  gives = λ ws h q. ap (λ vs. count q (distinct vs)) (append-nil ws) ∙ sym (ap (count q) (append-nil (distinct ws)));
  light = omega arith;
}

-- one more did
one_counted : (bag now more : Counts) (done out new : Weighted) (row : List Datum) (diff : ℤ) → AreCounted bag now done out
    → IsCounted now more row diff out new → AreCounted bag more (done ++ (row, diff) ∷ []) new
one_counted bag now more done out new row diff h one = record {
  keeps = λ ws k. subst (IsCountOf more) (append_assoc ws done ((row, diff) ∷ []))
      (counted_more now more (ws ++ done) row diff out new (h.keeps ws k) one);
  gives = λ ws k q.
      let was : count_in now row ≡ count row (ws ++ done) = (h.keeps ws k).each row in
      let is : count_in more row ≡ count row (ws ++ done) +ℤ diff =
      own_count now more row diff out new one ∙ ap (λ n. n +ℤ diff) was in
      let step : count q (distinct ((ws ++ done) ++ (row, diff) ∷ []))
      ≡ count q (distinct (ws ++ done)) +ℤ count q (turned row (is_there (count_in now row)) (is_there (count_in more row))) =
      distinct_one (ws ++ done) row diff q
      ∙ count-append q (distinct (ws ++ done)) (turned row (is_there (count row (ws ++ done))) (is_there (count row (ws ++ done) +ℤ diff)))
      ∙ sym (λ i. count q (distinct (ws ++ done)) +ℤ count q (turned row (is_there (was i)) (is_there (is i)))) in
      let before : count q (distinct (ws ++ done)) ≡ count q (distinct ws) +ℤ count q out =
      h.gives ws k q ∙ count-append q (distinct ws) out in
      let made : count q new ≡ count q out +ℤ count q (turned row (is_there (count_in now row)) (is_there (count_in more row))) =
      ap (count q) one.pushed ∙ count-append q out (turned row (is_there (count_in now row)) (is_there (count_in more row))) in
      ap (λ vs. count q (distinct vs)) (sym (append_assoc ws done ((row, diff) ∷ [])))
      ∙ omega (arith, ints, step, before, made, count-append q (distinct ws) new);
  light =
      let own : mass (turned row (is_there (count_in now row)) (is_there (count_in more row))) ≤ nat_abs diff =
      subst (λ n. mass (turned row (is_there (count_in now row)) (is_there n)) ≤ nat_abs diff)
      (sym (own_count now more row diff out new one)) (turned_mass row (count_in now row) diff) in
      omega (
        arith,
        ap mass one.pushed,
        mass_append out (turned row (is_there (count_in now row)) (is_there (count_in more row))),
        mass_append done ((row, diff) ∷ []),
        own,
        h.light,
      );
}

-- ---- room

-- the next row's count fits
pub room_fits : (bag : Counts) (row : List Datum) (diff : ℤ) (rest : Weighted) → HasRoom bag ((row, diff) ∷ rest)
    → Fits (count_in bag row +ℤ diff)
room_fits bag row diff rest room =
    let counted : nat_abs (count_in bag row) ≤ mass room.ws =
    subst (λ z. nat_abs z ≤ mass room.ws) (sym (room.counts.each row)) (size_count row room.ws) in
    size_fits (count_in bag row +ℤ diff) (omega (arith, size_sum (count_in bag row) diff, counted, room.within))

-- at first all rows are to come
pub begun : (bag : Counts) (left out : Weighted) → HasRoom bag left → out ≡ [] → IsOn bag bag left left out
begun bag left out room none = record {
  done = [];
  all = refl;
  counted = subst (AreCounted bag bag []) (sym none) (none_counted bag);
  room = room;
}

-- then one less
pub one_more : (bag now more : Counts) (left rest out new : Weighted) (row : List Datum) (diff : ℤ)
    → IsOn bag now left ((row, diff) ∷ rest) out → IsCounted now more row diff out new → IsOn bag more left rest new
one_more bag now more left rest out new row diff h one = record {
  done = h.done ++ (row, diff) ∷ [];
  all = append_assoc h.done ((row, diff) ∷ []) rest ∙ h.all;
  counted = one_counted bag now more h.done out new row diff h.counted one;
  room = record {
    ws = h.room.ws ++ (row, diff) ∷ [];
    counts = counted_more now more h.room.ws row diff out new h.room.counts one;
    within = omega (arith, h.room.within, mass_append h.room.ws ((row, diff) ∷ []));
  };
}

-- a list of length 0 has no row
pub no_row : (ws : Weighted) → length ws ≡ 0 → ws ≡ []
no_row [] h = refl
no_row (w ∷ ws) h = cc

-- and in the end none
pub ended : (bag now : Counts) (left rest out : Weighted) → IsOn bag now left rest out → rest ≡ [] → AreCounted bag now left out
ended bag now left rest out h none =
    subst (λ ws. AreCounted bag now ws out) (sym (append-nil h.done) ∙ ap (λ ws. h.done ++ ws) (sym none) ∙ h.all) h.counted

-- ---- a change

-- what is bearable has room
pub room_of : (bag : Counts) (left right rows : Weighted) → IsBearable (λ ls rs. IsCountOf bag ls) kept_load left right → rows ≡ left
    → HasRoom bag rows
room_of bag left right rows h same = record {
  ws = h.first;
  counts = h.stand;
  within = omega (arith, h.within, ap mass same);
}

-- what came in is a change
pub counted_change : (bag now : Counts) (rows made left right out : Weighted) → AreCounted bag now rows made → rows ≡ left → out ≡ made
    → IsChange (λ ls rs. distinct ls) (λ ls rs. IsCountOf bag ls) (λ ls rs. IsCountOf now ls) left right out
counted_change bag now rows made left right out h same is = record {
  stands = λ ls rs k. subst (λ ws. IsCountOf now (ls ++ ws)) same (h.keeps ls k);
  gives = λ ls rs k q. ap (λ ws. count q (distinct (ls ++ ws))) (sym same) ∙ h.gives ls k q
      ∙ ap (λ ws. count q (distinct ls ++ ws)) (sym is);
}

-- of little mass
pub counted_within : (bag now : Counts) (rows made left right out : Weighted) → AreCounted bag now rows made → rows ≡ left → out ≡ made
    → IsWithin (λ ls rs. IsCountOf bag ls) kept_load left right out
counted_within bag now rows made left right out h same is = record {
  most = λ ls rs k. omega (arith, h.light, ap mass same, ap mass is);
}

-- the empty bag counts as no row
pub none_counts : (bag : Counts) → bag ≡ empty → IsCountOf bag []
none_counts bag none = record { each = λ q. ap (λ b. count_in b q) none ∙ count_in-empty q }
