-- What a table may have stays so as rows come and go.
use Rattle.std.proofs.Common.{◌≡◌, ◌≤◌, ◌-◌, ℕ, ℤ, pos, negsuc, nat_abs, ◌+◌, ◌+ℤ◌, ◌≤ℤ◌, neg_ℤ, Bool, true, false, cond, List, [], ◌∷◌, ◌++◌, length, refl, sym, ap, subst, ◌∙◌, arith}
use Rattle.std.proofs.lemmas.Int.{ints}
use Rattle.std.specs.FinMap.{empty, entries}
use Rattle.std.specs.List.{AllByRecursion as Each, IsDistinct}
use Rattle.std.specs.Map.{keys_of}
use Rattle.std.proofs.lemmas.Map.Keys.{IsDistinct-head, IsDistinct-tail}
use Rattle.mz_value.specs.Row.{row_eq}
use Rattle.mz_value.specs.RowOrder.{row_eq-Decides}
use Rattle.mz_value.specs.declared.datum.Datum.{Datum}
use Rattle.mz_bag.specs.Bag.{Counts, count_in, Fits}
use Rattle.mz_bag.specs.Mass.{mass}
use Rattle.mz_bag.specs.Weighted.{Weighted, count, each_once, negated}
use Rattle.mz_bag.proofs.BagLaws.{count-append, count-negated, count-entries, count_in-bag_of, count_in-empty, entries-empty, IsDistinct-entries, count-not_negative, each_once-weights}
use Rattle.mz_bag.proofs.MassLaws.{size_count, size_fits}
use Rattle.mz_plan.specs.Aggregate.{weigh}
use Rattle.mz_plan.specs.Operators.{filtered}
use Rattle.mz_plan.specs.Small.{most_rows}
use Rattle.mz_plan.proofs.Products.{times_one}
use Rattle.mz_plan.proofs.SumRules.{weigh_append}
use Rattle.mz_plan_laws.proofs.Bounds.{absent}
use Rattle.mz_plan_laws.proofs.Weighing.{count_filtered, row_itself, weigh_alike, weigh_negated}
use Rattle.mz_log.specs.Sequential.{added}
use Rattle.mz_log.specs.CarriedOut.{rows_in}
use Rattle.mz_seq.specs.Stored.{IsTable}

-- ---- rows and their number

-- each row counts 1
one : List Datum → ℤ
one row = pos 1

-- a number that isn't negative is its size
size_is : (z : ℤ) → pos 0 ≤ℤ z → pos (nat_abs z) ≡ z
size_is (pos n) h = refl
size_is (negsuc n) h = absurd (omega (arith, ints, h))

-- a list of weights that aren't negative weighs its mass
weigh_mass : (es : Weighted) → Each (λ e. pos 0 ≤ℤ e.1) es → weigh one es ≡ pos (mass es)
unfolding one
weigh_mass [] h = refl
weigh_mass (e ∷ es) h = omega (arith, ints, size_is e.1 h.0, times_one e.1, weigh_mass es h.1)

-- where no row stands twice and no count is negative, no weight is
pub weights_not : (es : Weighted) → IsDistinct row_eq (keys_of es) → ((q : List Datum) → pos 0 ≤ℤ count q es) → Each (λ e. pos 0 ≤ℤ e.1) es
weights_not [] once h = tt
weights_not (e ∷ es) once h =
    let none : count e.0 es ≡ pos 0 = absent e.0 es (IsDistinct-head row_eq e.0 (keys_of es) once) in
    let own : count e.0 (e ∷ es) ≡ e.1 = ap (λ c. cond c e.1 (pos 0) +ℤ count e.0 es) (row_itself e.0) ∙ omega (arith, ints, none) in
    (subst (λ z. pos 0 ≤ℤ z) own (h e.0), weights_not es (IsDistinct-tail row_eq e.0 (keys_of es) once) (λ q. passed q (row_eq q e.0) refl (h q)))
  where
    passed : (q : List Datum) (c : Bool) → row_eq q e.0 ≡ c → pos 0 ≤ℤ count q (e ∷ es) → pos 0 ≤ℤ count q es
    passed q true is k =
        let gone : count q es ≡ pos 0 = ap (λ r. count r es) ((row_eq-Decides q e.0).0 is) ∙ absent e.0 es (IsDistinct-head row_eq e.0 (keys_of es) once) in
        omega (arith, ints, gone)
    passed q false is k =
        let same : count q (e ∷ es) ≡ pos 0 +ℤ count q es = ap (λ c. cond c e.1 (pos 0) +ℤ count q es) is in
        omega (arith, ints, same, k)

-- so it is with the entries of a bag without a negative count
pub entries_not : (bag : Counts) → ((q : List Datum) → pos 0 ≤ℤ count_in bag q) → Each (λ e. pos 0 ≤ℤ e.1) (entries bag)
entries_not bag h = weights_not (entries bag) (IsDistinct-entries bag) (λ q. subst (λ z. pos 0 ≤ℤ z) (sym (count-entries bag q)) (h q))

-- and these weigh as many rows as there are
rows_weigh : (bag : Counts) → ((q : List Datum) → pos 0 ≤ℤ count_in bag q) → weigh one (entries bag) ≡ pos (rows_in bag)
rows_weigh bag h = weigh_mass (entries bag) (entries_not bag h)

-- rows that came weigh together with those that were there
added_weighs : (bag : Counts) (ws : Weighted) → weigh one (entries (added bag ws)) ≡ weigh one (entries bag) +ℤ weigh one ws
added_weighs bag ws =
    weigh_alike one (entries (added bag ws)) (entries bag ++ ws) (λ q. count-entries (added bag ws) q ∙ count_in-bag_of (entries bag ++ ws) q)
    ∙ weigh_append one (entries bag) ws

-- and count so
pub added_counts : (bag : Counts) (ws : Weighted) (q : List Datum) → count_in (added bag ws) q ≡ count_in bag q +ℤ count q ws
added_counts bag ws q =
    count_in-bag_of (entries bag ++ ws) q ∙ count-append q (entries bag) ws ∙ ap (λ z. z +ℤ count q ws) (count-entries bag q)

-- each of a list of rows once is as much as there are
pub mass_once : (rows : List (List Datum)) → mass (each_once rows) ≡ length rows
mass_once [] = refl
mass_once (row ∷ rows) = omega (arith, mass_once rows)

-- they weigh so
once_weighs : (rows : List (List Datum)) → weigh one (each_once rows) ≡ pos (length rows)
unfolding one
once_weighs [] = refl
once_weighs (row ∷ rows) = omega (arith, ints, times_one (pos 1), once_weighs rows)

-- ---- an INSERT and a DELETE

-- numbers that are one as integers are one
same_number : (m n : ℕ) → pos m ≡ pos n → m ≡ n
same_number m n h = ap nat_abs h

-- lists without a negative weight that count alike have one mass
pub alike_mass : (vs ws : Weighted) → Each (λ e. pos 0 ≤ℤ e.1) vs → Each (λ e. pos 0 ≤ℤ e.1) ws → ((q : List Datum) → count q vs ≡ count q ws) → mass vs ≡ mass ws
alike_mass vs ws h k alike = same_number _ _ (sym (weigh_mass vs h) ∙ weigh_alike one vs ws alike ∙ weigh_mass ws k)

-- a table to which rows come has as many more
pub table_more : (rows : ℕ) (bag : Counts) (list : List (List Datum)) → IsTable rows bag → rows + length list ≤ most_rows
    → IsTable (rows + length list) (added bag (each_once list))
table_more rows bag list is few =
    let not_negative : (q : List Datum) → pos 0 ≤ℤ count_in (added bag (each_once list)) q =
    λ q. let more = count-not_negative q (each_once list) (each_once-weights list) in
    subst (λ z. pos 0 ≤ℤ z) (sym (added_counts bag (each_once list) q)) (omega (arith, ints, is.counts q, more)) in
    record {
      counts = not_negative;
      number = same_number _ _ (omega (
        arith,
        ints,
        ap pos is.number,
        rows_weigh bag is.counts,
        once_weighs list,
        added_weighs bag (each_once list),
        rows_weigh (added bag (each_once list)) not_negative,
      ));
      few = few;
    }

-- what is kept of a list without a negative weight has none
pub kept_not : (keeps : List Datum → Bool) (es : Weighted) → Each (λ e. pos 0 ≤ℤ e.1) es → Each (λ e. pos 0 ≤ℤ e.1) (filtered keeps es)
kept_not keeps [] h = tt
kept_not keeps (e ∷ es) h = by (keeps e.0) (kept_not keeps es h.1)
  where
    by : (c : Bool) → Each (λ e. pos 0 ≤ℤ e.1) (filtered keeps es) → Each (λ e. pos 0 ≤ℤ e.1) (cond c (e ∷ filtered keeps es) (filtered keeps es))
    by true rest = (h.0, rest)
    by false rest = rest

-- rows that go weigh the negative of how many they are
gone_weigh : (bag : Counts) (keeps : List Datum → Bool) → ((q : List Datum) → pos 0 ≤ℤ count_in bag q)
    → weigh one (negated (filtered keeps (entries bag))) ≡ neg_ℤ (pos (mass (filtered keeps (entries bag))))
gone_weigh bag keeps h =
    weigh_negated one (filtered keeps (entries bag)) ∙ ap neg_ℤ (weigh_mass (filtered keeps (entries bag)) (kept_not keeps (entries bag) (entries_not bag h)))

-- of a number that isn't negative, itself or nothing is left once nothing or all of it goes
left_over : (c : Bool) (z : ℤ) → pos 0 ≤ℤ z → pos 0 ≤ℤ (z +ℤ neg_ℤ (cond c z (pos 0)))
left_over true z h = omega (arith, ints)
left_over false z h = omega (arith, ints, h)

-- no count is negative once rows go
gone_counts : (bag : Counts) (keeps : List Datum → Bool) → ((q : List Datum) → pos 0 ≤ℤ count_in bag q) → (q : List Datum)
    → pos 0 ≤ℤ count_in (added bag (negated (filtered keeps (entries bag)))) q
gone_counts bag keeps h q =
    let gone : count q (negated (filtered keeps (entries bag))) ≡ neg_ℤ (cond (keeps q) (count_in bag q) (pos 0)) =
    count-negated q (filtered keeps (entries bag)) ∙ ap neg_ℤ (count_filtered keeps q (entries bag))
    ∙ ap (λ z. neg_ℤ (cond (keeps q) z (pos 0))) (count-entries bag q) in
    subst (λ z. pos 0 ≤ℤ z) (sym (added_counts bag (negated (filtered keeps (entries bag))) q ∙ ap (λ z. count_in bag q +ℤ z) gone))
    (left_over (keeps q) (count_in bag q) (h q))

-- those that are left and those that go are all
pub gone_number : (rows : ℕ) (bag : Counts) (keeps : List Datum → Bool) → IsTable rows bag
    → rows_in (added bag (negated (filtered keeps (entries bag)))) + mass (filtered keeps (entries bag)) ≡ rows
gone_number rows bag keeps is =
    same_number _ _ (omega (
      arith,
      ints,
      ap pos is.number,
      rows_weigh bag is.counts,
      gone_weigh bag keeps is.counts,
      added_weighs bag (negated (filtered keeps (entries bag))),
      rows_weigh (added bag (negated (filtered keeps (entries bag)))) (gone_counts bag keeps is.counts),
    ))

-- a table from which rows go has as many less
pub table_less : (rows : ℕ) (bag : Counts) (keeps : List Datum → Bool) → IsTable rows bag
    → IsTable (rows - mass (filtered keeps (entries bag))) (added bag (negated (filtered keeps (entries bag))))
table_less rows bag keeps is =
    let number = gone_number rows bag keeps is in
    record {
      counts = gone_counts bag keeps is.counts;
      number = omega (arith, number);
      few = omega (arith, number, is.few);
    }

-- ---- what fits

-- no count of a table is above the number of its rows
pub table_size : (rows : ℕ) (bag : Counts) (q : List Datum) → IsTable rows bag → nat_abs (count_in bag q) ≤ most_rows
table_size rows bag q is =
    let small : nat_abs (count_in bag q) ≤ mass (entries bag) = subst (λ z. nat_abs z ≤ mass (entries bag)) (count-entries bag q) (size_count q (entries bag)) in
    omega (arith, small, is.number, is.few)

-- each count of a table fits, and so does a difference of two tables' counts
pub table_fits : (rows : ℕ) (bag : Counts) (q : List Datum) → IsTable rows bag → Fits (count_in bag q)
table_fits rows bag q is =
    let small : nat_abs (count_in bag q) ≤ mass (entries bag) = subst (λ z. nat_abs z ≤ mass (entries bag)) (count-entries bag q) (size_count q (entries bag)) in
    size_fits (count_in bag q) (omega (arith, small, is.number, is.few))

-- the empty table
pub table_none : IsTable 0 empty
table_none = record {
  counts = λ q. omega (arith, ints, count_in-empty q);
  number = sym (ap mass entries-empty);
  few = omega arith;
}
