-- What stored rows stand for, now and at the mark, and how it follows them.
use Rattle.std.proofs.Common.{◌≡◌, ◌≤◌, ℕ, ℤ, pos, nat_abs, ◌+◌, ◌+ℤ◌, ◌≤ℤ◌, neg_ℤ, Bool, cond, length, List, ◌∷◌, true, ◌++◌, Result, Ok, Err, OnErr, sym, ap, subst, ◌∙◌, le_trans, [], arith}
use Rattle.std.proofs.lemmas.Int.{ints}
use Rattle.std.specs.FinMap.{empty, entries}
use Rattle.std.specs.List.{IsDistinct}
use Rattle.std.specs.Map.{keys_of}
use Rattle.mz_value.specs.Row.{row_eq}
use Rattle.mz_value.specs.declared.datum.Datum.{Datum}
use Rattle.mz_bag.specs.Bag.{Counts, count_in, map_of, Fits, IsBag}
use Rattle.mz_bag.specs.Mass.{mass}
use Rattle.mz_bag.specs.Weighted.{Weighted, count, bag_of, each_once, negated, sum_of, negation_of}
use Rattle.mz_bag.proofs.BagLaws.{bag_of-same, same_counts, count-entries, count-negated, count_in-bag_of, count_in-empty, count_in-map_of, count_in-sum_of, count_in-negation_of, IsBag-bag_of, IsBag-empty, IsBag-sum_of}
use Rattle.mz_bag.proofs.StoredCounts.{count_in-lookup}
use Rattle.mz_plan.specs.Operators.{filtered}
use Rattle.mz_plan.specs.Small.{most_rows}
use Rattle.mz_plan_laws.proofs.Bounds.{mass_filtered}
use Rattle.mz_plan_laws.proofs.PlanMasses.{least_plain, mass_negated}
use Rattle.mz_plan_laws.proofs.Weighing.{count_filtered}
use Rattle.mz_log.specs.Sequential.{added, difference}
use Rattle.mz_log.specs.CarriedOut.{rows_in}
use Rattle.mz_seq.specs.Stored.{count_at, rows_now, rows_then, AreUsed, Covers, IsTable, IsKept}
use Rattle.mz_seq.proofs.Making.{difference_fits}
use Rattle.mz_seq.proofs.TableLemmas.{added_counts, alike_mass, entries_not, kept_not, table_fits, table_more, table_size, weights_not}

-- ---- counts

-- the rows of now count as they are stored
pub now_counts : (es : Weighted) (q : List Datum) → count_in (rows_now es) q ≡ count_at es q
now_counts es q = count_in-bag_of (entries (map_of es)) q ∙ count-entries (map_of es) q ∙ count_in-lookup es q

-- and those of the mark as they are stored less what came
pub then_counts : (es : Weighted) (changes : Counts) (q : List Datum) → count_in (rows_then es changes) q ≡ count_at es q +ℤ neg_ℤ (count_in changes q)
then_counts es changes q =
    count_in-sum_of (rows_now es) (negation_of changes) q ∙ (λ i. now_counts es q i +ℤ count_in-negation_of changes q i)

-- where no row stands twice, a list counts as it is stored
stored_counts : (es : Weighted) (q : List Datum) → IsDistinct row_eq (keys_of es) → count q es ≡ count_at es q
stored_counts es q once = sym (count_in-map_of q es once) ∙ count_in-lookup es q

-- so it counts as the entries of the rows of now
now_alike : (es : Weighted) → IsDistinct row_eq (keys_of es) → (q : List Datum) → count q es ≡ count q (entries (rows_now es))
now_alike es once q = stored_counts es q once ∙ sym (now_counts es q) ∙ sym (count-entries (rows_now es) q)

-- and has as many rows at most
pub now_mass : (es : Weighted) → IsDistinct row_eq (keys_of es) → mass es ≤ rows_in (rows_now es)
now_mass es once = least_plain es (entries (rows_now es)) once (now_alike es once)

-- ---- what follows

-- rows that are stored alike are the same
pub now_same : (es fs : Weighted) → ((q : List Datum) → count_at fs q ≡ count_at es q) → rows_now fs ≡ rows_now es
now_same es fs same = same_counts _ _ (IsBag-bag_of (entries (map_of fs))) (IsBag-bag_of (entries (map_of es))) (λ q. now_counts fs q ∙ same q ∙ sym (now_counts es q))

-- and so are those of the mark
pub then_same : (es fs : Weighted) (before after : Counts) → ((q : List Datum) → count_at fs q ≡ count_at es q) → after ≡ before → rows_then fs after ≡ rows_then es before
then_same es fs before after same is = λ i. sum_of (now_same es fs same i) (negation_of (is i))

-- a change comes to the rows of now
pub now_moved : (es fs ws : Weighted) (change : Counts) → ((q : List Datum) → count_at fs q ≡ count_at es q +ℤ count_in change q) → change ≡ bag_of ws
    → rows_now fs ≡ added (rows_now es) ws
now_moved es fs ws change moved is = same_counts _ _ (IsBag-bag_of (entries (map_of fs))) (IsBag-bag_of (entries (rows_now es) ++ ws)) (λ q.
    let comes : count_in change q ≡ count q ws = ap (λ (b : Counts). count_in b q) is ∙ count_in-bag_of ws q in
    omega (arith, ints, now_counts fs q, moved q, comes, now_counts es q, added_counts (rows_now es) ws q))

-- and leaves those of the mark
pub then_moved : (es fs : Weighted) (before change after : Counts) → ((q : List Datum) → count_at fs q ≡ count_at es q +ℤ count_in change q)
    → after ≡ sum_of before change → rows_then fs after ≡ rows_then es before
then_moved es fs before change after moved is =
    same_counts _ _ (IsBag-sum_of (rows_now fs) (negation_of after)) (IsBag-sum_of (rows_now es) (negation_of before)) (λ q.
    let sum : count_in after q ≡ count_in before q +ℤ count_in change q = ap (λ (b : Counts). count_in b q) is ∙ count_in-sum_of before change q in
    omega (arith, ints, then_counts fs after q, then_counts es before q, moved q, sum))

-- what came is the difference
pub changes_are : (es : Weighted) (changes : Counts) → IsBag changes → changes ≡ difference (rows_then es changes) (rows_now es)
changes_are es changes is =
    same_counts _ _ is (IsBag-sum_of (rows_now es) (negation_of (rows_then es changes))) (λ q.
    omega (
      arith,
      ints,
      count_in-sum_of (rows_now es) (negation_of (rows_then es changes)) q,
      count_in-negation_of (rows_then es changes) q,
      then_counts es changes q,
      now_counts es q,
    ))

-- ---- what fits

-- a count that is to be stored fits
pub moved_fits : (es ws : Weighted) (change : Counts) (rows : ℕ) → IsTable rows (added (rows_now es) ws) → change ≡ bag_of ws → (q : List Datum)
    → Fits (count_at es q +ℤ count_in change q)
moved_fits es ws change rows whole is q =
    let comes : count_in change q ≡ count q ws = ap (λ (b : Counts). count_in b q) is ∙ count_in-bag_of ws q in
    subst Fits (added_counts (rows_now es) ws q ∙ (λ i. now_counts es q i +ℤ sym comes i))
    (table_fits rows (added (rows_now es) ws) q whole)

-- and so does what came since the mark
pub moved_sums : (es ws : Weighted) (before change : Counts) (rows marked : ℕ) → IsTable rows (added (rows_now es) ws)
    → IsTable marked (rows_then es before) → change ≡ bag_of ws → (q : List Datum) → Fits (count_in before q +ℤ count_in change q)
moved_sums es ws before change rows marked whole then is q =
    let comes : count_in change q ≡ count q ws = ap (λ (b : Counts). count_in b q) is ∙ count_in-bag_of ws q in
    difference_fits (count_in before q +ℤ count_in change q) (count_in (added (rows_now es) ws) q) (count_in (rows_then es before) q)
    (omega (arith, ints, comes, added_counts (rows_now es) ws q, now_counts es q, then_counts es before q))
    (table_size rows (added (rows_now es) ws) q whole) (table_size marked (rows_then es before) q then)

-- ---- what stays

-- what is kept stays so where a change comes to it
pub moved_keeps : (es fs ws : Weighted) (before change after : Counts) (rows marked more : ℕ) → IsKept es rows marked before
    → IsTable more (added (rows_now es) ws) → ((q : List Datum) → count_at fs q ≡ count_at es q +ℤ count_in change q) → change ≡ bag_of ws
    → after ≡ sum_of before change → Covers fs after → AreUsed fs after → IsKept fs more marked after
moved_keeps es fs ws before change after rows marked more is whole moved comes sum covers used = record {
  covers = covers;
  used = used;
  no_zero = subst IsBag (sym sum) (IsBag-sum_of before change);
  now = subst (IsTable more) (sym (now_moved es fs ws change moved comes)) whole;
  then = subst (IsTable marked) (sym (then_moved es fs before change after moved sum)) is.then;
}

-- and where nothing comes
pub same_keeps : (es fs : Weighted) (before after : Counts) (rows marked : ℕ) → IsKept es rows marked before
    → ((q : List Datum) → count_at fs q ≡ count_at es q) → after ≡ before → Covers fs after → AreUsed fs after → IsKept fs rows marked after
same_keeps es fs before after rows marked is same kept covers used = record {
  covers = covers;
  used = used;
  no_zero = subst IsBag (sym kept) is.no_zero;
  now = subst (IsTable rows) (sym (now_same es fs same)) is.now;
  then = subst (IsTable marked) (sym (then_same es fs before after same kept)) is.then;
}

-- ---- rows that go

-- where no row stands twice, those that meet a test are no more than a table may have
pub met_few : (p : List Datum → Bool) (es : Weighted) → IsDistinct row_eq (keys_of es) → rows_in (rows_now es) ≤ most_rows → mass (negated (filtered p es)) ≤ most_rows
met_few p es once few = subst (λ n. n ≤ most_rows) (sym (mass_negated (filtered p es))) (le_trans (mass_filtered p es) (le_trans (now_mass es once) few))

-- the next row that meets it counts its own
pub met_number : (p : List Datum → Bool) (es rest : Weighted) (row : List Datum) (n : ℤ) → es ≡ (row, n) ∷ rest → p row ≡ true
    → mass (filtered p es) ≡ nat_abs n + mass (filtered p rest)
met_number p es rest row n next passes =
    ap (λ (ws : Weighted). mass (filtered p ws)) next ∙ ap (λ c. mass (cond c ((row, n) ∷ filtered p rest) (filtered p rest))) passes

-- rows that are kept count alike in both lists
met_alike : (p : List Datum → Bool) (es : Weighted) → IsDistinct row_eq (keys_of es) → (q : List Datum)
    → count q (filtered p es) ≡ count q (filtered p (entries (rows_now es)))
met_alike p es once q =
    count_filtered p q es ∙ ap (λ z. cond (p q) z (pos 0)) (now_alike es once q) ∙ sym (count_filtered p q (entries (rows_now es)))

-- so the stored rows that meet it are the rows of now that do
pub met_bag : (p : List Datum → Bool) (es : Weighted) → IsDistinct row_eq (keys_of es)
    → bag_of (negated (filtered p es)) ≡ bag_of (negated (filtered p (entries (rows_now es))))
met_bag p es once = bag_of-same (negated (filtered p es)) (negated (filtered p (entries (rows_now es)))) (λ q.
    count-negated q (filtered p es) ∙ ap neg_ℤ (met_alike p es once q) ∙ sym (count-negated q (filtered p (entries (rows_now es)))))

-- and as many
pub met_mass : (p : List Datum → Bool) (es : Weighted) → IsDistinct row_eq (keys_of es) → ((q : List Datum) → pos 0 ≤ℤ count_in (rows_now es) q)
    → mass (filtered p es) ≡ mass (filtered p (entries (rows_now es)))
met_mass p es once h =
    let stored : (q : List Datum) → pos 0 ≤ℤ count q es = λ q. subst (λ z. pos 0 ≤ℤ z) (sym (stored_counts es q once ∙ sym (now_counts es q))) (h q) in
    alike_mass (filtered p es) (filtered p (entries (rows_now es))) (kept_not p es (weights_not es once stored))
    (kept_not p (entries (rows_now es)) (entries_not (rows_now es) h)) (met_alike p es once)

-- ---- the mark

-- nothing is covered by all
pub covers_none : (es : Weighted) (bag : Counts) → bag ≡ empty → Covers es bag
covers_none es bag is = record { covers = λ q none. ap (λ (b : Counts). count_in b q) is ∙ count_in-empty q }

-- where nothing came since the mark, the rows of then are those of now
pub then_now : (es : Weighted) (changes : Counts) → changes ≡ empty → rows_then es changes ≡ rows_now es
then_now es changes is =
    same_counts _ _ (IsBag-sum_of (rows_now es) (negation_of changes)) (IsBag-bag_of (entries (map_of es))) (λ q.
    let none : count_in changes q ≡ pos 0 = ap (λ (b : Counts). count_in b q) is ∙ count_in-empty q in
    omega (arith, ints, then_counts es changes q, now_counts es q, none))

-- what is kept at a mark
pub marked_kept : (es : Weighted) (changes : Counts) (rows : ℕ) → changes ≡ empty → AreUsed es changes → IsTable rows (rows_now es) → IsKept es rows rows changes
marked_kept es changes rows is used whole = record {
  covers = covers_none es changes is;
  used = used;
  no_zero = subst IsBag (sym is) IsBag-empty;
  now = whole;
  then = subst (IsTable rows) (sym (then_now es changes is)) whole;
}

-- what came taken back gives the rows of then
pub now_back : (es fs : Weighted) (changes back : Counts) → back ≡ negation_of changes
    → ((q : List Datum) → count_at fs q ≡ count_at es q +ℤ count_in back q) → rows_now fs ≡ rows_then es changes
now_back es fs changes back is moved =
    same_counts _ _ (IsBag-bag_of (entries (map_of fs))) (IsBag-sum_of (rows_now es) (negation_of changes)) (λ q.
    let gone : count_in back q ≡ neg_ℤ (count_in changes q) = ap (λ (b : Counts). count_in b q) is ∙ count_in-negation_of changes q in
    omega (arith, ints, now_counts fs q, moved q, gone, then_counts es changes q))

-- it fits
pub back_fits : (es : Weighted) (changes back : Counts) (rows : ℕ) → back ≡ negation_of changes → IsTable rows (rows_then es changes) → (q : List Datum)
    → Fits (count_at es q +ℤ count_in back q)
back_fits es changes back rows is whole q =
    let gone : count_in back q ≡ neg_ℤ (count_in changes q) = ap (λ (b : Counts). count_in b q) is ∙ count_in-negation_of changes q in
    subst Fits (then_counts es changes q ∙ ap (λ z. count_at es q +ℤ z) (sym gone)) (table_fits rows (rows_then es changes) q whole)

-- and is covered
pub back_covers : (es : Weighted) (changes back : Counts) → back ≡ negation_of changes → Covers es changes → Covers es back
back_covers es changes back is covers = record {
  covers = λ q none.
      let zero : count_in changes q ≡ pos 0 = covers.covers q none in
      ap (λ (b : Counts). count_in b q) is ∙ count_in-negation_of changes q ∙ ap neg_ℤ zero;
}

-- a stored list without a row is the empty table
pub now_none : (es : Weighted) → es ≡ [] → rows_now es ≡ empty
now_none es is =
    same_counts _ _ (IsBag-bag_of (entries (map_of es))) IsBag-empty (λ q.
    now_counts es q ∙ ap (λ (ws : Weighted). count_at ws q) is ∙ sym (count_in-empty q))

-- ---- an INSERT

-- rows come to a table that has room for them
pub insert_table : (es : Weighted) (changes : Counts) (rows marked : ℕ) (list : List (List Datum)) (present : Counts) → IsKept es rows marked changes
    → rows_now es ≡ present → rows_in present + length list ≤ most_rows → IsTable (rows + length list) (added (rows_now es) (each_once list))
insert_table es changes rows marked list present is view few =
    table_more rows (rows_now es) list is.now (omega (arith, is.now.number, ap rows_in view, few))

-- ---- exits

-- what holds holds after an error
pub on_err : {A E : Type 0} (result : Result A E) {P : Type 0} → P → OnErr result P
on_err (Ok x) p = tt
on_err (Err e) p = p

-- ---- sweeping

-- what is kept stays so where its rows are stored otherwise
pub swept_kept : (es fs : Weighted) (changes : Counts) (rows : ℕ) → changes ≡ empty → ((q : List Datum) → count_at fs q ≡ count_at es q)
    → AreUsed fs changes → IsTable rows (rows_now es) → IsKept fs rows rows changes
swept_kept es fs changes rows none same used whole = marked_kept fs changes rows none used (subst (IsTable rows) (sym (now_same es fs same)) whole)
