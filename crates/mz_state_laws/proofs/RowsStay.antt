-- A table keeps what it may have as rows come and go.
use Rattle.std.proofs.Common.{◌≡◌, ◌≤◌, ◌+◌, Bool, true, false, cond, not, ℤ, pos, neg_ℤ, ◌+ℤ◌, ◌≤ℤ◌, List, [], ◌∷◌, ◌++◌, length, refl, sym, ap, subst, ◌∙◌, le_trans, arith}
use Rattle.std.proofs.lemmas.Int.{ints}
use Rattle.std.specs.FinMap.{empty, entries}
use Rattle.std.specs.List.{AllByRecursion as Each}
use Rattle.mz_value.specs.declared.datum.Datum.{Datum}
use Rattle.mz_bag.specs.Bag.{Counts}
use Rattle.mz_bag.specs.Mass.{mass}
use Rattle.mz_bag.specs.Weighted.{Weighted, count, each_once, negated}
use Rattle.mz_bag.proofs.BagLaws.{IsBag-bag_of, IsBag-empty, IsDistinct-entries, count-append, count-entries, count-negated, count-not_negative, count_in-bag_of, each_once-weights, entries-empty}
use Rattle.mz_bag.proofs.MassLaws.{mass_append}
use Rattle.mz_statement.specs.declared.column.ColumnType.{ColumnType}
use Rattle.mz_plan.specs.Operators.{filtered}
use Rattle.mz_plan.specs.RowTypes.{HaveTypes, IsRowOf}
use Rattle.mz_plan.specs.Signs.{IsNotNegative}
use Rattle.mz_plan.specs.Small.{most_rows}
use Rattle.mz_plan_laws.proofs.Bounds.{mass_filtered}
use Rattle.mz_plan_laws.proofs.PlanMasses.{least_plain}
use Rattle.mz_plan_laws.proofs.TypedValues.{each_append, each_entry, each_kept, each_map}
use Rattle.mz_plan_laws.proofs.Weighing.{count_filtered}
use Rattle.mz_log.specs.CarriedOut.{rows_in}
use Rattle.mz_log.specs.Sequential.{added}
use Rattle.mz_state_laws.specs.Well.{IsTableBag}

-- a number that is one which isn't negative isn't either
alike_not : (m n : ℤ) → m ≡ n → pos 0 ≤ℤ n → pos 0 ≤ℤ m
alike_not m n same h = subst (λ z. pos 0 ≤ℤ z) (sym same) h

-- a bag to which rows came counts as its own rows and these
added_count : (bag : Counts) (ws : Weighted) (q : List Datum) → count q (entries (added bag ws)) ≡ count q (entries bag ++ ws)
added_count bag ws q = count-entries (added bag ws) q ∙ count_in-bag_of (entries bag ++ ws) q

-- a table without a row
pub rows_none : (types : List ColumnType) → IsTableBag types empty
rows_none types = record {
  no_zero = IsBag-empty;
  counts = subst IsNotNegative (sym entries-empty) (record { counts = λ q. omega (arith, ints) });
  few = omega (arith, ap mass entries-empty);
  typed = subst (HaveTypes types) (sym entries-empty) tt;
}

-- each of a list of rows once is as many as there are
mass_once : (rows : List (List Datum)) → mass (each_once rows) ≡ length rows
mass_once [] = refl
mass_once (row ∷ rows) = omega (arith, mass_once rows)

-- rows come
pub rows_more : (types : List ColumnType) (bag : Counts) (rows : List (List Datum)) → IsTableBag types bag
    → rows_in bag + length rows ≤ most_rows → Each (IsRowOf types) rows → IsTableBag types (added bag (each_once rows))
rows_more types bag rows is few own = record {
  no_zero = IsBag-bag_of (entries bag ++ each_once rows);
  counts = record {
    counts = λ q. alike_not _ _ (added_count bag (each_once rows) q ∙ count-append q (entries bag) (each_once rows))
        (let more = count-not_negative q (each_once rows) (each_once-weights rows) in omega (arith, ints, is.counts.counts q, more));
  };
  few = le_trans
      (least_plain (entries (added bag (each_once rows))) (entries bag ++ each_once rows) (IsDistinct-entries (added bag (each_once rows)))
      (added_count bag (each_once rows)))
      (omega (arith, mass_append (entries bag) (each_once rows), mass_once rows, few));
  typed = each_entry (IsRowOf types) (entries bag ++ each_once rows)
      (each_append (λ w. IsRowOf types w.0) (entries bag) (each_once rows) is.typed
      (each_map (λ w. IsRowOf types w.0) (λ row. (row, pos 1)) rows own));
}

-- of a number itself or nothing is left once nothing or all of it goes
left_over : (c : Bool) (n : ℤ) → n +ℤ neg_ℤ (cond c n (pos 0)) ≡ cond (not c) n (pos 0)
left_over true n = omega (arith, ints)
left_over false n = omega (arith, ints)

-- the rows that a bag has once some went
abbrev kept : (List Datum → Bool) → Counts → Weighted
kept goes bag = filtered (λ row. not (goes row)) (entries bag)

-- it counts those that didn't go
left_count : (goes : List Datum → Bool) (bag : Counts) (q : List Datum)
    → count q (entries (added bag (negated (filtered goes (entries bag))))) ≡ count q (kept goes bag)
left_count goes bag q =
    added_count bag (negated (filtered goes (entries bag))) q
    ∙ count-append q (entries bag) (negated (filtered goes (entries bag)))
    ∙ ap (λ n. count q (entries bag) +ℤ n) (count-negated q (filtered goes (entries bag)) ∙ ap neg_ℤ (count_filtered goes q (entries bag)))
    ∙ left_over (goes q) (count q (entries bag))
    ∙ sym (count_filtered (λ row. not (goes row)) q (entries bag))

-- a number or 0 isn't negative where the number isn't
choice_not : (c : Bool) (n : ℤ) → pos 0 ≤ℤ n → pos 0 ≤ℤ cond c n (pos 0)
choice_not true n h = h
choice_not false n h = omega (arith, ints)

-- rows go
pub rows_less : (types : List ColumnType) (bag : Counts) (goes : List Datum → Bool) → IsTableBag types bag
    → IsTableBag types (added bag (negated (filtered goes (entries bag))))
rows_less types bag goes is = record {
  no_zero = IsBag-bag_of (entries bag ++ negated (filtered goes (entries bag)));
  counts = record {
    counts = λ q. alike_not _ _ (left_count goes bag q ∙ count_filtered (λ row. not (goes row)) q (entries bag))
        (choice_not (not (goes q)) (count q (entries bag)) (is.counts.counts q));
  };
  few = le_trans
      (least_plain _ (kept goes bag) (IsDistinct-entries (added bag (negated (filtered goes (entries bag))))) (left_count goes bag))
      (le_trans (mass_filtered (λ row. not (goes row)) (entries bag)) is.few);
  typed = each_entry (IsRowOf types) (entries bag ++ negated (filtered goes (entries bag)))
      (each_append (λ w. IsRowOf types w.0) (entries bag) (negated (filtered goes (entries bag))) is.typed
      (each_map (λ w. IsRowOf types w.0) (λ w. (w.0, neg_ℤ w.1)) (filtered goes (entries bag))
      (each_kept (λ w. IsRowOf types w.0) (λ w. goes w.0) (entries bag) is.typed)));
}
