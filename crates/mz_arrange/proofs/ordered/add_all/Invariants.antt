use Rattle.std.proofs.Common.{◌≡◌, ◌+ℤ◌, List}
use Rattle.std.specs.BTreeMap.{get}
use Rattle.std.specs.List.{AllByRecursion as Each, IsDistinct}
use Rattle.std.specs.Map.{keys_of}
use Rattle.std.specs.Option.{IsSome}
use Rattle.std.specs.Vec.Iter.{into_iter_items}
use Rattle.mz_value.specs.declared.datum.Datum.{Datum}
use Rattle.mz_value.specs.Row.{row_cmp, row_eq}
use Rattle.mz_bag.specs.Weighted.{count}
use Rattle.mz_arrange.proofs.ordered.add_all.Given as goal

-- what is counted and what is still to come make the sum, and each row to come has its place
abbrev pub invariant-adding : goal.invariant-adding
invariant-adding l = record {
  places : Each (λ w. IsSome (get row_cmp l.rows w.0)) (into_iter_items l.row-iterator);
  once : IsDistinct row_eq (keys_of (into_iter_items l.row-iterator));
  summed : (q : List Datum) → count q l.rows.entries +ℤ count q (into_iter_items l.row-iterator) ≡ count q l.initial.rows.entries +ℤ count q l.fn.more.items;
}
