use Rattle.std.proofs.Common.{◌≡◌, ◌+ℤ◌, List}
use Rattle.std.specs.List.{IsDistinct}
use Rattle.std.specs.Map.{keys_of}
use Rattle.std.specs.Vec.Iter.{into_iter_items}
use Rattle.mz_value.specs.declared.datum.Datum.{Datum}
use Rattle.mz_value.specs.Row.{row_eq}
use Rattle.mz_bag.specs.Bag.{count_in, IsBag}
use Rattle.mz_bag.specs.Weighted.{count}
use Rattle.mz_updates.specs.Contents.{weights}
use Rattle.mz_updates.proofs.merging.bag_of_rows.Given as goal

-- what is counted and what is still to come make all, and each row to come comes once
abbrev pub invariant-updates : goal.invariant-updates
invariant-updates l = record {
  once : IsDistinct row_eq (keys_of (weights (into_iter_items l.row-iterator)));
  bag : IsBag l.bag;
  summed : (row : List Datum) → count_in l.bag row +ℤ count row (weights (into_iter_items l.row-iterator)) ≡ count row (weights l.fn.updates.items);
}
