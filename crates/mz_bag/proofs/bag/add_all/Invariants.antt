use Rattle.std.proofs.Common.{◌≡◌, ◌≤◌, ◌+ℤ◌, List, length}
use Rattle.std.specs.List.{IsDistinct}
use Rattle.std.specs.Map.{keys_of}
use Rattle.std.specs.Vec.Iter.{into_iter_items}
use Rattle.indexmap.specs.IndexMap.{spare}
use Rattle.mz_value.specs.declared.datum.Datum.{Datum}
use Rattle.mz_value.specs.Row.{row_eq}
use Rattle.mz_bag.specs.Bag.{count_in, map_of, IsBag}
use Rattle.mz_bag.specs.Weighted.{count}
use Rattle.mz_bag.proofs.bag.add_all.Given as goal

-- what is counted and what is still to come make the sum, and there is room for the rows to come, each once
abbrev pub invariant-rows : goal.invariant-rows
invariant-rows l = record {
  room : length (into_iter_items l.row-iterator) ≤ spare l.counts;
  once : IsDistinct row_eq (keys_of (into_iter_items l.row-iterator));
  bag : IsBag (map_of l.counts.entries);
  summed : (row : List Datum) → count_in (map_of l.counts.entries) row +ℤ count row (into_iter_items l.row-iterator) ≡ count_in (map_of l.initial.counts.entries) row +ℤ count row l.fn.more.items;
}
