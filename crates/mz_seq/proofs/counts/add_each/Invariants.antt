use Rattle.std.proofs.Common.{◌≡◌, ◌+ℤ◌, pos, false, List}
use Rattle.std.specs.List.{IsDistinct}
use Rattle.std.specs.Map.{keys_of}
use Rattle.mz_value.specs.Row.{row_eq}
use Rattle.mz_value.specs.declared.datum.Datum.{Datum}
use Rattle.mz_bag.specs.Bag.{count_in, map_of}
use Rattle.mz_bag.specs.Weighted.{count}
use Rattle.mz_seq.specs.Stored.{count_at, has_row}
use Rattle.mz_seq.proofs.counts.add_each.Given as goal

-- what is stored and what is still to come make the sum; each row to come stands once, and has a place unless nothing comes to it
abbrev pub invariant-rows : goal.invariant-rows
invariant-rows l = record {
  once : IsDistinct row_eq (keys_of l.row-iterator);
  summed : (q : List Datum) → count_at l.counts.entries q +ℤ count q l.row-iterator ≡ count_at l.initial.counts.entries q +ℤ count_in (map_of l.change.entries) q;
  covers : (q : List Datum) → has_row l.counts.entries q ≡ false → count q l.row-iterator ≡ pos 0;
  places : (q : List Datum) → has_row l.counts.entries q ≡ has_row l.initial.counts.entries q;
}
