use Rattle.std.proofs.Common.{◌≡◌, true, false, List}
use Rattle.mz_value.specs.declared.datum.Datum.{Datum}
use Rattle.mz_bag.specs.Bag.{count_in, map_of}
use Rattle.mz_bag.specs.Weighted.{count}
use Rattle.mz_seq.specs.Stored.{count_at, has_row}
use Rattle.mz_seq.proofs.counts.make_places.Given as goal

-- the counts are as they were, no place is gone, and what comes to a row without a place is still to come
abbrev pub invariant-rows : goal.invariant-rows
invariant-rows l = record {
  counts : (q : List Datum) → count_at l.counts.entries q ≡ count_at l.initial.counts.entries q;
  kept : (q : List Datum) → has_row l.counts.entries q ≡ false → has_row l.initial.counts.entries q ≡ false;
  only : (q : List Datum) → has_row l.change.entries q ≡ false → has_row l.counts.entries q ≡ true → has_row l.initial.counts.entries q ≡ true;
  among : (q : List Datum) → has_row l.change.entries q ≡ false → has_row l.row-iterator q ≡ false;
  left : (q : List Datum) → has_row l.counts.entries q ≡ false → count q l.row-iterator ≡ count_in (map_of l.change.entries) q;
}
