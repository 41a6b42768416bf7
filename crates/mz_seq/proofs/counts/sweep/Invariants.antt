use Rattle.std.proofs.Common.{◌≡◌, true, false, List}
use Rattle.mz_value.specs.declared.datum.Datum.{Datum}
use Rattle.mz_seq.specs.Stored.{count_at, has_row, Covers, IsUsed}
use Rattle.mz_seq.proofs.counts.sweep.Given as goal

-- the counts are as they were, the rows that the changes count have places, and of the rows so far those that have one are used
abbrev pub invariant-rows : goal.invariant-rows
invariant-rows l = record {
  counts : (q : List Datum) → count_at l.counts.entries q ≡ count_at l.initial.counts.entries q;
  covers : Covers l.counts.entries l.changes;
  stays : (q : List Datum) → has_row l.counts.entries q ≡ true → has_row l.initial.counts.entries q ≡ true;
  gone : (q : List Datum) → has_row l.rows.entries q ≡ true → has_row l.row-iterator q ≡ false → IsUsed l.counts.entries l.changes q;
}
