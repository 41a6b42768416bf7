use Rattle.std.proofs.Common.{◌≡◌, ◌+◌, ◌++◌, drop, length}
use Rattle.mz_resolution.specs.Columns.{columns_of}
use Rattle.mz_select.proofs.columns.push_columns.Given as goal

-- the columns so far, with those that are left, are all
abbrev pub invariant-columns : goal.invariant-columns
invariant-columns l = record {
  place : length l.seen.items ≡ length l.initial.seen.items + l.within;
  all : l.seen.items ++ columns_of (length l.initial.seen.items) l.owner l.called l.within (drop l.within l.columns)
      ≡ l.initial.seen.items ++ columns_of (length l.initial.seen.items) l.owner l.called 0 l.columns;
}
