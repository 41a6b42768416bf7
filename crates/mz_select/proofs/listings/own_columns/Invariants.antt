use Rattle.std.proofs.Common.{◌≡◌, ◌++◌, map, drop}
use Rattle.mz_resolution.specs.Listings.{own_column}
use Rattle.mz_select.proofs.listings.own_columns.Given as goal

-- the columns so far, with those that are left
abbrev pub invariant-columns : goal.invariant-columns
invariant-columns l = l.own.items ++ map own_column (drop l.seen-index l.columns) ≡ map own_column l.columns
