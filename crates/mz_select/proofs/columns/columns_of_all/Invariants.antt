use Rattle.std.proofs.Common.{◌≡◌, ◌++◌, drop, length}
use Rattle.mz_resolution.specs.Columns.{columns_from}
use Rattle.mz_select.proofs.columns.columns_of_all.Given as goal

-- the columns so far, with those of the references that are left, are all
abbrev pub invariant-references : goal.invariant-references
invariant-references l =
    l.seen.items ++ columns_from (length l.seen.items) l.owner (drop l.owner l.references) ≡ columns_from 0 0 l.references
