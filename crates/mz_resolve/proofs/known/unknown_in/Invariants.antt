use Rattle.std.proofs.Common.{◌≡◌, drop}
use Rattle.mz_resolve.specs.Unknown.{unknown_in}
use Rattle.mz_resolve.proofs.known.unknown_in.Given as goal

-- the selects that are left decide
abbrev pub invariant-selects : goal.invariant-selects
invariant-selects l =
    unknown_in l.known.entries l.catalog l.below (drop l.select-index l.selects) ≡ unknown_in l.known.entries l.catalog l.below l.selects
