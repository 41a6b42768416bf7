use Rattle.std.proofs.Common.{◌≡◌, None, take}
use Rattle.mz_resolve.specs.Known.{IsTrueOf, Keeps}
use Rattle.mz_resolve.specs.Unknown.{unknown_in}
use Rattle.mz_resolve.proofs.reached.reach_all.Given as goal

-- what the selects so far name is known
abbrev pub invariant-selects : goal.invariant-selects
invariant-selects l = record {
  holds : IsTrueOf l.catalog l.cluster l.known.entries;
  keeps : Keeps l.initial.known.entries l.known.entries;
  reached : unknown_in l.known.entries l.catalog l.below (take l.select-index l.selects) ≡ None;
}
