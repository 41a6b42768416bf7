use Rattle.std.proofs.Common.{◌≡◌, None, take}
use Rattle.mz_resolve.specs.Known.{IsTrueOf, Keeps}
use Rattle.mz_resolve.proofs.UnknownLemmas.{unknown_joined}
use Rattle.mz_resolve.proofs.reached.reach_joined.Given as goal

-- what the JOINs so far name is known
abbrev pub invariant-joins : goal.invariant-joins
invariant-joins l = record {
  holds : IsTrueOf l.catalog l.cluster l.known.entries;
  keeps : Keeps l.initial.known.entries l.known.entries;
  reached : unknown_joined l.known.entries l.catalog l.below (take l.join-index l.joins) ≡ None;
}
