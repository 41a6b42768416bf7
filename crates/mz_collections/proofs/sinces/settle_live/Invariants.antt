use Rattle.std.proofs.Common.{◌≡◌, ◌++◌, length, map}
use Rattle.mz_rules.specs.Capabilities.{of_hold}
use Rattle.mz_collections.specs.Pass.{IsHalfway}
use Rattle.mz_collections.proofs.sinces.settle_live.Given as goal

abbrev pub invariant-down : goal.invariant-down
invariant-down l = record {
  halfway : IsHalfway (map of_hold l.holds.present.live ++ map of_hold l.peeks.present.live) l.initial.all.items l.all.items l.over.items l.live.items l.place;
  as_many : length l.over.items ≡ length l.initial.over.items;
}

abbrev pub decreases-down : goal.decreases-down
decreases-down l = l.place
