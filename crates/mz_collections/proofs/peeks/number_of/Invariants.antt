use Rattle.std.proofs.Common.{◌≡◌, drop}
use Rattle.mz_collections.specs.Kept.{number_on}
use Rattle.mz_collections.proofs.peeks.number_of.Given as goal

abbrev pub invariant-live : goal.invariant-live
invariant-live l = number_on l.collection l.t (drop l.hold-index l.live) ≡ number_on l.collection l.t l.live
