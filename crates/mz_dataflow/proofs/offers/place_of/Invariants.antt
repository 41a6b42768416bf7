use Rattle.std.proofs.Common.{◌≡◌, ◌+◌, drop}
use Rattle.mz_dataflow.specs.Queues.{place_of}
use Rattle.mz_dataflow.proofs.offers.place_of.Given as goal

-- the lists before the place are of other leaves
abbrev pub invariant-lists : goal.invariant-lists
invariant-lists l = l.place + place_of l.leaf (drop l.place l.offered) ≡ place_of l.leaf l.offered
