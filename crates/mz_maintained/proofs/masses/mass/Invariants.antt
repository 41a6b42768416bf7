use Rattle.std.proofs.Common.{◌≡◌, ◌≤◌, ◌+◌, ◌^◌, drop}
use Rattle.mz_bag.specs.Mass.{mass}
use Rattle.mz_updates.specs.Contents.{weights}
use Rattle.mz_maintained.proofs.masses.mass.Given as goal

-- the mass so far, with that of the updates that are left, is all, and it is small
abbrev pub invariant-updates : goal.invariant-updates
invariant-updates l =
    (l.total + mass (weights (drop l.update-index l.updates)) ≡ mass (weights l.updates))
    × (l.total ≤ 2 ^ 40)
