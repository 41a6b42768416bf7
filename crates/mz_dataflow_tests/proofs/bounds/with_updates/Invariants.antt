use Rattle.std.proofs.Common.{◌≡◌, ◌≤◌, ◌+◌, drop}
use Rattle.mz_bag.specs.Mass.{mass}
use Rattle.mz_plan.specs.Small.{most_rows}
use Rattle.mz_updates.specs.Contents.{weights}
use Rattle.mz_dataflow_tests.proofs.bounds.with_updates.Given as goal

-- the sum so far, with the mass of the updates that are left, is all, and it is small
abbrev pub invariant-updates : goal.invariant-updates
invariant-updates l =
    (l.sum + mass (weights (drop l.update-index l.updates)) ≡ l.first + mass (weights l.updates))
    × (l.sum ≤ most_rows)
