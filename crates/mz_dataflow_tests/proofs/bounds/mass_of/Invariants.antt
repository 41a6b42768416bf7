use Rattle.std.proofs.Common.{◌≡◌, ◌≤◌, ◌+◌, drop}
use Rattle.mz_plan.specs.Small.{most_rows}
use Rattle.mz_dataflow_tests.specs.Told.{total}
use Rattle.mz_dataflow_tests.proofs.bounds.mass_of.Given as goal

-- the sum so far, with the mass of what is left, is all, and it is small
abbrev pub invariant-given : goal.invariant-given
invariant-given l = (l.sum + total (drop l.one-index l.given) ≡ total l.given) × (l.sum ≤ most_rows)
