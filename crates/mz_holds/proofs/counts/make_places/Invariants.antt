use Rattle.std.proofs.Common.{◌≡◌, ◌+◌, ◌-◌, ℕ, length}
use Rattle.mz_holds.specs.Kept.{times_at}
use Rattle.mz_holds.proofs.counts.make_places.Given as goal

abbrev pub invariant-places : goal.invariant-places
invariant-places l = record { same : (c : ℕ) → times_at c l.counted.items ≡ times_at c l.initial.counted.items }

abbrev pub decreases-places : goal.decreases-places
decreases-places l = l.collection + 1 - length l.counted.items
