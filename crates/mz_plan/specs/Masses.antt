-- How much the leaves of plans weigh at most.
use Rattle.std.specs.Prelude.{ℕ, ◌^◌, ◌≤◌}
use Rattle.mz_bag.specs.Mass.{mass}
use Rattle.mz_plan.specs.Meaning.{Leaves}

-- the rows of each item weigh at most so much
pub record AreWithin (most : ℕ) (leaves : Leaves) : Type 0 where
  pub within : (item : ℕ) → mass (leaves item) ≤ most

-- the rows of each item weigh at most so much to the power of the tables that it reads, which are one at least
pub record AreWithinPowers (most : ℕ) (reads : ℕ → ℕ) (leaves : Leaves) : Type 0 where
  pub some : (item : ℕ) → 1 ≤ reads item
  pub within : (item : ℕ) → mass (leaves item) ≤ most ^ reads item
