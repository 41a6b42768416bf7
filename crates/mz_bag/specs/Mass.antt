-- What light lists are: the bound on counts and on their sums.
use Rattle.std.specs.Prelude.{ℕ, nat_abs, ◌+◌, ◌≤◌, [], ◌∷◌}
use Rattle.mz_bag.specs.Bag.{most_count}
use Rattle.mz_bag.specs.Weighted.{Weighted}

-- the sum of the weights without their signs
abbrev pub mass : Weighted → ℕ
mass [] = 0
mass (w ∷ ws) = nat_abs w.1 + mass ws

-- a list is light where this is at most the greatest count: any sum of some of its weights then fits, as a count does
pub record IsLight (ws : Weighted) : Type 0 where
  pub within : mass ws ≤ most_count
