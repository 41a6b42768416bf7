-- Tests of frontiers, and how far a frontier may be.
use Rattle.std.specs.Prelude.{ℕ, ◌≤◌, Bool, true, false, nat_le, ⊤}
use Rattle.mz_time.specs.declared.frontier.Frontier.{Frontier}
use Rattle.mz_time.specs.declared.frontier.Frontier.TheVariants.{At, Done}

-- the first frontier is at or before the second
abbrev pub is_le : Frontier → Frontier → Bool
is_le (At t) (At u) = nat_le t u
is_le (At t) Done = true
is_le Done (At u) = false
is_le Done Done = true

-- the frontier is a time
abbrev pub is_at : Frontier → Bool
is_at (At t) = true
is_at Done = false

-- the frontier is no time after this one
abbrev pub IsWithin : ℕ → Frontier → Type 0
IsWithin bound (At t) = t ≤ bound
IsWithin bound Done = ⊤
