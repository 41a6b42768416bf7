-- The order of frontiers: by their times, and `Done` last.
use Rattle.std.specs.Prelude.{ℕ, ◌-◌, ◌<◌, ◌≤◌, min, max, List, [], ◌∷◌, ⊤}
use Rattle.mz_time.specs.declared.frontier.Frontier.{Frontier}
use Rattle.mz_time.specs.declared.frontier.Frontier.TheVariants.{At, Done}

-- the first frontier is at or before the second
abbrev pub Le : Frontier → Frontier → Type 0
Le (At t) (At u) = t ≤ u
Le (At t) Done = ⊤
Le Done (At u) = ⊥
Le Done Done = ⊤

-- the frontier is after the time
abbrev pub Passes : Frontier → ℕ → Type 0
Passes (At u) t = t < u
Passes Done t = ⊤

-- the lesser of two frontiers
abbrev pub meet : Frontier → Frontier → Frontier
meet (At t) (At u) = At (min t u)
meet (At t) Done = At t
meet Done g = g

-- the greater of two frontiers
abbrev pub join : Frontier → Frontier → Frontier
join (At t) (At u) = At (max t u)
join (At t) Done = Done
join Done g = Done

-- the least of the frontiers, or `Done` where there is none
abbrev pub least : List Frontier → Frontier
least [] = Done
least (f ∷ fs) = meet f (least fs)

-- the frontier n times before, but not before the first time
abbrev pub step_back : Frontier → ℕ → Frontier
step_back (At u) n = At (u - n)
step_back Done n = Done
