-- Times that are counted: a sorted list, in which each stands as often as it went in and didn't come out.
use Rattle.std.specs.Prelude.{ℕ, ◌+◌, ◌==◌, ◌≤◌, nat_le, List, [], ◌∷◌, map, if◌then◌else◌, ⊤}
use Rattle.std.specs.List.{AllByRecursion as Each}
use Rattle.mz_time.specs.declared.frontier.Frontier.{Frontier}
use Rattle.mz_time.specs.declared.frontier.Frontier.TheVariants.{At}
use Rattle.mz_time.specs.Frontier.{least}

-- the times, the least at the end, and for how many more there is room
pub record CountedTimes : Type 0 where
  pub times : List ℕ
  pub spare : ℕ

-- no time is before one behind it
abbrev pub IsFalling : List ℕ → Type 0
IsFalling [] = ⊤
IsFalling (t ∷ ts) = Each (λ u. u ≤ t) ts × IsFalling ts

-- how often a time is there
abbrev pub count : ℕ → List ℕ → ℕ
count t [] = 0
count t (u ∷ us) = if u == t then count t us + 1 else count t us

-- with a time more, before the first that isn't after it
abbrev pub inserted : ℕ → List ℕ → List ℕ
inserted t [] = t ∷ []
inserted t (u ∷ us) = if nat_le u t then t ∷ u ∷ us else u ∷ inserted t us

-- without one that is equal to a time
abbrev pub removed : ℕ → List ℕ → List ℕ
removed t [] = []
removed t (u ∷ us) = if u == t then us else u ∷ removed t us

-- the times of a list in order
abbrev pub in_order : List ℕ → List ℕ
in_order [] = []
in_order (t ∷ ts) = inserted t (in_order ts)

-- the least of the times, or `Done` where there is none
abbrev pub least_of : List ℕ → Frontier
least_of ts = least (map (λ t. At t) ts)
