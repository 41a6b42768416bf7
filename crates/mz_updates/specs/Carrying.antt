-- How the code adds up neighbours of one row and time: it carries each diff to the next of them.
use Rattle.std.specs.Prelude.{ℕ, zero, suc, pos, ◌+ℤ◌, Bool, not, List, [], ◌∷◌, ◌++◌, take, drop, filter, FitsSigned, if◌then◌else◌}
use Rattle.std.specs.Int.{w128, int_wrap}
use Rattle.std.specs.List.{AllByRecursion as Each}
use Rattle.std.specs.Ordering.{int_eq, is_eq}
use Rattle.mz_updates.specs.declared.update.Update.{Update}
use Rattle.mz_updates.specs.Consolidated.{update_cmp}

-- two updates are of one row and time
abbrev pub is_twin : Update → Update → Bool
is_twin u v = is_eq (update_cmp u v)

-- an update whose diff was carried on
abbrev pub emptied : Update → Update
emptied u = record { row = u.row; time = u.time; diff = pos 0 }

-- the second, with the diff of the first added. What it wraps on the way is made good where the sum of all fits
abbrev pub joined : Update → Update → Update
joined u v = record { row = v.row; time = v.time; diff = int_wrap w128 (v.diff +ℤ u.diff) }

-- the list from one update on, each diff carried to the last of its row and time
abbrev pub carried_on : Update → List Update → List Update
carried_on u [] = u ∷ []
carried_on u (v ∷ us) = if is_twin u v then emptied u ∷ carried_on (joined u v) us else u ∷ carried_on v us

-- and of a whole list
abbrev pub carried : List Update → List Update
carried [] = []
carried (u ∷ us) = carried_on u us

-- the list with the diff at one place carried to the next
abbrev pub carried_at : ℕ → List Update → List Update
carried_at zero (u ∷ v ∷ us) = if is_twin u v then emptied u ∷ joined u v ∷ us else u ∷ v ∷ us
carried_at (suc n) (u ∷ us) = u ∷ carried_at n us
carried_at n us = us

-- the list with all carried from a place on
abbrev pub carried_from : ℕ → List Update → List Update
carried_from n us = take n us ++ carried (drop n us)

-- the updates whose diff isn't 0
abbrev pub with_change : List Update → List Update
with_change us = filter (λ u. not (int_eq u.diff (pos 0))) us

-- each diff is an i128
pub record AreInRange (us : List Update) : Type 0 where
  pub each : Each (λ u. FitsSigned w128 u.diff) us
