-- How an arrangement keeps its rows: those at a time up to the since, in order, and later updates behind them.
use Rattle.std.specs.Prelude.{◌≡◌, ℕ, List, ◌++◌, filter}
use Rattle.mz_value.specs.declared.datum.Datum.{Datum}
use Rattle.mz_bag.specs.Weighted.{Weighted, count}
use Rattle.mz_updates.specs.declared.update.Update.{Update}
use Rattle.mz_updates.specs.Contents.{stamped, FitsFrom, IsBefore}
use Rattle.mz_arrange.specs.Arranged.{Arranged, begins_with}

-- rows with their counts as updates at the first time, and updates behind them
abbrev pub behind : Weighted → List Update → List Update
behind rows later = stamped 0 rows ++ later

-- what holds of each arrangement that is kept: no update is at or after the upper, and each row is there within the bound from
-- the since on
pub record IsKept (rows : Weighted) (later : List Update) (since upper : ℕ) : Type 0 where
  pub before : IsBefore upper later
  pub fits : FitsFrom since (behind rows later)

-- an arrangement of these updates
abbrev pub arranged : List Update → ℕ → ℕ → Arranged
arranged us since upper = record { updates = us; since = since; upper = upper }

-- the updates whose row begins with the values of a key
abbrev pub found : List Datum → List Update → List Update
found key us = filter (λ u. begins_with key u.row) us

-- each row stands in both lists as often
pub record SameRows (vs ws : Weighted) : Type 0 where
  pub counts : (row : List Datum) → count row vs ≡ count row ws
