-- Lists of updates, and what they contain at a time.
use Rattle.std.specs.Prelude.{◌≡◌, ℕ, ℤ, ◌<◌, ◌≤◌, ◌==◌, ◌&&◌, nat_le, nat_lt, List, map, filter, FitsSigned, if◌then◌else◌}
use Rattle.std.specs.Int.{w128}
use Rattle.std.specs.List.{AllByRecursion as Each}
use Rattle.mz_value.specs.declared.datum.Datum.{Datum}
use Rattle.mz_bag.specs.Bag.{Fits}
use Rattle.mz_bag.specs.Mass.{IsLight}
use Rattle.mz_bag.specs.Weighted.{Weighted, count}
use Rattle.mz_updates.specs.declared.update.Update.{Update}

-- ---- what is there at a time

-- the rows of updates, each with its diff as its weight
abbrev pub weights : List Update → Weighted
weights us = map (λ u. (u.row, u.diff)) us

-- the updates that are not after a time
abbrev pub up_to : ℕ → List Update → List Update
up_to t us = filter (λ u. nat_le u.time t) us

-- the contents at a time: a row is there as often as its diffs at times not after it add up to
abbrev pub contents : ℕ → List Update → Weighted
contents t us = weights (up_to t us)

-- the updates at a time
abbrev pub at : ℕ → List Update → List Update
at t us = filter (λ u. u.time == t) us

-- what changes at a time
abbrev pub changes : ℕ → List Update → Weighted
changes t us = weights (at t us)

-- the updates at times from the first and below the second
abbrev pub between : ℕ → ℕ → List Update → List Update
between lower upper us = filter (λ u. nat_le lower u.time && nat_lt u.time upper) us

-- a row with its diff, at a time
abbrev pub stamp : ℕ → List Datum × ℤ → Update
stamp t w = record { row = w.0; time = t; diff = w.1 }

-- each row of a list with its weight as its diff, at a time
abbrev pub stamped : ℕ → Weighted → List Update
stamped t ws = map (stamp t) ws

-- two lists contain the same at each time
pub record SameContents (us vs : List Update) : Type 0 where
  pub counts : (t : ℕ) (row : List Datum) → count row (contents t us) ≡ count row (contents t vs)

-- and two that contain the same at each time from this one on
pub record SameFrom (since : ℕ) (us vs : List Update) : Type 0 where
  pub counts : (t : ℕ) (row : List Datum) → since ≤ t → count row (contents t us) ≡ count row (contents t vs)

-- no update is at or after a time
pub record IsBefore (upper : ℕ) (us : List Update) : Type 0 where
  pub each : Each (λ u. u.time < upper) us

-- no update is before a time
pub record IsFrom (lower : ℕ) (us : List Update) : Type 0 where
  pub each : Each (λ u. lower ≤ u.time) us

-- ---- compaction

-- the later of two times
abbrev pub later : ℕ → ℕ → ℕ
later time since = if nat_le time since then since else time

-- an update, moved up to a time that it is before
abbrev pub moved_up : ℕ → Update → Update
moved_up since u = record { row = u.row; time = later u.time since; diff = u.diff }

-- each update before a time moved up to it
abbrev pub compacted : ℕ → List Update → List Update
compacted since us = map (moved_up since) us

-- ---- bounds

-- each row is there at a time within the bound on counts
pub record FitsAt (t : ℕ) (us : List Update) : Type 0 where
  pub fits : (row : List Datum) → Fits (count row (contents t us))

-- and at each time from this one on
pub record FitsFrom (since : ℕ) (us : List Update) : Type 0 where
  pub fits : (t : ℕ) (row : List Datum) → since ≤ t → Fits (count row (contents t us))

-- the contents at each time from this one on are light
pub record IsLightFrom (since : ℕ) (us : List Update) : Type 0 where
  pub light : (t : ℕ) → since ≤ t → IsLight (contents t us)

-- what a row changes by at one time, all its diffs there together, is an i128
pub record HasSums (us : List Update) : Type 0 where
  pub fits : (t : ℕ) (row : List Datum) → FitsSigned w128 (count row (changes t us))
