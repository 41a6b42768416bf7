-- Updates in order of time, taken one time after another.
use Rattle.std.specs.Prelude.{◌≡◌, ℕ, ◌==◌, nat_le, Bool, false, if◌then◌else◌}
use Rattle.std.specs.Prelude.{List, [], ◌∷◌, ◌++◌, Option, Some, None}
use Rattle.mz_bag.specs.Weighted.{Weighted}
use Rattle.mz_updates.specs.declared.update.Update.{Update}
use Rattle.mz_updates.specs.Contents.{stamped}

-- the lesser of two times
abbrev pub lesser : ℕ → ℕ → ℕ
lesser first second = if nat_le first second then first else second

-- the first time of two lists in order of time
abbrev pub first_time : List Update → List Update → Option ℕ
first_time [] [] = None
first_time [] (v ∷ vs) = Some v.time
first_time (u ∷ us) [] = Some u.time
first_time (u ∷ us) (v ∷ vs) = Some (lesser u.time v.time)

-- the first update is at a time
abbrev pub begins_at : ℕ → List Update → Bool
begins_at time [] = false
begins_at time (u ∷ us) = u.time == time

-- rows were taken from the front, which are at a time, and what is left doesn't begin at it
pub record IsRun (time : ℕ) (before : List Update) (rows : Weighted)
    (after : List Update) : Type 0 where
  pub whole : stamped time rows ++ after ≡ before
  pub ended : begins_at time after ≡ false
