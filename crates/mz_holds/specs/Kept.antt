-- How a table keeps its holds: in order of their numbers, and for each collection the times of its holds.
use Rattle.std.specs.Prelude.{◌≡◌, ℕ, ◌<◌, ◌≤◌, ◌==◌, List, [], ◌∷◌, Option, None, Some, slice_get, take, length, if◌then◌else◌, ⊤}
use Rattle.std.specs.List.{AllByRecursion as Each}
use Rattle.mz_counted.specs.Counted.{CountedTimes, in_order}
use Rattle.mz_rules.specs.declared.capability.Hold.{Hold}
use Rattle.mz_holds.specs.HoldBook.{times_on}

-- each number is greater than those before it
abbrev pub IsRising : List Hold → Type 0
IsRising [] = ⊤
IsRising (hold ∷ holds) = Each (λ later. hold.number < later.number) holds × IsRising holds

-- the times of what stands at a place, none where nothing does
abbrev pub times_found : Option CountedTimes → List ℕ
times_found None = []
times_found (Some counted) = counted.times

-- the times that are counted for a collection
abbrev pub times_at : ℕ → List CountedTimes → List ℕ
times_at collection counted = times_found (slice_get counted collection)

-- the room of what stands at a place
abbrev pub spare_found : Option CountedTimes → ℕ
spare_found None = 0
spare_found (Some counted) = counted.spare

-- the room for more times of a collection
abbrev pub spare_at : ℕ → List CountedTimes → ℕ
spare_at collection counted = spare_found (slice_get counted collection)

-- the times of one collection changed by a function, and those of any other as before
abbrev pub changed_at : ℕ → (List ℕ → List ℕ) → ℕ → List ℕ → List ℕ
changed_at collection change other times = if other == collection then change times else times

-- the counted times are those of the holds
pub record AreCounted (holds : List Hold) (counted : List CountedTimes) : Type 0 where
  pub each : (collection : ℕ) → times_at collection counted ≡ in_order (times_on collection holds)

-- the holds have rising numbers, none past the last that was given
pub record AreNumbered (holds : List Hold) (taken : ℕ) : Type 0 where
  pub rising : IsRising holds
  pub within : Each (λ hold. hold.number ≤ taken) holds

-- what holds of a table: the present holds and those at the mark
pub record IsKept (live : List Hold) (taken mark marked_taken : ℕ) (places : List CountedTimes) : Type 0 where
  pub marked : mark ≤ length live
  pub numbered : AreNumbered live taken
  pub numbered_then : AreNumbered (take mark live) marked_taken
  pub counted : AreCounted live places
