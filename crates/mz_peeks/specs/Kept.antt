-- How a table keeps its peeks: in order of their numbers.
use Rattle.std.specs.Prelude.{◌≡◌, ℕ, ◌<◌, ◌≤◌, List, [], ◌∷◌, Option, None, Some, find, length, slice_get, take, ⊤}
use Rattle.std.specs.List.{HoldsAt, AllByRecursion as Each}
use Rattle.mz_plan.specs.declared.command.PendingPeek.{PendingPeek}
use Rattle.mz_books.specs.Holds.{is_peek}

-- each number is greater than those before it
abbrev pub IsRising : List PendingPeek → Type 0
IsRising [] = ⊤
IsRising (waiting ∷ others) = Each (λ later. waiting.peek < later.peek) others × IsRising others

-- the peeks have rising numbers, none past the last that was given
pub record AreNumbered (peeks : List PendingPeek) (made : ℕ) : Type 0 where
  pub rising : IsRising peeks
  pub within : Each (λ waiting. waiting.peek ≤ made) peeks

-- at this place stands the peek of this number, and it is the one that is found
pub record StandsAt (peek : ℕ) (peeks : List PendingPeek) (place : ℕ) : Type 0 where
  pub within : place < length peeks
  pub number : HoldsAt (λ waiting. waiting.peek ≡ peek) peeks place
  pub found : slice_get peeks place ≡ find (is_peek peek) peeks

-- where the peek of this number stands, at no place exactly where none has it
abbrev pub IsPlaceOf : ℕ → List PendingPeek → Option ℕ → Type 0
IsPlaceOf peek peeks None = find (is_peek peek) peeks ≡ None
IsPlaceOf peek peeks (Some place) = StandsAt peek peeks place

-- what holds of a table: the present peeks and those at the mark
pub record IsKept (peeks : List PendingPeek) (made mark marked_made : ℕ) : Type 0 where
  pub marked : mark ≤ length peeks
  pub numbered : AreNumbered peeks made
  pub numbered_then : AreNumbered (take mark peeks) marked_made
