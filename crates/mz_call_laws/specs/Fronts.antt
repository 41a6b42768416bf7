-- What an open round has of the commands that wait, and what its time is.
use Rattle.std.specs.Prelude.{◌≡◌, ℕ, ◌<◌, ◌≤◌, List, ◌++◌, Option, None, Some}
use Rattle.mz_books.specs.Entries.{Queued}
use Rattle.mz_books.specs.Rounds.{Round}

-- the first list begins the second
pub record IsFront (front all : List Queued) : Type 0 where
  pub behind : List Queued
  pub is : all ≡ front ++ behind

-- the commands of the open round, if there is one, are the first of these
abbrev pub IsFrontOf : Option Round → List Queued → Type 0
IsFrontOf None commands = Unit {0}
IsFrontOf (Some round) commands = IsFront round.commands commands

-- the open round's time, if there is one, is after the read time and no later than the last one
abbrev pub IsAhead : ℕ → ℕ → Option Round → Type 0
IsAhead read last None = Unit {0}
IsAhead read last (Some round) = (read < round.time) × (round.time ≤ last)
