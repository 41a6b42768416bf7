-- Turns: a replica is fed, and its packet answers each pending peek.
use Rattle.std.specs.Prelude.{◌≡◌, ℕ, List, ◌∷◌, map}
use Rattle.mz_log.specs.declared.entry.Entry.TheVariants.{Finish, Fed, Absorbed}
use Rattle.mz_log.specs.Log.{Log}
use Rattle.mz_books.specs.Holds.{pending}
use Rattle.mz_books.specs.Legal.{Legal}
use Rattle.mz_books.specs.Owed.{called_for, event, peek_rows}

-- the later log is the log after a turn: a feed for some incarnation of a replica, and its packet, which finishes all pending peeks in
-- order, each with the rows that it waits for
pub record IsTurn (log later : Log) : Type 0 where
  pub replica : List ℕ
  pub incarnation : ℕ
  pub turn : ℕ
  pub fed : ℕ
  pub to : ℕ
  pub taken : ℕ
  pub ready : ℕ
  pub frontiers : List (ℕ × ℕ)
  pub is : later ≡ event (Fed replica incarnation fed to ∷ log) (Absorbed replica incarnation turn taken ready frontiers)
  pub finishes_all :
      called_for (Fed replica incarnation fed to ∷ log) (Absorbed replica incarnation turn taken ready frontiers)
      ≡ map (λ peek. Finish peek.peek (peek_rows log peek)) (pending log)
  pub legal : Legal later
