-- What holds of all that is kept, whatever log it is of: numbers stay in range, and those of sessions are of sessions.
use Rattle.std.specs.Prelude.{◌≡◌, ◌<◌, ◌≤◌, ℕ, true, length}
use Rattle.std.specs.List.{AllByRecursion as Each}
use Rattle.mz_plan.specs.Indexes.{descend}
use Rattle.mz_log.specs.Sequential.{Sequential}
use Rattle.mz_oracle.specs.Rounds.{all_items}
use Rattle.mz_books.specs.Answer.{most_calls}
use Rattle.mz_kept.specs.Kept.{Kept, state_of}
use Rattle.mz_kept.specs.Steps.{session_at}
use Rattle.mz_core.specs.Told.{IsNumberOf}

-- the plans of indexes are in order: the newest stands first, and each has a number that was given
pub record IsOrdered (state : Sequential) : Type 0 where
  pub descends : descend state.plans ≡ true
  pub below : Each (λ index. index.0 < state.database.next) state.plans

-- each name has its session; commands and reads are of sessions; there are no more rounds than times, and no more peeks and no more
-- calls of a session than calls, of which there are no more than there may be; and plans are in order
pub record IsWithin (kept : Kept) : Type 0 where
  pub paired : length kept.sessions ≡ length kept.names
  pub commands : Each (λ waiting. IsNumberOf (length kept.names) waiting.session) (all_items kept.rounds)
  pub reads : Each (λ read. IsNumberOf (length kept.names) read.session) kept.reads
  pub rounds : kept.rounds.begun ≤ kept.oracle.last
  pub peeks : kept.peeks ≤ kept.calls
  pub each : (place : ℕ) → (session_at kept.sessions place).calls ≤ kept.calls
  pub calls : kept.calls ≤ most_calls
  pub plans : IsOrdered (state_of kept)
