-- When what a plain core keeps is that of a log.
use Rattle.std.specs.Prelude.{◌≡◌, ◌+◌, ℕ, List, [], Option, length, map, option_map}
use Rattle.mz_plan.specs.declared.command.PendingPeek.{PendingPeek}
use Rattle.mz_log.specs.Log.{Log}
use Rattle.mz_oracle.specs.Rounds.{RoundsState, all_items}
use Rattle.mz_books.specs.Calls.{calls}
use Rattle.mz_books.specs.Entries.{Queued}
use Rattle.mz_books.specs.Holds.{peeks_made, pending}
use Rattle.mz_books.specs.Legal.{Legal}
use Rattle.mz_books.specs.Owed.{owed, peek_rows}
use Rattle.mz_books.specs.Rounds.{Round, last_time, open_round, queued, read_time, rounds}
use Rattle.mz_books.specs.Sessions.{calls_made, outstanding, sessions}
use Rattle.mz_books.specs.States.{newest_state}
use Rattle.mz_script_laws.specs.Plain.{IsPlainLog}
use Rattle.mz_core.specs.declared.calls.FinishedRead.{FinishedRead}
use Rattle.mz_kept.specs.declared.session.Session.{Session}
use Rattle.mz_core.specs.declared.calls.Waiting.{Waiting}
use Rattle.mz_kept.specs.Kept.{Kept, state_of}
use Rattle.mz_kept.specs.Steps.{session_at}
use Rattle.mz_kept.specs.Within.{IsWithin}
use Rattle.mz_core.specs.Told.{command_of, reads_of}

-- ---- sessions

-- the session of this number, as a log has it
abbrev pub session_in : Log → ℕ → Session
session_in log session = record { calls = calls_made log session; outstanding = outstanding log session }

-- the sessions are those of the log, one that wasn't opened too, and so is how many calls they have made
pub record HasSessions (kept : Kept) (log : Log) : Type 0 where
  pub names : kept.names ≡ sessions log
  pub each : (place : ℕ) → session_at kept.sessions place ≡ session_in log (place + 1)
  pub calls : kept.calls ≡ length (calls log)

-- ---- rounds

-- the open round, as a log has it
abbrev pub round_in : ℕ → RoundsState Waiting → Option Round
round_in time rounds =
    option_map (λ items. record { number = rounds.begun; time = time; commands = map command_of items }) rounds.in_round

-- the times and the rounds are those of the log
pub record HasRounds (kept : Kept) (log : Log) : Type 0 where
  pub read : kept.oracle.read ≡ read_time log
  pub last : kept.oracle.last ≡ last_time log
  pub begun : kept.rounds.begun ≡ rounds log
  pub open_round : round_in kept.oracle.last kept.rounds ≡ open_round log
  pub queued : map command_of (all_items kept.rounds) ≡ queued log

-- ---- reads

-- the reads that wait are those of the log, each with its rows
pub record HasReads (kept : Kept) (log : Log) : Type 0 where
  pub reads : kept.reads ≡ reads_of log
  pub peeks : kept.peeks ≡ peeks_made log

-- ---- all of it

-- what is kept is that of a log, which is legal, at the end of an event, and has only what a plain core makes
pub record StandsFor (kept : Kept) (log : Log) : Type 0 where
  pub legal : Legal log
  pub whole : owed log ≡ []
  pub plain : IsPlainLog log
  pub sessions : HasSessions kept log
  pub rounds : HasRounds kept log
  pub state : state_of kept ≡ newest_state log
  pub reads : HasReads kept log
  pub within : IsWithin kept
