-- Entries one after another, and the calls that entries speak of.
use Rattle.std.specs.Prelude.{ℕ, ◌==◌, ◌&&◌, List, [], ◌∷◌, Bool}
use Rattle.mz_statement.specs.declared.statement.Statement.{Statement}
use Rattle.mz_log.specs.declared.entry.Entry.{Entry}
use Rattle.mz_log.specs.declared.entry.Replied.{Replied}
use Rattle.mz_log.specs.Log.{Log}

-- the log with these entries more, the first of them first
abbrev pub after : List Entry → Log → Log
after [] log = log
after (entry ∷ entries) log = after entries (entry ∷ log)

-- a command that waits for a round: the number of its session, of its call in that session, and what it asks for
pub record Queued : Type 0 where
  pub session : ℕ
  pub call : ℕ
  pub statement : Statement

-- the command is that call of that session
abbrev pub is_queued_as : ℕ → ℕ → Queued → Bool
is_queued_as session call command = (command.session == session) && (command.call == call)

-- this is the reply to that call of that session
abbrev pub is_reply_to : ℕ → ℕ → Replied → Bool
is_reply_to session call replied = (replied.session == session) && (replied.call == call)
