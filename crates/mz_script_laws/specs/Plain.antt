-- Plain logs: those of scripts that leave replicas, clusters, holds and sessions as they are.
use Rattle.std.specs.Prelude.{◌≡◌, ℕ, ◌+◌, List, [], ◌∷◌, None, Ok, length, nat_le, ⊤}
use Rattle.mz_grammar.specs.declared.asked.Asked.{Asked}
use Rattle.mz_grammar.specs.declared.asked.Asked.TheVariants as asks
use Rattle.mz_statement.specs.Kind.{kind_of}
use Rattle.mz_statement.specs.declared.statement.Kind.{Kind}
use Rattle.mz_statement.specs.declared.statement.Kind.TheVariants as kind
use Rattle.mz_statement.specs.declared.statement.Statement.{Statement}
use Rattle.mz_plan.specs.declared.plan.Plan.{Plan}
use Rattle.mz_refusal.specs.declared.refusal.Limited.TheVariants.{Calls}
use Rattle.mz_refusal.specs.declared.refusal.Refusal.TheVariants as refusal
use Rattle.mz_resolution.specs.Steps.{Step, ◌>>=◌}
use Rattle.mz_log.specs.declared.entry.Entry.{Entry}
use Rattle.mz_log.specs.declared.entry.Entry.TheVariants.{Opened, Queue, Begin, Apply, Read, Finish, Refused, Fed, Absorbed}
use Rattle.mz_log.specs.Log.{Log}
use Rattle.mz_books.specs.Answer.{accepted_text, as_of, busy, call_entry, form_of, most_calls, refused_if, target}
use Rattle.mz_books.specs.Calls.{calls}
use Rattle.mz_books.specs.Collections.{collections}
use Rattle.mz_books.specs.Holds.{peeks_made}
use Rattle.mz_books.specs.Rounds.{read_time}
use Rattle.mz_books.specs.Sessions.{calls_made, outstanding}
use Rattle.mz_books.specs.Situation.{situation}
use Rattle.mz_books.specs.States.{query_plan, scope_of}

-- a session is opened, a command is queued or refused, a round begins or is applied, a query that names no time is read, and a replica
-- is fed or answers
abbrev pub IsPlain : Entry → Type 0
IsPlain (Opened name) = ⊤
IsPlain (Queue session call statement) = ⊤
IsPlain (Begin number time) = ⊤
IsPlain (Apply time replies) = ⊤
IsPlain (Read session call peek time statement collection) = as_of statement ≡ None
IsPlain (Finish peek rows) = ⊤
IsPlain (Refused session call text refusal) = ⊤
IsPlain (Fed replica incarnation taken to) = ⊤
IsPlain (Absorbed replica incarnation turn taken ready frontiers) = ⊤
IsPlain entry = ⊥

-- each entry is plain
abbrev pub IsPlainLog : Log → Type 0
IsPlainLog [] = ⊤
IsPlainLog (entry ∷ log) = IsPlain entry × IsPlainLog log

-- a command or a query
abbrev pub IsPlainKind : Kind → Type 0
IsPlainKind kind.Command = ⊤
IsPlainKind kind.Query = ⊤
IsPlainKind other = ⊥

-- what is asked for is plain: a command, a query that names no time, or nothing, where a text is no statement
abbrev pub IsPlainAsked : Asked → Type 0
IsPlainAsked (asks.Statement statement) = IsPlainKind (kind_of statement) × (as_of statement ≡ None)
IsPlainAsked (asks.Syntax at) = ⊤
IsPlainAsked (asks.LiteralRange at) = ⊤

-- the read of a query with this plan, at the read time
abbrev pub read_entry : Log → ℕ → Statement → Plan → Entry
read_entry log session statement plan =
    Read session (calls_made log session + 1) (peeks_made log + 1) (read_time log) statement (target plan (collections log))

-- what a plain log answers to a query that names no time: its read at the read time, or why it doesn't resolve
abbrev pub plain_read : Log → ℕ → Statement → Step Entry
plain_read log session statement = do
  plan ← query_plan (scope_of log session) statement
  Ok (read_entry log session statement plan)

-- what a plain log answers to a text that asks for this: the entry of its call, or that the session waits, or that there are as many
-- calls as there may be
abbrev pub plain_answer : Log → ℕ → List ℕ → Asked → Step Entry
plain_answer log session text asked = do
  _ ← busy (outstanding log session)
  _ ← refused_if (nat_le most_calls (length (calls log))) (refusal.TooMany Calls most_calls)
  Ok (call_entry session (calls_made log session + 1) (form_of text asked) (accepted_text (situation log session) session asked))
