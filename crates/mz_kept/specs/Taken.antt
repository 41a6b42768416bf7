-- What becomes of a call that a session may make.
use Rattle.std.specs.Prelude.{◌≡◌, ℕ, ◌+◌, Ok, Err, false}
use Rattle.std.specs.FinMap.{entries}
use Rattle.mz_bag.specs.Weighted.{Weighted, bag_of}
use Rattle.mz_statement.specs.Kind.{kind_of}
use Rattle.mz_statement.specs.declared.statement.Kind.{Kind}
use Rattle.mz_statement.specs.declared.statement.Kind.TheVariants as kind
use Rattle.mz_statement.specs.declared.statement.Statement.{Statement}
use Rattle.mz_grammar.specs.declared.asked.Asked.{Asked}
use Rattle.mz_grammar.specs.declared.asked.Asked.TheVariants as asks
use Rattle.mz_plan.specs.declared.plan.Plan.{Plan}
use Rattle.mz_refusal.specs.declared.refusal.Refusal.{Refusal}
use Rattle.mz_refusal.specs.declared.refusal.Refusal.TheVariants as refusal
use Rattle.mz_resolution.specs.Steps.{Step}
use Rattle.mz_log.specs.CarriedOut.{rows_of}
use Rattle.mz_books.specs.States.{query_plan}
use Rattle.mz_core.specs.declared.calls.FinishedRead.{FinishedRead}
use Rattle.mz_core.specs.declared.calls.Submitted.{Submitted}
use Rattle.mz_core.specs.declared.calls.Submitted.TheVariants as submitted
use Rattle.mz_core.specs.declared.calls.Waiting.{Waiting}
use Rattle.mz_kept.specs.Kept.{Kept, state_of}
use Rattle.mz_kept.specs.Steps.{calling, next_call, queueing, reading}

-- the command that waits for the next call of a session
abbrev pub waiting_of : Kept → ℕ → Statement → Waiting
waiting_of kept session statement = record { session = session; call = next_call kept session; statement = statement }

-- the read for the next call of a session, with these rows
abbrev pub read_at : Kept → ℕ → Weighted → FinishedRead
read_at kept session rows = record {
  peek = kept.peeks + 1;
  session = session;
  call = next_call kept session;
  time = kept.oracle.read;
  rows = rows;
}

-- and with the rows of a plan over the tables of now
abbrev pub read_with : Kept → ℕ → Plan → FinishedRead
read_with kept session plan = read_at kept session (entries (bag_of (rows_of (state_of kept) plan)))

-- a call is answered so, and this is kept after it
pub record Made (answer answered : Submitted) (now after : Kept) : Type 0 where
  pub told : answered ≡ answer
  pub kept : after ≡ now

-- a call is refused
abbrev pub IsRefused : Kept → Kept → ℕ → Refusal → Submitted → Type 0
IsRefused before after session why told =
    Made (submitted.Refused (next_call before session) why) told (calling false session before) after

-- a read waits with these rows
abbrev pub IsWaiting : Kept → Kept → ℕ → Weighted → Submitted → Type 0
IsWaiting before after session rows told =
    Made (submitted.Reading (next_call before session) before.oracle.read (before.peeks + 1)) told
    (reading (read_at before session rows) before) after

-- a query is read by its plan, or refused
abbrev pub IsRead : Kept → Kept → ℕ → Step Plan → Submitted → Type 0
IsRead before after session (Ok plan) told = IsWaiting before after session (entries (bag_of (rows_of (state_of before) plan))) told
IsRead before after session (Err why) told = IsRefused before after session why told

-- a command waits
abbrev pub IsQueued : Kept → Kept → ℕ → Statement → Submitted → Type 0
IsQueued before after session statement told =
    Made (submitted.Queued (next_call before session)) told (queueing (waiting_of before session statement) before) after

-- a statement of this kind is queued, or read
abbrev pub IsStatementTaken : Kept → Kept → ℕ → Statement → Kind → Submitted → Type 0
IsStatementTaken before after session statement kind.Query told =
    IsRead before after session (query_plan (record { items = before.database.items; cluster = 0 }) statement) told
IsStatementTaken before after session statement other told = IsQueued before after session statement told

-- what is asked for is queued, read or refused
abbrev pub IsTaken : Kept → Kept → ℕ → Asked → Submitted → Type 0
IsTaken before after session (asks.Statement statement) told = IsStatementTaken before after session statement (kind_of statement) told
IsTaken before after session (asks.Syntax at) told = IsRefused before after session (refusal.Syntax at) told
IsTaken before after session (asks.LiteralRange at) told = IsRefused before after session (refusal.LiteralRange at) told
