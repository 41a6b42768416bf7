-- Which calls wait, and what for: a command for a round, and a read for the rows of its peek.
use Rattle.std.specs.Prelude.{◌≡◌, ℕ, ◌<◌, ◌≤◌, ◌==◌, ◌&&◌, List, [], ◌∷◌, Bool, Option, None, Some, false, flat_map, is_none, if◌then◌else◌}
use Rattle.mz_statement.specs.declared.statement.Statement.{Statement}
use Rattle.mz_plan.specs.declared.command.PendingPeek.{PendingPeek}
use Rattle.mz_books.specs.Entries.{Queued}
use Rattle.mz_books.specs.Calls.{Call, is_waiting}
use Rattle.mz_call_laws.specs.Members.{Has}

-- the call waits for a round
abbrev pub is_command : Call → Bool
is_command call = is_none call.peek && is_waiting call

-- what the call of this number in this session asks a round for, where it has a statement
abbrev pub asked_of_round : ℕ → ℕ → Option Statement → List Queued
asked_of_round session number None = []
asked_of_round session number (Some statement) =
    record { session = session; call = number; statement = statement } ∷ []

-- the command that the call is, if it waits for a round
abbrev pub command_of : Call → List Queued
command_of call =
    if is_command call
    then asked_of_round call.stored.session call.stored.call call.statement
    else []

-- the commands among the calls that wait for a round, in order
abbrev pub commands_in : List Call → List Queued
commands_in calls = flat_map command_of calls

-- a read that waits for its rows: the number of its peek, whose call it is, and its time
pub record Awaited : Type 0 where
  pub peek : ℕ
  pub session : ℕ
  pub call : ℕ
  pub time : ℕ

-- what waits for a pending peek
abbrev pub awaited : PendingPeek → Awaited
awaited waiting = record {
  peek = waiting.peek;
  session = waiting.session;
  call = waiting.call;
  time = waiting.time;
}

-- the read of a call with this peek
abbrev pub asked_of_peek : ℕ → ℕ → ℕ → Option ℕ → List Awaited
asked_of_peek session number time None = []
asked_of_peek session number time (Some peek) =
    record { peek = peek; session = session; call = number; time = time } ∷ []

-- the read that the call is, if it waits for its rows
abbrev pub read_of : Call → List Awaited
read_of call =
    if is_waiting call
    then asked_of_peek call.stored.session call.stored.call call.stored.time call.peek
    else []

-- the reads among the calls that wait for their rows, in order
abbrev pub reads_in : List Call → List Awaited
reads_in calls = flat_map read_of calls

-- the command is what the call asks a round for: the call waits, for no peek
pub record IsCommandOf (command : Queued) (call : Call) : Type 0 where
  pub session : call.stored.session ≡ command.session
  pub number : call.stored.call ≡ command.call
  pub statement : call.statement ≡ Some command.statement
  pub no_peek : call.peek ≡ None
  pub no_reply : call.stored.reply ≡ None

-- the commands are of two sessions, for a session waits for one call at most
abbrev pub AreApart : Queued → Queued → Type 0
AreApart first second = (first.session == second.session) ≡ false

-- the call waits for the rows of the peek, at the time of it
pub record IsReadOf (waiting : Awaited) (call : Call) : Type 0 where
  pub session : call.stored.session ≡ waiting.session
  pub number : call.stored.call ≡ waiting.call
  pub time : call.stored.time ≡ waiting.time
  pub peek : call.peek ≡ Some waiting.peek
  pub no_reply : call.stored.reply ≡ None

-- a call among these asks a round for the command
pub record AskedBy (command : Queued) (calls : List Call) : Type 0 where
  pub call : Call
  pub there : Has call calls
  pub is : IsCommandOf command call

-- a call among these waits for the peek
pub record WaitedFor (waiting : PendingPeek) (calls : List Call) : Type 0 where
  pub call : Call
  pub there : Has call calls
  pub is : IsReadOf (awaited waiting) call

-- the first peek was made before the second
abbrev pub IsMadeBefore : PendingPeek → PendingPeek → Type 0
IsMadeBefore first second = first.peek < second.peek

-- the peek is one of the first so many that were made
abbrev pub IsMadeWithin : ℕ → PendingPeek → Type 0
IsMadeWithin most waiting = (1 ≤ waiting.peek) × (waiting.peek ≤ most)
