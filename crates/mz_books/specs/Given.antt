-- What a log gives each call of a coordinator: the first refusal, or the entries of its event and its answer; and what it is that a call
-- does what it is given.
use Rattle.std.specs.Prelude.{◌≡◌, ℕ, ◌+◌, List, [], ◌∷◌, Option, None, Some, Result, Ok, Err, bytes_eq, length, map, max, nat_le, if◌then◌else◌, ⊤}
use Rattle.std.specs.List.{list_any}
use Rattle.mz_grammar.specs.declared.asked.Asked.{Asked}
use Rattle.mz_print.specs.Print.{print_of}
use Rattle.mz_refusal.specs.declared.refusal.Limited.TheVariants.{Sessions}
use Rattle.mz_refusal.specs.declared.refusal.Refusal.{Refusal}
use Rattle.mz_refusal.specs.declared.refusal.Refusal.TheVariants as refusal
use Rattle.mz_resolution.specs.Steps.{Step, ◌>>=◌}
use Rattle.mz_log.specs.declared.entry.Entry.{Entry}
use Rattle.mz_log.specs.declared.entry.Entry.TheVariants.{Opened, Queue, Begin, Apply, Read, Refused, Cancel, Close}
use Rattle.mz_log.specs.Log.{Log}
use Rattle.mz_books.specs.Entries.{Queued, after}
use Rattle.mz_books.specs.Clusters.{cluster_of}
use Rattle.mz_books.specs.Rounds.{Round, greatest_round_time, is_in_round, last_time, open_round, queued, rounds}
use Rattle.mz_books.specs.States.{newest_state, replies_to}
use Rattle.mz_books.specs.Sessions.{is_closed, outstanding, sessions}
use Rattle.mz_books.specs.Owed.{called_for}
use Rattle.mz_books.specs.Answer.{answer, busy, refused_if}
use Rattle.mz_books.specs.Legal.{most_sessions}

-- what a call is given: the entries of its event, the first of them first, and its answer. Most refusals add no entry
pub record Given (A R : Type 0) : Type 0 where
  pub entries : List Entry
  pub answer : Result A R

-- a refusal that adds nothing
abbrev pub refuses : {A R : Type 0} → R → Given A R
refuses refusal = record { entries = []; answer = Err refusal }

-- an event, and its answer
abbrev pub gives : {A R : Type 0} → Log → Entry → A → Given A R
gives log entry x = record { entries = entry ∷ called_for log entry; answer = Ok x }

-- an event and its answer where a step finds no refusal; that of the step, where it finds one
abbrev pub gives_or_refuses : {A : Type 0} → Log → Step (Entry × A) → Given A Refusal
gives_or_refuses log (Ok event) = gives log event.0 event.1
gives_or_refuses log (Err refusal) = refuses refusal

-- a call that stood for a log did what it was given: it has this answer, and stands for the log with the further entries
pub record Did {A R : Type 0} (log : Log) (given : Given A R) (answer : Result A R) (Now : Log → Type 0) : Type 0 where
  pub is : given.answer ≡ answer
  pub now : Now (after given.entries log)

-- a call that meets a fault was refused, or, where the fault has no cause, found no memory and added nothing
abbrev pub DidFail : {A R : Type 0} → Log → Given A R → Option R → (Log → Type 0) → Type 0
DidFail log given (Some cause) Now = Did log given (Err cause) Now
DidFail log given None Now = Now log

-- a call does what it is given. A function tells of each fault which refusal it is; want of memory is none
abbrev pub Does : {A R F : Type 0} → (F → Option R) → Log → Given A R → Result A F → (Log → Type 0) → Type 0
Does cause log given (Ok answer) Now = Did log given (Ok answer) Now
Does cause log given (Err fault) Now = DidFail log given (cause fault) Now

-- ---- sessions

-- a session is opened under a name: its number
abbrev pub opening_given : Log → List ℕ → Given ℕ Refusal
opening_given log name = gives_or_refuses log (do
  _ ← refused_if (list_any (bytes_eq name) (sessions log)) (refusal.NameTaken name)
  _ ← refused_if (nat_le most_sessions (length (sessions log))) (refusal.TooMany Sessions most_sessions)
  Ok (Opened name, length (sessions log) + 1))

-- what became of a call: it waits for a round, it is read at a time by a peek, or it has its reply
pub data Submitted : Type 0 where
  IsQueued : (call : ℕ) → Submitted
  IsReading : (call peek time : ℕ) → Submitted
  IsReplied : (call : ℕ) → Submitted

-- what became of the call of this number, by its entry
abbrev pub submitted : ℕ → Entry → Submitted
submitted call (Queue session number statement) = IsQueued call
submitted call (Read session number peek time statement collection) = IsReading call peek time
submitted call entry = IsReplied call

-- a session says a text, which asks for this: what became of its next call
abbrev pub submission_given : Log → ℕ → ℕ → List ℕ → Asked → Given Submitted Refusal
submission_given log session call text asked = gives_or_refuses log (do
  entry ← answer log session text asked
  Ok (entry, submitted call entry))

-- why a call isn't cancelled
pub data CancelRefusal : Type 0 where
  NoCall : CancelRefusal
  InRound : (round : ℕ) → CancelRefusal

-- a call of this number is cancelled, unless it is in the open round
abbrev pub cancel_given : Log → ℕ → ℕ → Option Round → Given ℕ CancelRefusal
cancel_given log session call None = gives log (Cancel session call) call
cancel_given log session call (Some round) =
    if is_in_round session call (Some round) then refuses (InRound round.number) else gives log (Cancel session call) call

-- the session's call that has no reply is cancelled: its number
abbrev pub cancelling_given : Log → ℕ → Option ℕ → Given ℕ CancelRefusal
cancelling_given log session None = refuses NoCall
cancelling_given log session (Some call) = cancel_given log session call (open_round log)

-- a session is closed
abbrev pub closing_given : Log → ℕ → Given ⊤ Refusal
closing_given log session = gives_or_refuses log (do
  _ ← refused_if (is_closed log session) refusal.Closed
  _ ← busy (outstanding log session)
  Ok (Close session, tt))

-- ---- rounds

-- why no round is begun
pub data BeginRefusal : Type 0 where
  RoundOpen : (round : ℕ) → BeginRefusal
  NoTime : (last now : ℕ) → BeginRefusal

-- a round that was begun: its number, its time, and how many commands it took
pub record Begun : Type 0 where
  pub round : ℕ
  pub time : ℕ
  pub commands : ℕ

-- the time of the next round by a clock that says this
abbrev pub next_time : Log → ℕ → ℕ
next_time log now = max now (last_time log + 1)

-- each command that waits is refused, since no time is left
abbrev pub spent : ℕ → List Queued → List Entry
spent last commands =
    map (λ command. Refused command.session command.call (print_of command.statement) (refusal.TimeSpent last)) commands

-- a round is begun at this time, if it is in range; else the queue is emptied
abbrev pub begin_at : Log → ℕ → ℕ → Given Begun BeginRefusal
begin_at log now time =
    if nat_le time greatest_round_time
    then gives log (Begin (rounds log + 1) time) (record { round = rounds log + 1; time = time; commands = length (queued log) })
    else record { entries = spent (last_time log) (queued log); answer = Err (NoTime (last_time log) now) }

-- a round is begun by a clock that says this
abbrev pub begin_given : Log → ℕ → Option Round → Given Begun BeginRefusal
begin_given log now None = begin_at log now (next_time log now)
begin_given log now (Some round) = refuses (RoundOpen round.number)

-- the open round is applied: its number
abbrev pub finish_given : Log → Option Round → Given ℕ ⊤
finish_given log None = refuses tt
finish_given log (Some round) =
    gives log (Apply round.time (replies_to (cluster_of log) (newest_state log) round.commands)) round.number
