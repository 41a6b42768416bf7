-- What calls of a core are answered, in the words of what a log gives them.
use Rattle.std.specs.Prelude.{◌≡◌, ◌≤◌, ℕ, List, Option, None, Some, Result, Ok, Err, map, ⊤}
use Rattle.mz_grammar.specs.Asked.{IsAsked}
use Rattle.mz_grammar.specs.declared.asked.Asked.{Asked}
use Rattle.mz_plan.specs.declared.command.PendingPeek.{PendingPeek}
use Rattle.mz_refusal.specs.declared.fault.CallFault.{CallFault}
use Rattle.mz_refusal.specs.declared.fault.CallFault.TheVariants as fault
use Rattle.mz_refusal.specs.declared.refusal.Refusal.{Refusal}
use Rattle.mz_resolution.specs.Steps.{Step, ◌>>=◌}
use Rattle.mz_log.specs.declared.entry.Entry.{Entry}
use Rattle.mz_log.specs.declared.entry.Entry.TheVariants.{Apply, Queue, Read, Refused}
use Rattle.mz_log.specs.declared.entry.Replied.{Replied}
use Rattle.mz_log.specs.Log.{Log}
use Rattle.mz_books.specs.Answer.{answer}
use Rattle.mz_books.specs.Clusters.{cluster_of}
use Rattle.mz_books.specs.Entries.{Queued}
use Rattle.mz_books.specs.Given.{BeginRefusal, RoundOpen, NoTime, Begun, Given, gives, gives_or_refuses, refuses}
use Rattle.mz_books.specs.Holds.{pending}
use Rattle.mz_books.specs.Owed.{peek_rows}
use Rattle.mz_books.specs.Rounds.{Round}
use Rattle.mz_books.specs.States.{newest_state, replies_to}
use Rattle.mz_core.specs.declared.fault.BeginFault.{BeginFault}
use Rattle.mz_core.specs.declared.fault.BeginFault.TheVariants as begin
use Rattle.mz_core.specs.declared.calls.BegunRound.{BegunRound}
use Rattle.mz_core.specs.declared.calls.RoundDone.{RoundDone}
use Rattle.mz_core.specs.declared.calls.RoundReply.{RoundReply}
use Rattle.mz_core.specs.declared.calls.Submitted.{Submitted}
use Rattle.mz_core.specs.declared.calls.Submitted.TheVariants as submitted
use Rattle.mz_core.specs.declared.calls.FinishedRead.{FinishedRead}
use Rattle.mz_core.specs.declared.calls.Waiting.{Waiting}

-- ---- cores

-- a core stands for some log
pub record IsOfLog {C : Type 0} (Stands : C → Log → Type 0) (core : C) : Type 0 where
  pub log : Log
  pub stands : Stands core log

-- the number of a session of so many, counted from 1
pub record IsNumberOf (sessions session : ℕ) : Type 0 where
  pub from_one : 1 ≤ session
  pub there : session ≤ sessions

-- ---- answers

-- the refusal that a fault is, where it is one
abbrev pub cause : CallFault → Option Refusal
cause (fault.Refused refusal) = Some refusal
cause fault.Memory = None

-- an answer in other words
abbrev pub answered_by : {A B F : Type 0} → (A → B) → Result A F → Result B F
answered_by in_words (Ok answer) = Ok (in_words answer)
answered_by in_words (Err fault) = Err fault

-- ---- submissions

-- some text asks for this
pub record IsSpelled (asked : Asked) : Type 0 where
  pub text : List ℕ
  pub asks : IsAsked text asked

-- what a session is told of the entry of its call. Of one that is carried out at once a core tells nothing
abbrev pub told_of : Entry → Option Submitted
told_of (Queue session call statement) = Some (submitted.Queued call)
told_of (Read session call peek time statement collection) = Some (submitted.Reading call time peek)
told_of (Refused session call text refusal) = Some (submitted.Refused call refusal)
told_of entry = None

-- a session says a text, which asks for this: the entry of its call, and what it is told of it
abbrev pub submitting_given : Log → ℕ → List ℕ → Asked → Given (Option Submitted) Refusal
submitting_given log session text asked = gives_or_refuses log (do
  entry ← answer log session text asked
  Ok (entry, told_of entry))

-- ---- rounds

-- a command that waits, as a log has it
abbrev pub command_of : Waiting → Queued
command_of waiting = record { session = waiting.session; call = waiting.call; statement = waiting.statement }

-- a round that was begun
abbrev pub begun_of : BegunRound → Begun
begun_of begun = record { round = begun.round; time = begun.time; commands = begun.commands }

-- why no round is begun
abbrev pub begin_cause : BeginFault → Option BeginRefusal
begin_cause (begin.RoundOpen round) = Some (RoundOpen round)
begin_cause (begin.NoTime last now commands) = Some (NoTime last now)

-- where no time is left, these commands are refused
abbrev pub RefusesEach : List Queued → Result BegunRound BeginFault → Type 0
RefusesEach commands (Err (begin.NoTime last now waited)) = map command_of waited ≡ commands
RefusesEach commands result = ⊤

-- what a command is told in a round
abbrev pub reply_of : Replied → RoundReply
reply_of replied = record { session = replied.session; call = replied.call; reply = replied.reply }

-- what a round is told of that is applied with these replies
abbrev pub done_with : Round → List Replied → RoundDone
done_with round replies = record { round = round.number; time = round.time; replies = map reply_of replies }

-- the open round is applied: what it replied to its commands
abbrev pub finishing_given : Log → Option Round → Given RoundDone ⊤
finishing_given log None = refuses tt
finishing_given log (Some round) =
    gives log (Apply round.time (replies_to (cluster_of log) (newest_state log) round.commands))
    (done_with round (replies_to (cluster_of log) (newest_state log) round.commands))

-- the round that was applied, where one was open
abbrev pub done_or_none : Option RoundDone → Result RoundDone ⊤
done_or_none None = Err tt
done_or_none (Some done) = Ok done

-- ---- reads

-- a pending peek with the rows that it waits for
abbrev pub read_of : Log → PendingPeek → FinishedRead
read_of log peek = record {
  peek = peek.peek;
  session = peek.session;
  call = peek.call;
  time = peek.time;
  rows = peek_rows log peek;
}

-- the pending peeks of a log, each with the rows that it waits for
abbrev pub reads_of : Log → List FinishedRead
reads_of log = map (read_of log) (pending log)
