-- What every legal log keeps: that nothing told passes a held time.
use Rattle.std.specs.Prelude.{◌≡◌, ℕ, ◌+◌, ◌==◌, ◌≤◌, List, [], ◌++◌, Bool, true, false, take, IfSome}
use Rattle.std.specs.List.{AllByRecursion as Each, list_any}
use Rattle.mz_time.specs.Frontier.{Le}
use Rattle.mz_time.specs.declared.frontier.Frontier.TheVariants.{At}
use Rattle.mz_plan.specs.declared.command.Command.{Command}
use Rattle.mz_plan.specs.declared.command.PendingPeek.{PendingPeek}
use Rattle.mz_rules.specs.Frontiers.{IsWithin}
use Rattle.mz_rules.specs.Streams.{asked, told}
use Rattle.mz_log.specs.declared.entry.Entry.{Entry}
use Rattle.mz_log.specs.declared.entry.Entry.TheVariants.{Finish}
use Rattle.mz_log.specs.declared.stream.Report.{Report}
use Rattle.mz_log.specs.Log.{Log}
use Rattle.mz_books.specs.Rounds.{read_time}
use Rattle.mz_books.specs.Collections.{collections}
use Rattle.mz_books.specs.Holds.{holds, pending}
use Rattle.mz_books.specs.Since.{settled, since}
use Rattle.mz_books.specs.Streams.{streams, is_kept_in}
use Rattle.mz_books.specs.Owed.{owed}
use Rattle.mz_books.specs.Legal.{Legal}
use Rattle.mz_books.specs.History.{Replays}

-- ---- reports

-- the lines ask for the peek
abbrev pub asks_for : ℕ → List Command → Bool
asks_for peek lines = list_any (λ other. other == peek) (asked lines)

-- a report that has come to the peek's line isn't past its time: else the peek would have its rows
abbrev pub IsHonestOf : List Command → Report → PendingPeek → Type 0
IsHonestOf lines report peek = asks_for peek.peek (take report.taken lines) ≡ true → report.ready ≤ peek.time

-- the entry finishes the peek
abbrev pub finishes_it : ℕ → Entry → Bool
finishes_it peek (Finish other rows) = other == peek
finishes_it peek entry = false

-- the reports that count of live replicas are honest of each pending peek, but for those that are about to be finished
abbrev pub AreHonest : Log → Type 0
AreHonest log = Each (λ s. s.live ≡ true → IfSome s.report (λ report.
    Each (λ peek. list_any (finishes_it peek.peek) (owed log) ≡ false → IsHonestOf s.commands report peek) (pending log))) (streams log)

-- each live replica is asked for each pending peek on a collection that its cluster makes
abbrev pub AreAsked : Log → Type 0
AreAsked log = Each (λ s. s.live ≡ true
    → Each (λ peek. is_kept_in s.cluster (collections log) peek.collection ≡ true → asks_for peek.peek s.commands ≡ true) (pending log))
    (streams log)

-- ---- what is safe

-- capabilities hold, and nothing told passes them
pub record Safe (log : Log) : Type 0 where
  -- no since is past a hold or a pending peek, and nothing that any incarnation was told is either
  pub holds_stand : Each (λ hold. Le (since log hold.collection) (At hold.time)) (holds log)
  pub peeks_stand : Each (λ peek. Le (since log peek.collection) (At peek.time)) (pending log)
  pub told_holds : Each (λ s. Each (λ hold. Le (told hold.collection s.commands) (At hold.time)) (holds log)) (streams log)
  pub told_peeks : Each (λ s. Each (λ peek. Le (told peek.collection s.commands) (At peek.time)) (pending log)) (streams log)
  -- no since is past that of a reader
  pub readers_stand : Each (λ s. Each (λ input. Le (since log input) s.since) s.collection.inputs) (settled log)
  -- no incarnation, live or lost, was told more of a collection than its since
  pub told_before : Each (λ s. (number : ℕ) → Le (told number s.commands) (since log number)) (streams log)
  -- a since is from the as-of to the read time, and no upper is past the time after it
  pub from_as_of : Each (λ s. Le (At s.collection.as_of) s.since) (settled log)
  pub readable : Each (λ s. IsWithin (read_time log) s.since) (settled log)
  pub uppers : Each (λ c. c.upper ≤ read_time log + 1) (collections log)
  -- no since falls
  pub rising : (before later : Log) → log ≡ later ++ before → (number : ℕ) → Le (since before number) (since log number)
  -- reports are honest
  pub honest : AreHonest log

-- ---- what is good

-- at the end of an event: the log is legal, its history replays, and it is safe
pub record Good (log : Log) : Type 0 where
  pub legal : Legal log
  pub ended : owed log ≡ []
  pub replays : Replays log
  pub safe : Safe log
