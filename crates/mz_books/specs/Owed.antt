-- What an event still owes: the entries that have to come before anything else.
use Rattle.std.specs.Prelude.{◌≡◌, ℕ, ◌+◌, ◌==◌, List, [], ◌∷◌, ◌++◌, Bool, false, filter, map, take, ⊤}
use Rattle.std.specs.List.{list_any}
use Rattle.std.specs.FinMap.{entries}
use Rattle.std.specs.Option.{option_map_or}
use Rattle.mz_statement.specs.declared.statement.Statement.TheVariants.{Start, Commit}
use Rattle.mz_bag.specs.Weighted.{Weighted}
use Rattle.mz_plan.specs.declared.command.PendingPeek.{PendingPeek}
use Rattle.mz_rules.specs.declared.capability.Hold.{Hold}
use Rattle.mz_log.specs.declared.entry.Entry.{Entry}
use Rattle.mz_log.specs.declared.entry.Entry.TheVariants.{Finish, Instant, Close, Acquire, Release, Absorbed}
use Rattle.mz_log.specs.Log.{Log}
use Rattle.mz_books.specs.Entries.{after}
use Rattle.mz_books.specs.Collections.{collections, contents_at}
use Rattle.mz_books.specs.Holds.{Taking, rest, takings_of, holds, holds_taken, pending}
use Rattle.mz_books.specs.Streams.{stream_of}
use Rattle.mz_books.specs.Feeds.{packet_answers}

-- ---- BEGIN, COMMIT and closing

-- the holds that are taken, numbered from this number on
abbrev pub acquires : ℕ → List Taking → List Entry
acquires hold [] = []
acquires hold (taking ∷ takings) = Acquire hold taking.collection taking.time ∷ acquires (hold + 1) takings

-- a BEGIN of the session took the hold
abbrev pub is_owned_by : ℕ → Hold → Bool
is_owned_by session hold = option_map_or (λ owner. owner == session) hold.owner false

-- a release of each hold that a BEGIN of the session took
abbrev pub releases : ℕ → List Hold → List Entry
releases session holds = map (λ hold. Release hold.number) (filter (is_owned_by session) holds)

-- ---- packets

-- the rows that a peek waits for, with their counts in order of values: those of its collection at its own time
abbrev pub peek_rows : Log → PendingPeek → Weighted
peek_rows log peek = entries (contents_at log peek.collection peek.time)

-- one of the answers is to the peek
abbrev pub is_answered : List ℕ → PendingPeek → Bool
is_answered answers peek = list_any (λ answer. answer == peek.peek) answers

-- a finish of each pending peek that is answered, with the rows that it waits for
abbrev pub finishes : Log → List ℕ → List Entry
finishes log answers = map (λ peek. Finish peek.peek (peek_rows log peek)) (filter (is_answered answers) (pending log))

-- the peeks that a packet answers, once its replica has taken so many lines of its stream and is ready for this time
abbrev pub answers_of : Log → List ℕ → ℕ → ℕ → ℕ → List ℕ
answers_of log replica incarnation taken ready = packet_answers (take taken (stream_of log replica incarnation)) ready

-- ---- events

-- what an entry calls for in its own event, in this order: a BEGIN for a hold on each table and index, a COMMIT or the closing of a
-- session for the release of each of these, and a packet for the finish of each pending peek that it answers
abbrev pub called_for : Log → Entry → List Entry
called_for log (Instant session call Start time) = acquires (holds_taken log + 1) (takings_of session time (collections log))
called_for log (Instant session call Commit time) = releases session (holds log)
called_for log (Close session) = releases session (holds log)
called_for log (Absorbed replica incarnation turn taken ready frontiers) =
    finishes log (answers_of log replica incarnation taken ready)
called_for log entry = []

-- what still has to come before anything else, the first of it first
abbrev pub owed : Log → List Entry
owed [] = []
owed (entry ∷ log) = rest (owed log) ++ called_for log entry

-- the entry is the first that is owed, if anything is
abbrev pub IsInTurn : List Entry → Entry → Type 0
IsInTurn [] entry = ⊤
IsInTurn (next ∷ later) entry = entry ≡ next

-- the log after an event: an entry, and all that it calls for
abbrev pub event : Log → Entry → Log
event log entry = after (called_for log entry) (entry ∷ log)
