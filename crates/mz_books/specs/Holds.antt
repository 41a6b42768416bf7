-- Holds and pending peeks: what keeps collections readable besides their policies and readers.
use Rattle.std.specs.Prelude.{ℕ, ◌+◌, ◌==◌, ◌&&◌, List, [], ◌∷◌, ◌++◌, Bool, not, Option, None, Some, filter, map, if◌then◌else◌}
use Rattle.mz_statement.specs.declared.statement.Statement.TheVariants.{Start, Commit}
use Rattle.mz_plan.specs.declared.command.PendingPeek.{PendingPeek}
use Rattle.mz_rules.specs.declared.capability.Collection.{Collection}
use Rattle.mz_rules.specs.declared.capability.Hold.{Hold}
use Rattle.mz_log.specs.declared.entry.Entry.TheVariants.{Read, Finish, Instant, Cancel, Close, Acquire, Down, Release}
use Rattle.mz_log.specs.Log.{Log}
use Rattle.mz_books.specs.Collections.{is_in_catalog, collections}

-- ---- transactions

-- the time of the session's transaction, where it is in one: that of its last BEGIN, with no COMMIT since. A closed session is in none
abbrev pub transaction : Log → ℕ → Option ℕ
transaction [] session = None
transaction (Instant caller call Start time ∷ log) session = if caller == session then Some time else transaction log session
transaction (Instant caller call Commit time ∷ log) session = if caller == session then None else transaction log session
transaction (Close caller ∷ log) session = if caller == session then None else transaction log session
transaction (entry ∷ log) session = transaction log session

-- a hold that the BEGIN of a session still has to take
pub record Taking : Type 0 where
  pub session : ℕ
  pub collection : ℕ
  pub time : ℕ

-- a hold at the time on each collection in the catalog, in order of creation
abbrev pub takings_of : ℕ → ℕ → List Collection → List Taking
takings_of session time cs =
    map (λ c. record { session = session; collection = c.number; time = time }) (filter is_in_catalog cs)

-- the list without its first member
abbrev pub rest : {A : Type 0} → List A → List A
rest [] = []
rest (x ∷ xs) = xs

-- the holds that the last BEGIN still has to take, in order
abbrev pub takings : Log → List Taking
takings [] = []
takings (Instant session call Start time ∷ log) = takings_of session time (collections log)
takings (Acquire hold collection time ∷ log) = rest (takings log)
takings (entry ∷ log) = []

-- the session whose BEGIN takes the next hold, where one does
abbrev pub owner : List Taking → Option ℕ
owner [] = None
owner (taking ∷ others) = Some taking.session

-- ---- holds

-- the hold at another time, if it is the one of this number
abbrev pub moved : ℕ → ℕ → Hold → Hold
moved number time hold = if hold.number == number then record hold { time = time } else hold

-- the live holds in order of their numbers, each at its newest time
abbrev pub holds : Log → List Hold
holds [] = []
holds (Acquire hold collection time ∷ log) =
    holds log ++ record { number = hold; collection = collection; time = time; owner = owner (takings log) } ∷ []
holds (Down hold time ∷ log) = map (moved hold time) (holds log)
holds (Release hold ∷ log) = filter (λ live. not (live.number == hold)) (holds log)
holds (entry ∷ log) = holds log

-- how many holds were taken; they are numbered from 1
abbrev pub holds_taken : Log → ℕ
holds_taken [] = 0
holds_taken (Acquire hold collection time ∷ log) = holds_taken log + 1
holds_taken (entry ∷ log) = holds_taken log

-- ---- peeks

-- how many peeks were made; they are numbered from 1
abbrev pub peeks_made : Log → ℕ
peeks_made [] = 0
peeks_made (Read session call peek time statement collection ∷ log) = peeks_made log + 1
peeks_made (entry ∷ log) = peeks_made log

-- the peek is the one of this number
abbrev pub is_peek : ℕ → PendingPeek → Bool
is_peek peek waiting = waiting.peek == peek

-- the peek answers that call of that session
abbrev pub is_of_call : ℕ → ℕ → PendingPeek → Bool
is_of_call session call waiting = (waiting.session == session) && (waiting.call == call)

-- the peeks that wait for their rows, in order
abbrev pub pending : Log → List PendingPeek
pending [] = []
pending (Read session call peek time statement collection ∷ log) =
    pending log ++ record { peek = peek; session = session; call = call; collection = collection; time = time } ∷ []
pending (Finish peek rows ∷ log) = filter (λ waiting. not (is_peek peek waiting)) (pending log)
pending (Cancel session call ∷ log) = filter (λ waiting. not (is_of_call session call waiting)) (pending log)
pending (entry ∷ log) = pending log
