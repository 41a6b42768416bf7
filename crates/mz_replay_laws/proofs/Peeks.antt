-- A pending peek waits for the rows that its query is told in the state at its time.
use Rattle.std.proofs.Common.{◌≡◌, ℕ, ◌+◌, ◌≤◌, [], ◌∷◌, None, Some, arith}
use Rattle.std.specs.List.{AllByRecursion as Each}
use Rattle.mz_plan_laws.proofs.TypedValues.{each_append, each_kept, each_weaker}
use Rattle.mz_log.specs.declared.entry.Entry.TheVariants.{Read, Finish, Cancel, Queue, Instant, Refused}
use Rattle.mz_log.specs.Log.{Log}
use Rattle.mz_books.specs.Calls.{calls}
use Rattle.mz_books.specs.Holds.{peeks_made, pending}
use Rattle.mz_books.specs.Legal.{Legal}
use Rattle.mz_replay_laws.proofs.ReadPlans.{accepted_read}
use Rattle.mz_replay_laws.proofs.SaidCalls.{EachSaid, Saying, said_on}

-- ---- numbers of peeks

-- a call's peek is none past this number
abbrev pub IsLow : ℕ → Saying
IsLow most peek said cluster = (own : ℕ) → peek ≡ Some own → own ≤ most

-- the numbers of peeks are those that were made
pub record AreMade (log : Log) : Type 0 where
  pub peeks : Each (λ waiting. waiting.peek ≤ peeks_made log) (pending log)
  pub calls : EachSaid (IsLow (peeks_made log)) (calls log)

-- a call with no peek
none_low : (most : ℕ) → (own : ℕ) → None ≡ Some own → own ≤ most
none_low most own h = absurd (cc)

-- so it is in a legal log
pub all_made : (log : Log) → Legal log → AreMade log
all_made [] l = record { peeks = tt; calls = tt }
all_made (Read session call peek time statement collection ∷ log) l =
    let k = all_made log l.0 in
    let next = (accepted_read log session call peek time statement collection l).next_peek in
    let more = peeks_made log + 1 in
    record {
      peeks = each_append (λ waiting. waiting.peek ≤ more) (pending log) _
          (each_weaker (λ waiting. waiting.peek ≤ peeks_made log) (λ waiting. waiting.peek ≤ more) (λ waiting h. omega arith) (pending log) k.peeks)
          (omega (arith, next), tt);
      calls = said_on (IsLow more) log (Read session call peek time statement collection)
          (λ own is. let same : peek ≡ own = cc in omega (arith, same, next))
          (each_weaker (λ c. IsLow (peeks_made log) c.peek c.statement c.cluster) (λ c. IsLow more c.peek c.statement c.cluster)
          (λ c h own is. let low = h own is in omega arith) (calls log) k.calls);
    }
all_made (Finish peek rows ∷ log) l =
    let k = all_made log l.0 in
    record { peeks = each_kept _ _ (pending log) k.peeks; calls = said_on (IsLow (peeks_made log)) log (Finish peek rows) tt k.calls }
all_made (Cancel session call ∷ log) l =
    let k = all_made log l.0 in
    record { peeks = each_kept _ _ (pending log) k.peeks; calls = said_on (IsLow (peeks_made log)) log (Cancel session call) tt k.calls }
all_made (Queue session call statement ∷ log) l =
    let k = all_made log l.0 in
    record { peeks = k.peeks; calls = said_on (IsLow (peeks_made log)) log (Queue session call statement) (none_low (peeks_made log)) k.calls }
all_made (Instant session call statement time ∷ log) l =
    let k = all_made log l.0 in
    record { peeks = k.peeks; calls = said_on (IsLow (peeks_made log)) log (Instant session call statement time) (none_low (peeks_made log)) k.calls }
all_made (Refused session call text refusal ∷ log) l =
    let k = all_made log l.0 in
    record { peeks = k.peeks; calls = said_on (IsLow (peeks_made log)) log (Refused session call text refusal) (none_low (peeks_made log)) k.calls }
all_made (entry ∷ log) l = let k = all_made log l.0 in record { peeks = k.peeks; calls = said_on (IsLow (peeks_made log)) log entry tt k.calls }
