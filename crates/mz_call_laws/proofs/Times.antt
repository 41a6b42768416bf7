-- The times of rounds: that of the open one is after the read time, and no later than the last.
use Rattle.std.proofs.Common.{◌≡◌, ℕ, ◌<◌, ◌≤◌, List, [], ◌∷◌, ◌++◌, Option, Some, subst, arith}
use Rattle.mz_log.specs.declared.entry.Entry.TheVariants.{Begin, Apply}
use Rattle.mz_log.specs.declared.entry.Replied.{Replied}
use Rattle.mz_log.specs.Log.{Log}
use Rattle.mz_books.specs.Rounds.{Round, last_time, open_round, read_time}
use Rattle.mz_books.specs.Legal.{Legal}
use Rattle.mz_call_laws.specs.Fronts.{IsAhead}

-- no round was begun before the read time, and the open one is after it
pub record Ahead (log : Log) : Type 0 where
  pub begun : read_time log ≤ last_time log
  pub ahead : IsAhead (read_time log) (last_time log) (open_round log)

-- the open round's time, where a round is open
round_ahead : (read last time : ℕ) (round : Round) (open_one : Option Round) → open_one ≡ Some round → time ≡ round.time
    → IsAhead read last open_one → (read < time) × (time ≤ last)
round_ahead read last time round open_one is own ahead =
    let h : (read < round.time) × (round.time ≤ last) = subst (IsAhead read last) is ahead in (omega arith, omega arith)

-- only a round moves the read time, to its own
pub ahead : (log : Log) → Legal log → Ahead log
ahead [] l = record { begun = omega arith; ahead = tt }
ahead (Begin number time ∷ log) l =
    let begun = (ahead log l.0).begun in
    let later = l.1.may.later in
    record { begun = omega arith; ahead = (omega arith, omega arith) }
ahead (Apply time replies ∷ log) l =
    let may = l.1.may in
    let h = round_ahead (read_time log) (last_time log) time may.round (open_round log) may.is_open may.own_time (ahead log l.0).ahead in
    record { begun = h.1; ahead = tt }
ahead (entry ∷ log) l = let k = ahead log l.0 in record { begun = k.begun; ahead = k.ahead }

-- a round that is applied is later than the read time
pub round_later : (log : Log) (time : ℕ) (replies : List Replied) → Legal (Apply time replies ∷ log) → read_time log < time
round_later log time replies l =
    let may = l.1.may in
    (round_ahead (read_time log) (last_time log) time may.round (open_round log) may.is_open may.own_time (ahead log l.0).ahead).0

-- an earlier log is legal
pub legal_earlier : (log since : Log) → Legal (since ++ log) → Legal log
legal_earlier log [] l = l
legal_earlier log (entry ∷ since) l = legal_earlier log since l.0

-- the read time never falls
pub read_rises : (log since : Log) → Legal (since ++ log) → read_time log ≤ read_time (since ++ log)
read_rises log [] l = omega arith
read_rises log (Apply time replies ∷ since) l =
    let before = read_rises log since l.0 in
    let later = round_later (since ++ log) time replies l in omega arith
read_rises log (entry ∷ since) l = read_rises log since l.0

-- the read time is that of a round that was begun
pub read_within : (log : Log) → Legal log → read_time log ≤ last_time log
read_within log l = (ahead log l).begun

-- and the open one is after it
pub open_ahead : (log : Log) → Legal log → IsAhead (read_time log) (last_time log) (open_round log)
open_ahead log l = (ahead log l).ahead
