-- Real time: which calls are placed at the newest time, and that the history keeps the order in which calls happened.
use Rattle.std.proofs.Common.{◌≡◌, ℕ, ◌≤◌, true, false, [], ◌∷◌, ◌++◌, None, refl, inl, inr, arith}
use Rattle.mz_statement.specs.declared.statement.Statement.{Statement}
use Rattle.mz_log.specs.declared.entry.Entry.TheVariants.{Apply, Read, Instant}
use Rattle.mz_log.specs.Log.{Log}
use Rattle.mz_books.specs.Rounds.{read_time}
use Rattle.mz_books.specs.Holds.{transaction}
use Rattle.mz_books.specs.Calls.{Call, calls, is_waiting}
use Rattle.mz_books.specs.History.{history}
use Rattle.mz_books.specs.Answer.{as_of}
use Rattle.mz_books.specs.Legal.{Legal}
use Rattle.mz_call_laws.specs.Members.{Has}
use Rattle.mz_call_laws.specs.RealTime.{IsGiven, IsPlaced, StandsBefore, is_of_round, submitted_since}
use Rattle.mz_call_laws.proofs.Lists.{each_has}
use Rattle.mz_call_laws.proofs.Times.{legal_earlier, read_rises, round_later}
use Rattle.mz_call_laws.proofs.Timed.{timed}
use Rattle.mz_call_laws.proofs.Grown.{grown_before, grown_since}
use Rattle.mz_call_laws.proofs.Placed.{IsSet, grown}
use Rattle.mz_call_laws.proofs.Places.{sorted_before}
use Rattle.mz_call_laws.proofs.Fresh.{instant_newest, read_newest}

-- the time that a further entry gives as the newest is from the read time on
given_later : (log since : Log) (session number time : ℕ) → Legal (since ++ log) → IsGiven log since session number time
    → read_time log ≤ time
given_later log [] session number time l given = elim given [ ]
given_later log (Apply round replies ∷ since) session number time l (inl applied) =
    let before = read_rises log since l.0 in
    let later = round_later (since ++ log) round replies l in
    let own = applied.own_time in omega arith
given_later log (Apply round replies ∷ since) session number time l (inr given) = given_later log since session number time l.0 given
given_later log (Read caller call peek at statement collection ∷ since) session number time l (inl read) =
    let before = read_rises log since l.0 in
    let newest = read.newest in omega arith
given_later log (Read caller call peek at statement collection ∷ since) session number time l (inr given) =
    given_later log since session number time l.0 given
given_later log (Instant caller call statement at ∷ since) session number time l (inl instant) =
    let before = read_rises log since l.0 in
    let newest = instant.newest in omega arith
given_later log (Instant caller call statement at ∷ since) session number time l (inr given) =
    given_later log since session number time l.0 given
given_later log (entry ∷ since) session number time l given = given_later log since session number time l.0 given

-- so a placed call has no earlier time, and sorting leaves it there
pub real_time : (log since : Log) (first second : Call) → Legal (since ++ log) → Has first (calls log) → is_waiting first ≡ false
    → Has second (submitted_since log since) → IsPlaced log since second → StandsBefore first second (history (since ++ log))
real_time log since first second l there done later placed =
    let g = grown log since l in
    let until = each_has (λ c. c.stored.time ≤ read_time log) first (calls log) (timed log (legal_earlier log since l)).done there in
    let from = given_later log since second.stored.session second.stored.call second.stored.time l placed in
    sorted_before first second (calls (since ++ log)) (omega arith)
    (grown_before (IsSet log since) first second (calls log) (calls (since ++ log)) g done there later)

-- a call that a round replied to was placed
pub round_placed : (log since : Log) (call : Call) → Legal (since ++ log) → Has call (submitted_since log since)
    → is_of_round call.stored.reply ≡ true → IsPlaced log since call
round_placed log since call l later of_round =
    grown_since (IsSet log since) call (calls log) (calls (since ++ log)) (grown log since l) later of_round

-- a read outside a transaction, and without AS OF, is placed as it is made
pub read_placed : (log since : Log) (session call peek time : ℕ) (statement : Statement) (collection : ℕ)
    → Legal (Read session call peek time statement collection ∷ (since ++ log))
    → transaction (since ++ log) session ≡ None → as_of statement ≡ None
    → IsGiven log (Read session call peek time statement collection ∷ since) session call time
read_placed log since session call peek time statement collection l outside unnamed =
    inl (record {
      own_session = refl;
      own_number = refl;
      newest = read_newest (since ++ log) session call peek time statement collection l outside unnamed;
    })

-- so is what is carried out at once outside a transaction
pub instant_placed : (log since : Log) (session call time : ℕ) (statement : Statement)
    → Legal (Instant session call statement time ∷ (since ++ log)) → transaction (since ++ log) session ≡ None
    → IsGiven log (Instant session call statement time ∷ since) session call time
instant_placed log since session call time statement l outside =
    inl (record { own_session = refl; own_number = refl; newest = instant_newest (since ++ log) session call time statement l outside })

-- what was placed stays so
pub placed_stays : (log since more : Log) (session number time : ℕ) → IsGiven log since session number time
    → IsGiven log (more ++ since) session number time
placed_stays log since [] session number time given = given
placed_stays log since (Apply round replies ∷ more) session number time given = inr (placed_stays log since more session number time given)
placed_stays log since (Read caller call peek at statement collection ∷ more) session number time given =
    inr (placed_stays log since more session number time given)
placed_stays log since (Instant caller call statement at ∷ more) session number time given =
    inr (placed_stays log since more session number time given)
placed_stays log since (entry ∷ more) session number time given = placed_stays log since more session number time given
