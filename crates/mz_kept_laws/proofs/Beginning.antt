-- A round is begun, or why it isn't.
use Rattle.std.proofs.Common.{◌≡◌, ℕ, ◌+◌, ◌<◌, ◌≤◌, ◌++◌, List, [], ◌∷◌, Option, None, Some, Result, Ok, Err, length, map, max, nat_le, option_map, refl, sym, ap, subst, ◌∙◌, arith, inl, inr}
use Rattle.std.specs.Option.{unwrap_or}
use Rattle.std.proofs.lemmas.Bool.{cases_Bool, cond-false, cond-true, le-leb, leb-true}
use Rattle.std.proofs.lemmas.List.{length-map}
use Rattle.mz_oracle.specs.Oracle.{given, greatest_given, next_time as next_given}
use Rattle.mz_log.specs.Log.{Log}
use Rattle.mz_log.specs.declared.entry.Entry.TheVariants.{Begin}
use Rattle.mz_books.specs.Given.{Did, RoundOpen, begin_at, begin_given, next_time}
use Rattle.mz_books.specs.Owed.{event}
use Rattle.mz_books.specs.Rounds.{greatest_round_time, last_time, open_round, queued, rounds}
use Rattle.mz_event_laws.proofs.Whole.{IsWhole, event_whole}
use Rattle.mz_core.specs.declared.calls.BegunRound.{BegunRound}
use Rattle.mz_core.specs.declared.calls.Waiting.{Waiting}
use Rattle.mz_kept.specs.Kept.{Kept}
use Rattle.mz_core.specs.Told.{begun_of, command_of}
use Rattle.mz_kept.specs.Standing.{StandsFor}
use Rattle.mz_kept.specs.Steps.{beginning}
use Rattle.mz_kept_laws.proofs.WithinRounds.{begun_items, within_beginning}

-- ---- the open round

-- what is made of nothing alone is nothing
pub none_made : {A B : Type 0} (f : A → B) (found : Option A) → option_map f found ≡ None → found ≡ None
none_made f None e = refl
none_made f (Some x) e = absurd (cc)

-- a round is open
is_open : (k : Kept) (log : Log) (now round : ℕ) (items : Option (List Waiting)) → StandsFor k log
    → option_map (λ own. record { number = k.rounds.begun; time = k.oracle.last; commands = map command_of own }) items ≡ open_round log
    → option_map (λ _. k.rounds.begun) items ≡ Some round
    → Did log (begin_given log now (open_round log)) (Err (RoundOpen round)) (StandsFor k)
is_open k log now round None s is some = absurd (cc)
is_open k log now round (Some own) s is some =
    let same : k.rounds.begun ≡ round = cc in
    subst (λ r. Did log (begin_given log now r) (Err (RoundOpen round)) (StandsFor k)) is
    (record { is = ap (λ n. Err (RoundOpen n)) same; now = s })

-- so none is begun
pub open_did : (k : Kept) (log : Log) (now round : ℕ) → StandsFor k log → option_map (λ _. k.rounds.begun) k.rounds.in_round ≡ Some round
    → Did log (begin_given log now (open_round log)) (Err (RoundOpen round)) (StandsFor k)
open_did k log now round s some = is_open k log now round k.rounds.in_round s s.rounds.open_round some

-- where none is open, none is in the log
pub none_open : (k : Kept) (log : Log) → StandsFor k log → k.rounds.in_round ≡ None → open_round log ≡ None
none_open k log s none =
    sym s.rounds.open_round
    ∙ ap (option_map (λ own. record { number = k.rounds.begun; time = k.oracle.last; commands = map command_of own })) none

-- and all commands that wait are queued in the log
pub all_queued : (k : Kept) (log : Log) → StandsFor k log → k.rounds.in_round ≡ None → map command_of k.rounds.queued ≡ queued log
all_queued k log s none = ap (λ items. map command_of (unwrap_or items [] ++ k.rounds.queued)) (sym none) ∙ s.rounds.queued

-- ---- times

-- what is a value and an error too is nothing
pub ok_err : {A F : Type 0} (result : Result A F) (value : A) (fault : F) → result ≡ Ok value → result ≡ Err fault → ⊥
ok_err result value fault ok err = cc

-- two values of one result are one
ok_same : {A F : Type 0} (result : Result A F) (value other : A) → result ≡ Ok value → result ≡ Ok other → value ≡ other
ok_same result value other is again = cc

-- what is known of a time that is given
pub record IsGiven (last now time : ℕ) : Type 0 where
  pub own : next_given last now ≡ time
  pub within : time ≤ greatest_given

-- a time is given
pub is_given : (last now time : ℕ) → given last now ≡ Ok time → IsGiven last now time
is_given last now time is =
    elim (cases_Bool (nat_le (next_given last now) greatest_given)) [
      | inl within ↦
          let same : next_given last now ≡ time = ok_same (given last now) (next_given last now) time (cond-true _ _ _ within) is in
          record { own = same; within = subst (λ t. t ≤ greatest_given) same (leb-true (next_given last now) greatest_given within) }
      | inr past ↦ absurd (ok_err (given last now) time (record { last = last; now = now }) is (cond-false _ _ _ past))
    ]

-- ---- a round that is begun

-- the log with a round is stood for
begin_stands : (k : Kept) (log : Log) (time : ℕ) → StandsFor k log → k.rounds.in_round ≡ None → last_time log < time
    → time ≤ greatest_round_time → StandsFor (beginning time k) (Begin (rounds log + 1) time ∷ log)
begin_stands k log time s none later within =
    let shut = none_open k log s none in
    let whole : IsWhole (event log (Begin (rounds log + 1) time))
    = event_whole log (Begin (rounds log + 1) time) s.legal s.whole
    (record { none_open = shut; next_number = refl; later = later; in_range = within }) in
    let waits = all_queued k log s none in record {
      legal = whole.legal;
      whole = whole.none;
      plain = (tt, s.plain);
      sessions = record { names = s.sessions.names; each = s.sessions.each; calls = s.sessions.calls };
      rounds = record {
        read = s.rounds.read;
        last = refl;
        begun = ap (λ n. n + 1) s.rounds.begun;
        open_round = λ i. Some (record { number = s.rounds.begun i + 1; time = time; commands = waits i });
        queued = ap (map command_of) (sym (begun_items k none)) ∙ s.rounds.queued;
      };
      state = s.state;
      reads = record { reads = s.reads.reads; peeks = s.reads.peeks };
      within = within_beginning time k s.within none (subst (λ last. last < time) (sym s.rounds.last) later);
    }

-- a round is begun at the time that is given
pub begun_did : (k new : Kept) (log : Log) (now time : ℕ) (begun : BegunRound) → StandsFor k log → k.rounds.in_round ≡ None
    → given k.oracle.last now ≡ Ok time → new ≡ beginning time k
    → begun ≡ record { round = k.rounds.begun + 1; time = time; commands = length k.rounds.queued }
    → Did log (begin_given log now (open_round log)) (Ok (begun_of begun)) (StandsFor new)
begun_did k new log now time begun s none gave is own =
    let known = is_given k.oracle.last now time gave in
    let next : next_time log now ≡ time = ap (λ last. max now (last + 1)) (sym s.rounds.last) ∙ known.own in
    let later : last_time log < time = subst (λ t. last_time log < t) next (omega arith) in
    let waits = all_queued k log s none in
    let told : begun_of begun ≡ record { round = rounds log + 1; time = time; commands = length (queued log) }
    = ap begun_of own ∙ (λ i. record {
      round = s.rounds.begun i + 1;
      time = time;
      commands = (sym (length-map k.rounds.queued command_of) ∙ ap length waits) i;
    }) in
    subst (λ r. Did log (begin_given log now r) (Ok (begun_of begun)) (StandsFor new)) (sym (none_open k log s none))
    (subst (λ t. Did log (begin_at log now t) (Ok (begun_of begun)) (StandsFor new)) (sym next)
    (subst (λ given. Did log given (Ok (begun_of begun)) (StandsFor new))
    (sym (cond-true _ _ _ (le-leb time greatest_round_time known.within)))
    (record {
      is = ap Ok (sym told);
      now = subst (λ after. StandsFor after (Begin (rounds log + 1) time ∷ log)) (sym is)
          (begin_stands k log time s none later known.within);
    })))
