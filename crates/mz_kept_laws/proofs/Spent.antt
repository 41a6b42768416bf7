-- No time is left for a round, and each command that waits is refused.
use Rattle.std.proofs.Common.{◌≡◌, ℕ, ◌+◌, ◌==◌, ◌++◌, false, cond, List, [], ◌∷◌, None, Result, Err, length, map, max, nat_le, refl, sym, ap, subst, ◌∙◌, inl, inr}
use Rattle.std.specs.List.{AllByRecursion as Each, list_any}
use Rattle.std.specs.Option.{unwrap_or}
use Rattle.std.proofs.lemmas.Bool.{cases_Bool, cond-false, cond-true}
use Rattle.mz_oracle.specs.Oracle.{given, greatest_given, next_time as next_given}
use Rattle.mz_oracle.specs.declared.fault.TimeSpent.{TimeSpent}
use Rattle.mz_log.specs.Log.{Log}
use Rattle.mz_books.specs.Calls.{calls}
use Rattle.mz_books.specs.Entries.{Queued, after}
use Rattle.mz_books.specs.Given.{Did, NoTime, begin_given, next_time, spent}
use Rattle.mz_books.specs.Holds.{peeks_made}
use Rattle.mz_books.specs.Rounds.{greatest_round_time, last_time, open_round, queued, read_time, rounds}
use Rattle.mz_books.specs.Sessions.{calls_made, outstanding, sessions}
use Rattle.mz_books.specs.States.{newest_state}
use Rattle.mz_frames.proofs.Spending.{IsSpending, spending, spending_end, spending_leaves, spending_waits, spent_long, spent_made}
use Rattle.mz_script_laws.specs.Plain.{IsPlain}
use Rattle.mz_script_laws.proofs.PlainLogs.{plain_after}
use Rattle.mz_kept.specs.Kept.{Kept}
use Rattle.mz_core.specs.Told.{command_of, reads_of}
use Rattle.mz_kept.specs.Standing.{StandsFor}
use Rattle.mz_kept.specs.Steps.{spending as spending_kept}
use Rattle.mz_kept_laws.proofs.Beginning.{all_queued, none_open, ok_err}
use Rattle.mz_kept_laws.proofs.Replying.{AllReplied, replied_at}
use Rattle.mz_kept_laws.proofs.RoundEnds.{any_command, numbers_of, owners_behind}
use Rattle.mz_kept_laws.proofs.WithinRounds.{within_spending}

-- the refusals are plain
spent_plain : (last : ℕ) (commands : List Queued) → Each IsPlain (spent last commands)
spent_plain last [] = tt
spent_plain last (command ∷ commands) = (tt, spent_plain last commands)

-- the sessions of the commands have their replies
spent_replied : (k : Kept) (log : Log) → StandsFor k log → k.rounds.in_round ≡ None → IsSpending (last_time log) (queued log) log
    → AllReplied (numbers_of k.rounds.queued) log (after (spent (last_time log) (queued log)) log)
spent_replied k log s none sp =
    let last = last_time log in
    let ms = queued log in record {
      names = spending_leaves sessions (λ l t m h. refl) last ms log sp;
      made = λ session. spending_leaves (λ l. calls_made l session) (λ l t m h. spent_made l t m h session) last ms log sp;
      waits = λ session.
          spending_waits last ms log sp session
          ∙ ap (λ b. cond b None (outstanding log session))
          (ap (list_any (λ m. m.session == session)) (sym (all_queued k log s none)) ∙ any_command k.rounds.queued session);
      long = spending_leaves (λ l. length (calls l)) spent_long last ms log sp;
    }

-- the log with the refusals is stood for
spent_stands : (k : Kept) (log : Log) → StandsFor k log → k.rounds.in_round ≡ None
    → StandsFor (spending_kept (numbers_of k.rounds.queued) k) (after (spent (last_time log) (queued log)) log)
spent_stands k log s none =
    let last = last_time log in
    let ms = queued log in
    let sp = spending log s.legal s.whole (none_open k log s none) in
    let end = spending_end last ms log sp in
    let owners = owners_behind k s.within in
    let replied = spent_replied k log s none sp in record {
      legal = end.legal;
      whole = end.whole;
      plain = plain_after (spent last ms) log (spent_plain last ms) s.plain;
      sessions = record {
        names = s.sessions.names ∙ sym replied.names;
        each = replied_at (numbers_of k.rounds.queued) k log (after (spent last ms) log) s.within owners s.sessions replied;
        calls = s.sessions.calls ∙ sym replied.long;
      };
      rounds = record {
        read = s.rounds.read ∙ sym (spending_leaves read_time (λ l t m h. refl) last ms log sp);
        last = s.rounds.last ∙ sym (spending_leaves last_time (λ l t m h. refl) last ms log sp);
        begun = s.rounds.begun ∙ sym (spending_leaves rounds (λ l t m h. refl) last ms log sp);
        open_round = s.rounds.open_round ∙ sym (spending_leaves open_round (λ l t m h. refl) last ms log sp);
        queued = ap (λ items. map command_of (unwrap_or items [] ++ [])) none ∙ sym end.queue;
      };
      state = s.state ∙ sym (spending_leaves newest_state (λ l t m h. refl) last ms log sp);
      reads = record {
        reads = s.reads.reads ∙ sym (spending_leaves reads_of (λ l t m h. refl) last ms log sp);
        peeks = s.reads.peeks ∙ sym (spending_leaves peeks_made (λ l t m h. refl) last ms log sp);
      };
      within = within_spending (numbers_of k.rounds.queued) k s.within owners;
    }

-- ---- no time

-- two errors of one result are one
err_same : {A F : Type 0} (result : Result A F) (fault other : F) → result ≡ Err fault → result ≡ Err other → fault ≡ other
err_same result fault other is again = cc

-- what is known where no time is given
record IsSpent (at now : ℕ) (why : TimeSpent) : Type 0 where
  past : nat_le (next_given at now) greatest_given ≡ false
  own : why ≡ record { last = at; now = now }

-- no time is given: the next one is past the greatest
is_spent : (at now : ℕ) (why : TimeSpent) → given at now ≡ Err why → IsSpent at now why
is_spent at now why is =
    elim (cases_Bool (nat_le (next_given at now) greatest_given)) [
      | inl within ↦ absurd (ok_err (given at now) (next_given at now) why (cond-true _ _ _ within) is)
      | inr past ↦ record { past = past; own = err_same (given at now) why (record { last = at; now = now }) is (cond-false _ _ _ past) }
    ]

-- no round is begun, and the commands are refused
pub spent_did : (k new : Kept) (log : Log) (now : ℕ) (why : TimeSpent) → StandsFor k log → k.rounds.in_round ≡ None
    → given k.oracle.last now ≡ Err why → new ≡ spending_kept (numbers_of k.rounds.queued) k
    → Did log (begin_given log now (open_round log)) (Err (NoTime why.last why.now)) (StandsFor new)
spent_did k new log now why s none gave is =
    let known = is_spent k.oracle.last now why gave in
    let past : nat_le (next_time log now) greatest_round_time ≡ false
    = ap (λ last. nat_le (max now (last + 1)) greatest_round_time) (sym s.rounds.last) ∙ known.past in
    let told : NoTime why.last why.now ≡ NoTime (last_time log) now
    = (λ i. NoTime (known.own i).last (known.own i).now) ∙ ap (λ last. NoTime last now) s.rounds.last in
    subst (λ r. Did log (begin_given log now r) (Err (NoTime why.last why.now)) (StandsFor new)) (sym (none_open k log s none))
    (subst (λ given. Did log given (Err (NoTime why.last why.now)) (StandsFor new)) (sym (cond-false _ _ _ past))
    (record {
      is = ap Err (sym told);
      now = subst (λ kept. StandsFor kept (after (spent (last_time log) (queued log)) log)) (sym is) (spent_stands k log s none);
    }))
