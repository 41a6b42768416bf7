-- The open round is applied, where there is one.
use Rattle.std.proofs.Common.{◌≡◌, ℕ, List, [], ◌∷◌, Option, None, Some, Ok, Err, option_map, refl, sym, ap, subst, ◌∙◌}
use Rattle.std.specs.Option.{unwrap_or}
use Rattle.mz_oracle.specs.Rounds.{round_items}
use Rattle.mz_log.specs.Log.{Log}
use Rattle.mz_log.specs.declared.entry.Entry.{Entry}
use Rattle.mz_log.specs.declared.entry.Entry.TheVariants.{Apply}
use Rattle.mz_books.specs.Given.{Did}
use Rattle.mz_books.specs.Owed.{event}
use Rattle.mz_books.specs.Rounds.{open_round}
use Rattle.mz_books.specs.States.{newest_state}
use Rattle.mz_event_laws.proofs.Whole.{IsWhole, event_whole}
use Rattle.mz_replay_laws.proofs.Steady.{newest_after}
use Rattle.mz_core.specs.declared.calls.RoundDone.{RoundDone}
use Rattle.mz_core.specs.declared.calls.RoundReply.{RoundReply}
use Rattle.mz_core.specs.declared.calls.Waiting.{Waiting}
use Rattle.mz_kept.specs.Carrying.{leaves, tells}
use Rattle.mz_kept.specs.Kept.{Kept, state_of}
use Rattle.mz_kept.specs.Standing.{StandsFor}
use Rattle.mz_kept.specs.Steps.{applying, carrying_out}
use Rattle.mz_core.specs.Told.{done_with, finishing_given}
use Rattle.mz_kept_laws.proofs.Beginning.{none_open}
use Rattle.mz_kept_laws.proofs.CarryingOut.{replies_left, replies_told}
use Rattle.mz_kept_laws.proofs.PlanOrder.{ordered_leaves}
use Rattle.mz_kept_laws.proofs.Replying.{replied_at}
use Rattle.mz_kept_laws.proofs.RoundEnds.{numbers_of, owners_of, replies_in, round_left, round_of, round_open, round_replied}
use Rattle.mz_kept_laws.proofs.WaitingRows.{reads_stay}
use Rattle.mz_kept_laws.proofs.WithinRounds.{within_applying, within_carried}

-- where no round is open, none is applied
pub shut_did : (k : Kept) (log : Log) → StandsFor k log → k.rounds.in_round ≡ None
    → Did log (finishing_given log (open_round log)) (Err tt) (StandsFor k)
shut_did k log s none =
    subst (λ r. Did log (finishing_given log r) (Err tt) (StandsFor k)) (sym (none_open k log s none)) (record { is = refl; now = s })

-- ---- applied

-- the log in which it is applied is stood for
apply_stands : (k : Kept) (log : Log) (commands : List Waiting) → StandsFor k log → k.rounds.in_round ≡ Some commands
    → StandsFor (applying (numbers_of commands) (carrying_out (leaves (state_of k) commands) k))
    (Apply k.oracle.last (replies_in log commands) ∷ log)
apply_stands k log commands s some =
    let entry : Entry = Apply k.oracle.last (replies_in log commands) in
    let opened = round_open k log commands s some in
    let whole : IsWhole (event log entry) = event_whole log entry s.legal s.whole
    (record { round = round_of k commands; is_open = opened; own_time = refl; own_replies = refl }) in
    let owners = owners_of k commands s.within some in
    let replied = round_replied k log commands s some whole.legal in record {
      legal = whole.legal;
      whole = whole.none;
      plain = (tt, s.plain);
      sessions = record {
        names = s.sessions.names;
        each = replied_at (numbers_of commands) k log (entry ∷ log) s.within owners s.sessions replied;
        calls = s.sessions.calls ∙ sym replied.long;
      };
      rounds = record {
        read = refl;
        last = s.rounds.last;
        begun = s.rounds.begun;
        open_round = refl;
        queued = sym (round_left k log commands s some whole.legal);
      };
      state = ap (λ state. leaves state commands) s.state
          ∙ (sym (replies_left log (newest_state log) commands)
          ∙ sym (newest_after log k.oracle.last (replies_in log commands) whole.legal));
      reads = record { reads = s.reads.reads ∙ sym (reads_stay log entry whole.legal); peeks = s.reads.peeks };
      within = within_applying (numbers_of commands) (carrying_out (leaves (state_of k) commands) k)
          (within_carried (leaves (state_of k) commands) k (ordered_leaves commands (state_of k) s.within.plans) s.within) owners;
    }

-- the open round is applied
pub done_did : (k new : Kept) (log : Log) (commands : List Waiting) (done : RoundDone) → StandsFor k log → k.rounds.in_round ≡ Some commands
    → new ≡ applying (numbers_of commands) (carrying_out (leaves (state_of k) commands) k)
    → done ≡ record { round = k.rounds.begun; time = k.oracle.last; replies = tells (state_of k) commands }
    → Did log (finishing_given log (open_round log)) (Ok done) (StandsFor new)
done_did k new log commands done s some is own =
    let told : done ≡ done_with (round_of k commands) (replies_in log commands) = own ∙ ap (λ replies. record {
      round = k.rounds.begun;
      time = k.oracle.last;
      replies = replies;
    }) (ap (λ state. tells state commands) s.state ∙ sym (replies_told log (newest_state log) commands)) in
    subst (λ r. Did log (finishing_given log r) (Ok done) (StandsFor new)) (sym (round_open k log commands s some))
    (record {
      is = ap Ok (sym told);
      now = subst (λ after. StandsFor after (Apply k.oracle.last (replies_in log commands) ∷ log)) (sym is)
          (apply_stands k log commands s some);
    })

-- ---- as code applies it

-- where something is made, there is what it is made of
some_made : {A B : Type 0} (f : List A → B) (found : Option (List A)) (made : B) → option_map f found ≡ Some made
    → found ≡ Some (unwrap_or found [])
some_made f None made e = absurd (cc)
some_made f (Some x) made e = refl

-- and it is that
own_made : {A : Type 0} (begun round : ℕ) (found : Option A) → option_map (λ _. begun) found ≡ Some round → begun ≡ round
own_made begun round None e = absurd (cc)
own_made begun round (Some x) e = cc

-- the commands of the open round are carried out, and then it is applied
pub applied_did : (k mid new : Kept) (log : Log) (round : ℕ) (replies : List RoundReply) (done : RoundDone) → StandsFor k log
    → option_map (λ _. k.rounds.begun) k.rounds.in_round ≡ Some round
    → replies ≡ tells (state_of k) (round_items k.rounds)
    → mid ≡ carrying_out (leaves (state_of k) (round_items k.rounds)) k
    → new ≡ applying (numbers_of (round_items mid.rounds)) mid
    → done ≡ record { round = round; time = mid.oracle.last; replies = replies }
    → Did log (finishing_given log (open_round log)) (Ok done) (StandsFor new)
applied_did k mid new log round replies done s some told carried is own =
    let same = own_made k.rounds.begun round k.rounds.in_round some in
    done_did k new log (round_items k.rounds) done s (some_made _ k.rounds.in_round round some)
    (is ∙ ap (λ m. applying (numbers_of (round_items m.rounds)) m) carried)
    (own ∙ (λ i. record { round = sym same i; time = (carried i).oracle.last; replies = told i }))
