-- A round and the calls of each time: it makes up its own bucket, and leaves all others.
use Rattle.std.proofs.Common.{◌≡◌, ℕ, zero, suc, ◌<◌, ◌≤◌, List, [], ◌∷◌, map, refl, sym, ap, ◌∙◌, subst, inl, inr, arith}
use Rattle.std.specs.List.{AllByRecursion as Each}
use Rattle.std.proofs.lemmas.Bool.{cases_order, cond-false, lt-leb}
use Rattle.mz_plan_laws.proofs.TypedValues.{each_weaker}
use Rattle.mz_log.specs.declared.entry.Replied.{Replied}
use Rattle.mz_log.specs.declared.entry.Entry.TheVariants.{Apply}
use Rattle.mz_log.specs.Log.{Log}
use Rattle.mz_books.specs.Clusters.{cluster_of}
use Rattle.mz_books.specs.Rounds.{read_time}
use Rattle.mz_books.specs.Calls.{Call, calls, replied_in}
use Rattle.mz_log.specs.Sequential.{Sequential}
use Rattle.mz_books.specs.States.{after_replies, newest_state, replies_to, state_at}
use Rattle.mz_books.specs.Legal.{Legal}
use Rattle.mz_call_laws.proofs.Options.{none_of}
use Rattle.mz_call_laws.proofs.Precedes.{precedes}
use Rattle.mz_call_laws.proofs.Queue.{queue_is}
use Rattle.mz_call_laws.proofs.Replied.{replied_is}
use Rattle.mz_call_laws.proofs.Timed.{timed}
use Rattle.mz_call_laws.proofs.Transactions.{applied_front}
use Rattle.mz_replay_laws.proofs.Reaches.{Reaches, after_at, before, elsewhere, idle, reaches_none}
use Rattle.mz_replay_laws.proofs.RoundBucket.{round_leads}
use Rattle.mz_replay_laws.proofs.Steady.{newest_after, steady}
use Rattle.mz_call_laws.proofs.Times.{round_later}
use Rattle.mz_replay_laws.proofs.Usual.{all_usual}

-- ---- a round and other times

-- the states of the times before a round stay
state_earlier : (log : Log) (w : ℕ) (replies : List Replied) (t : ℕ) → t < w → state_at (Apply w replies ∷ log) t ≡ state_at log t
state_earlier log w replies t h = cond-false _ _ _ (lt-leb w t h)

-- the state that a round begins with, as that of the time before it
before_earlier : (log : Log) (w : ℕ) (replies : List Replied) (t : ℕ) → t ≤ w
    → before (state_at (Apply w replies ∷ log)) t ≡ before (state_at log) t
before_earlier log w replies zero h = refl
before_earlier log w replies (suc t) h = state_earlier log w replies t (omega arith)

-- it is the newest
before_round : (log : Log) → Legal log → (w : ℕ) → read_time log < w → before (state_at log) w ≡ newest_state log
before_round log l zero h = absurd (omega arith)
before_round log l (suc w) h = steady log l w (omega arith)

-- after a round the state stays from time to time
before_later : (log : Log) (w : ℕ) (replies : List Replied) → Legal (Apply w replies ∷ log) → (t : ℕ) → w < t
    → before (state_at (Apply w replies ∷ log)) t ≡ state_at (Apply w replies ∷ log) t
before_later log w replies l zero later = absurd (omega arith)
before_later log w replies l (suc t) later =
    steady (Apply w replies ∷ log) l t (omega arith) ∙ sym (steady (Apply w replies ∷ log) l (suc t) (omega arith))

-- a round takes only calls with no reply out of the buckets of other times
round_other : (t w : ℕ) (end state : Sequential) (replies : List Replied) (cs : List Call) → (w ≡ t → ⊥) → Reaches t end state cs
    → Reaches t end state (map (replied_in w replies) cs)
round_other t w end state replies [] n r = r
round_other t w end state replies (c ∷ cs) n r =
    elim (replied_is (λ d time. time ≡ w) w replies c (λ waits told is. refl)) [
      | inl same ↦
          subst (λ d. Reaches t end state (d ∷ map (replied_in w replies) cs)) (sym same)
          (r.0, round_other t w end (after_at t state c) replies cs n r.1)
      | inr got ↦
          let other : (replied_in w replies c).stored.time ≡ t → ⊥ = λ own. n (sym (ap (λ d. d.stored.time) got.is ∙ got.may) ∙ own) in
          let stays = idle t state c (none_of c.stored.reply got.waits) ∙ sym (elsewhere t state (replied_in w replies c) other) in (
            (λ own. absurd (other own)),
            subst (λ s. Reaches t end s (map (replied_in w replies) cs)) stays (round_other t w end (after_at t state c) replies cs n r.1),
          )
    ]

-- ---- a round's own time

-- its bucket
round_bucket : (log : Log) (w : ℕ) (replies : List Replied) → (l : Legal (Apply w replies ∷ log))
    → Reaches w (state_at (Apply w replies ∷ log) w) (before (state_at (Apply w replies ∷ log)) w) (map (replied_in w replies) (calls log))
round_bucket log w replies l =
    let later = round_later log w replies l in
    let may = l.1.may in
    let start = newest_state log in
    let then_calls = map (replied_in w replies) (calls log) in
    let front = applied_front log w replies l.0 may in
    let done = (timed log l.0).done in
    let reached =
    round_leads w log replies (calls log)
    (each_weaker (λ c. c.stored.time ≤ read_time log) (λ c. c.stored.time ≡ w → ⊥) (λ c u e. omega arith) (calls log) done)
    (precedes log l.0) (all_usual log l.0) start [] may.round.commands front.behind may.own_replies
    (each_weaker (λ c. c.stored.time ≤ read_time log) _ (λ c u waits. tt) (calls log) done) (queue_is log ∙ front.is) in
    let end : state_at (Apply w replies ∷ log) w ≡ after_replies (cluster_of log) start (replies_to (cluster_of log) start may.round.commands) =
    newest_after log w replies l ∙ ap (after_replies (cluster_of log) start) may.own_replies in
    let first : before (state_at (Apply w replies ∷ log)) w ≡ start =
    before_earlier log w replies w (omega arith) ∙ before_round log l.0 w later in
    subst (λ state. Reaches w (state_at (Apply w replies ∷ log) w) state then_calls) (sym first)
    (subst (λ state. Reaches w state start then_calls) (sym end) reached)

-- a round keeps each bucket: its own, those before it and those after it, in which no call is
pub applied_bucket : (log : Log) (w : ℕ) (replies : List Replied) → (l : Legal (Apply w replies ∷ log)) → (t : ℕ)
    → Reaches t (state_at log t) (before (state_at log) t) (calls log)
    → Reaches t (state_at (Apply w replies ∷ log) t) (before (state_at (Apply w replies ∷ log)) t) (map (replied_in w replies) (calls log))
applied_bucket log w replies l t r =
    let then_calls = map (replied_in w replies) (calls log) in
    elim (cases_order t w) [
      | inl same ↦
          subst (λ t. Reaches t (state_at (Apply w replies ∷ log) t) (before (state_at (Apply w replies ∷ log)) t) then_calls) (sym same)
          (round_bucket log w replies l)
      | inr (inl earlier) ↦
          subst (λ end. Reaches t end (before (state_at (Apply w replies ∷ log)) t) then_calls) (sym (state_earlier log w replies t earlier))
          (subst (λ state. Reaches t (state_at log t) state then_calls) (sym (before_earlier log w replies t (omega arith)))
          (round_other t w (state_at log t) _ replies (calls log) (λ e. omega arith) r))
      | inr (inr later) ↦
          let none : Each (λ c. c.stored.time ≡ t → ⊥) then_calls =
          each_weaker (λ c. c.stored.time ≤ w) (λ c. c.stored.time ≡ t → ⊥) (λ c u e. omega arith) then_calls (timed (Apply w replies ∷ log) l).done in
          reaches_none t _ _ then_calls none (before_later log w replies l t later)
    ]
