-- Calls that get a reply at their own time: the rows of a peek, a refusal, or that they are cancelled.
use Rattle.std.proofs.Common.{◌≡◌, ℕ, true, false, ◌==◌, ◌&&◌, List, [], ◌∷◌, map, Option, Some, None, is_some, refl, sym, ap, ◌∙◌, subst, inl, inr}
use Rattle.std.specs.List.{list_any}
use Rattle.std.specs.Option.{option_map_or}
use Rattle.std.proofs.lemmas.Bool.{and_parts, cond_both, eqb-true, false≢true}
use Rattle.mz_bag.specs.Weighted.{Weighted}
use Rattle.mz_refusal.specs.declared.refusal.Refusal.{Refusal}
use Rattle.mz_log.specs.declared.entry.Entry.TheVariants.{Finish}
use Rattle.mz_log.specs.declared.reply.Reply.{Reply}
use Rattle.mz_log.specs.declared.reply.Reply.TheVariants as reply
use Rattle.mz_log.specs.Log.{Log}
use Rattle.mz_books.specs.Calls.{Call, awaits, calls, ended, finished, is_call, is_waiting, with_refusal, with_reply}
use Rattle.mz_log.specs.CarriedOut.{Rows}
use Rattle.mz_books.specs.History.{IsReplyFrom, IsToldIn, after_reply}
use Rattle.mz_books.specs.Holds.{pending}
use Rattle.mz_books.specs.Owed.{peek_rows}
use Rattle.mz_log.specs.Sequential.{Sequential}
use Rattle.mz_books.specs.States.{state_at}
use Rattle.mz_books.specs.Legal.{Legal}
use Rattle.mz_call_laws.specs.Members.{Has}
use Rattle.mz_call_laws.specs.Waiting.{Awaited, IsReadOf, awaited}
use Rattle.mz_call_laws.proofs.Lists.{each_from, each_has}
use Rattle.mz_call_laws.proofs.Options.{none_of}
use Rattle.mz_call_laws.proofs.PendingCalls.{call_pending}
use Rattle.mz_replay_laws.proofs.PeekRows.{AsksOf, all_asked}
use Rattle.mz_replay_laws.proofs.PeekTold.{asked_rows}
use Rattle.mz_replay_laws.proofs.Reaches.{MayTell, Reaches, reaches_more, reaches_told}
use Rattle.mz_replay_laws.proofs.SaidCalls.{EachSaid}

-- ---- the rows of a peek

-- a member of a mapped list comes from a member
record From {A B : Type 0} (f : A → B) (y : B) (xs : List A) : Type 0 where
  pub one : A
  pub there : Has one xs
  pub is : f one ≡ y

-- so it does
from_map : {A B : Type 0} (f : A → B) (y : B) (xs : List A) → Has y (map f xs) → From f y xs
from_map f y [] h = absurd h
from_map f y (x ∷ xs) (inl same) = record { one = x; there = inl refl; is = same }
from_map f y (x ∷ xs) (inr later) = let k = from_map f y xs later in record { one = k.one; there = inr k.there; is = k.is }

-- the peek that a call waits for is its own
own_peek : (peek : ℕ) (own : Option ℕ) → option_map_or (λ o. o == peek) own false ≡ true → own ≡ Some peek
own_peek peek None test = absurd (false≢true test)
own_peek peek (Some own) test = ap Some (eqb-true own peek test)

-- the rows of a peek are told its call in the state at its time
row_told : (log : Log) (peek : ℕ) (rows : Weighted) → Legal (Finish peek rows ∷ log) → (c : Call) → Has c (calls log) → c.peek ≡ Some peek
    → c.stored.reply ≡ None → IsToldIn (state_at log c.stored.time) c.cluster c.statement (Rows rows)
row_told log peek rows l c there own waits =
    let read : Awaited = record { peek = peek; session = c.stored.session; call = c.stored.call; time = c.stored.time } in
    let is : IsReadOf read c = record { session = refl; number = refl; time = refl; peek = own; no_reply = waits } in
    let from = from_map awaited read (pending log) (call_pending log l.0 c read there is) in
    let waiting = from.one in
    let same : waiting.peek ≡ peek = ap (λ a. a.peek) from.is in
    let time : waiting.time ≡ c.stored.time = ap (λ a. a.time) from.is in
    let given : rows ≡ peek_rows log waiting =
    each_has (λ w. w.peek ≡ peek → rows ≡ peek_rows log w) waiting (pending log) l.1.may.own_rows from.there same in
    let asked =
    each_has (λ d. AsksOf log waiting d.peek d.statement d.cluster) c (calls log)
    (each_has (λ w. EachSaid (AsksOf log w) (calls log)) waiting (pending log) (all_asked log l.0) from.there) there (own ∙ ap Some (sym same)) in
    subst (λ ws. IsToldIn (state_at log c.stored.time) c.cluster c.statement (Rows ws)) (sym given)
    (subst (λ t. IsToldIn (state_at log t) c.cluster c.statement (Rows (peek_rows log waiting))) time
    (asked_rows log waiting c.statement c.cluster asked))

-- so a finish tells it so
finished_tells : (log : Log) (peek : ℕ) (rows : Weighted) → Legal (Finish peek rows ∷ log) → (t : ℕ) (c : Call) → Has c (calls log)
    → MayTell t (state_at log t) c (finished peek rows c)
finished_tells log peek rows l t c there =
    cond_both (awaits peek c) (with_reply c.stored.time (reply.Rows c.stored.time rows) c) c (MayTell t (state_at log t) c)
    (λ test.
    let parts = and_parts (option_map_or (λ o. o == peek) c.peek false) (is_waiting c) test in
    let own = own_peek peek c.peek parts.0 in
    let waits = none_of c.stored.reply parts.1 in
    inr (record {
      told = reply.Rows c.stored.time rows;
      is = refl;
      waits = waits;
      leaves = λ state. refl;
      fine = λ mine state last. (
        refl,
        subst (λ s. IsToldIn s c.cluster c.statement (Rows rows)) (sym (last (ap is_some own)))
            (subst (λ time. IsToldIn (state_at log time) c.cluster c.statement (Rows rows)) mine (row_told log peek rows l c there own waits)),
      );
    }))
    (λ _. inl refl)

-- and keeps each bucket
pub finish_reaches : (log : Log) (peek : ℕ) (rows : Weighted) → Legal (Finish peek rows ∷ log) → (t : ℕ) (state : Sequential)
    → Reaches t (state_at log t) state (calls log) → Reaches t (state_at log t) state (map (finished peek rows) (calls log))
finish_reaches log peek rows l t state r =
    reaches_told t (state_at log t) state (finished peek rows) (calls log)
    (each_from (λ c. MayTell t (state_at log t) c (finished peek rows c)) (calls log) (finished_tells log peek rows l t)) r

-- ---- an end

-- a reply that leaves the state and that each call may have
pub record IsPlain (told : ℕ → Reply) : Type 0 where
  pub leaves : (time : ℕ) (c : Call) (state : Sequential) → after_reply state c (Some (told time)) ≡ state
  pub fine : (c : Call) (state : Sequential) → IsReplyFrom state c (told c.stored.time)

-- a call that is ended with it
ended_tells : (told : ℕ → Reply) → IsPlain told → (session number t : ℕ) (end : Sequential) (c : Call) → MayTell t end c (ended session number told c)
ended_tells told plain session number t end c =
    cond_both (is_call session number c && is_waiting c) (with_reply c.stored.time (told c.stored.time) c) c (MayTell t end c)
    (λ test. inr (record {
      told = told c.stored.time;
      is = refl;
      waits = none_of c.stored.reply (and_parts (is_call session number c) (is_waiting c) test).1;
      leaves = λ state. plain.leaves c.stored.time (with_reply c.stored.time (told c.stored.time) c) state;
      fine = λ mine state last. plain.fine (with_reply c.stored.time (told c.stored.time) c) state;
    }))
    (λ _. inl refl)

-- so an end keeps each bucket
pub end_reaches : (told : ℕ → Reply) → IsPlain told → (session number t : ℕ) (end state : Sequential) (cs : List Call) → Reaches t end state cs
    → Reaches t end state (map (ended session number told) cs)
end_reaches told plain session number t end state cs r =
    reaches_told t end state (ended session number told) cs
    (each_from (λ c. MayTell t end c (ended session number told c)) cs (λ c there. ended_tells told plain session number t end c)) r

-- that a call is cancelled
pub cancelled_plain : IsPlain reply.Cancelled
cancelled_plain = record { leaves = λ time c state. refl; fine = λ c state. refl }

-- that it is refused
refused_plain : (refusal : Refusal) → IsPlain (λ time. reply.Refused refusal)
refused_plain refusal = record { leaves = λ time c state. refl; fine = λ c state. tt }

-- a refusal, of a call that waits or of a new one
pub refusal_reaches : (session number : ℕ) (text : List ℕ) (refusal : Refusal) (cluster time t : ℕ) (end state : Sequential) (cs : List Call)
    → Reaches t end state cs → Reaches t end state (with_refusal session number text (reply.Refused refusal) cluster time cs)
refusal_reaches session number text refusal cluster time t end state cs r =
    cond_both (list_any (is_call session number) cs) _ _ (Reaches t end state)
    (λ _. end_reaches (λ own. reply.Refused refusal) (refused_plain refusal) session number t end state cs r)
    (λ _. reaches_more t end state cs _ (λ s. refl) (λ s e. record { told = tt; last = λ some. absurd (false≢true some) }) r)
