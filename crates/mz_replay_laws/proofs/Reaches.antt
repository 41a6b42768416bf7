-- The calls of one time, from the state before that time to the state at it.
use Rattle.std.proofs.Common.{◌≡◌, ◌⊎◌, ℕ, zero, suc, Bool, true, false, cond, ◌==◌, List, [], ◌∷◌, ◌++◌, map, Some, None, is_some, IfSome, refl, sym, ap, ◌∙◌, subst, inl, inr}
use Rattle.std.proofs.lemmas.Bool.{cond-false, eqb-true, ne_eqb}
use Rattle.std.specs.List.{AllByRecursion as Each}
use Rattle.mz_log.specs.declared.reply.Reply.{Reply}
use Rattle.mz_books.specs.Calls.{Call, with_reply}
use Rattle.mz_books.specs.History.{IsReplyFrom, ReplayFrom, after_call, after_reply}
use Rattle.mz_log.specs.Sequential.{Sequential, opening}
use Rattle.mz_call_laws.specs.Calls.{calls_at}
use Rattle.mz_replay_laws.specs.Replays.{after_calls}
use Rattle.mz_call_laws.proofs.Buckets.{upto}

-- the call has a reply that it may have, and a read stands where its time has the state that it ends with
pub record IsFine (end state : Sequential) (call : Call) : Type 0 where
  pub told : IfSome call.stored.reply (IsReplyFrom state call)
  pub last : is_some call.peek ≡ true → state ≡ end

-- the state after the call, if it is one of this time
abbrev pub after_at : ℕ → Sequential → Call → Sequential
after_at time state call = cond (call.stored.time == time) (after_call state call) state

-- the calls of this time are fine, and lead from the state to the end
abbrev pub Reaches : ℕ → Sequential → Sequential → List Call → Type 0
Reaches time end state [] = state ≡ end
Reaches time end state (call ∷ calls) = (call.stored.time ≡ time → IsFine end state call) × Reaches time end (after_at time state call) calls

-- ---- buckets in a row

-- the replay of two lists in a row
replay_append : (state : Sequential) (xs ys : List Call) → ReplayFrom state xs → ReplayFrom (after_calls state xs) ys
    → ReplayFrom state (xs ++ ys)
replay_append state [] ys p q = q
replay_append state (x ∷ xs) ys p q = (p.0, replay_append (after_call state x) xs ys p.1 q)

-- and the state that it leaves
after_append : (state : Sequential) (xs ys : List Call) → after_calls state (xs ++ ys) ≡ after_calls (after_calls state xs) ys
after_append state [] ys = refl
after_append state (x ∷ xs) ys = after_append (after_call state x) xs ys

-- a bucket replays
reaches_replay : (t : ℕ) (end state : Sequential) (cs : List Call) → Reaches t end state cs
    → ReplayFrom state (calls_at t cs) × (after_calls state (calls_at t cs) ≡ end)
reaches_replay t end state [] r = (tt, r)
reaches_replay t end state (c ∷ cs) r =
    let bucket : Bool → List Call = λ b. cond b (c ∷ calls_at t cs) (calls_at t cs) in
    elim (c.stored.time == t) as (λ b. (c.stored.time == t) ≡ b → Reaches t end (cond b (after_call state c) state) cs
    → ReplayFrom state (bucket b) × (after_calls state (bucket b) ≡ end)) [
      | true ↦ λ e rest.
          let own = reaches_replay t end (after_call state c) cs rest in
          (((r.0 (eqb-true c.stored.time t e)).told, own.0), own.1)
      | false ↦ λ e rest. reaches_replay t end state cs rest
    ] refl r.1

-- the state before a time: that at the time before it
abbrev pub before : (ℕ → Sequential) → ℕ → Sequential
before ends zero = opening
before ends (suc time) = ends time

-- where each bucket replays, all of them do
pub buckets_replay : (ends : ℕ → Sequential) (cs : List Call) → ((t : ℕ) → Reaches t (ends t) (before ends t) cs) → (t : ℕ)
    → ReplayFrom opening (upto t cs) × (after_calls opening (upto t cs) ≡ ends t)
buckets_replay ends cs r zero = reaches_replay 0 (ends 0) opening cs (r 0)
buckets_replay ends cs r (suc t) =
    let earlier = buckets_replay ends cs r t in
    let bucket = calls_at (suc t) cs in
    let own =
    subst (λ state. ReplayFrom state bucket × (after_calls state bucket ≡ ends (suc t))) (sym earlier.1)
    (reaches_replay (suc t) (ends (suc t)) (ends t) cs (r (suc t))) in
    (replay_append opening (upto t cs) (calls_at (suc t) cs) earlier.0 own.0, after_append opening (upto t cs) (calls_at (suc t) cs) ∙ own.1)

-- ---- calls that leave the state

-- either way the same
either_same : {A : Type 0} (b : Bool) (x y : A) → x ≡ y → cond b x y ≡ y
either_same true x y e = e
either_same false x y e = refl

-- a call that leaves the state
quiet : (t : ℕ) (state : Sequential) (c : Call) → after_call state c ≡ state → after_at t state c ≡ state
quiet t state c e = either_same (c.stored.time == t) (after_call state c) state e

-- one with no reply does
pub idle : (t : ℕ) (state : Sequential) (c : Call) → c.stored.reply ≡ None → after_at t state c ≡ state
idle t state c e = quiet t state c (ap (after_reply state c) e)

-- and so does one of another time
pub elsewhere : (t : ℕ) (state : Sequential) (c : Call) → (c.stored.time ≡ t → ⊥) → after_at t state c ≡ state
elsewhere t state c e = cond-false _ _ _ (ne_eqb c.stored.time t e)

-- a bucket that no call is in
pub reaches_none : (t : ℕ) (end state : Sequential) (cs : List Call) → Each (λ c. c.stored.time ≡ t → ⊥) cs → state ≡ end → Reaches t end state cs
reaches_none t end state [] n e = e
reaches_none t end state (c ∷ cs) n e =
    ((λ own. absurd (n.0 own)), reaches_none t end (after_at t state c) cs n.1 (elsewhere t state c n.0 ∙ e))

-- one more call, which leaves the state
pub reaches_more : (t : ℕ) (end state : Sequential) (cs : List Call) (c : Call) → ((state : Sequential) → after_call state c ≡ state)
    → ((state : Sequential) → state ≡ end → IsFine end state c) → Reaches t end state cs → Reaches t end state (cs ++ c ∷ [])
reaches_more t end state [] c e f r = ((λ own. f state r), quiet t state c (e state) ∙ r)
reaches_more t end state (x ∷ xs) c e f r = (r.0, reaches_more t end (after_at t state x) xs c e f r.1)

-- ---- calls that get a reply at their own time

-- a call waited, and has got a reply that leaves the state, and that it may have where a read stands last
pub record IsTold (t : ℕ) (end : Sequential) (before now : Call) : Type 0 where
  pub told : Reply
  pub is : now ≡ with_reply before.stored.time told before
  pub waits : before.stored.reply ≡ None
  pub leaves : (state : Sequential) → after_reply state now (Some told) ≡ state
  pub fine : before.stored.time ≡ t → (state : Sequential) → (is_some before.peek ≡ true → state ≡ end) → IsReplyFrom state now told

-- the call as it was, or told so
abbrev pub MayTell : ℕ → Sequential → Call → Call → Type 0
MayTell t end before now = (now ≡ before) ⊎ IsTold t end before now

-- the first call
told_first : (t : ℕ) (end state : Sequential) (c d : Call) (cs ds : List Call) → IsTold t end c d
    → ((state : Sequential) → Reaches t end state cs → Reaches t end state ds)
    → Reaches t end state (c ∷ cs) → Reaches t end state (d ∷ ds)
told_first t end state c d cs ds k rest r =
    let reply : d.stored.reply ≡ Some k.told = ap (λ x. x.stored.reply) k.is in
    let time : d.stored.time ≡ c.stored.time = ap (λ x. x.stored.time) k.is in
    let peek : d.peek ≡ c.peek = ap (λ x. x.peek) k.is in
    let stays : after_at t state d ≡ state = quiet t state d (ap (after_reply state d) reply ∙ k.leaves state) in (
      (λ own.
          let last = (r.0 (sym time ∙ own)).last in
          record {
            told = subst (λ told. IfSome told (IsReplyFrom state d)) (sym reply) (k.fine (sym time ∙ own) state last);
            last = λ some. last (ap is_some (sym peek) ∙ some);
          }),
      subst (λ after. Reaches t end after ds) (sym stays)
          (rest state (subst (λ after. Reaches t end after cs) (idle t state c k.waits) r.1)),
    )

-- any of them
pub reaches_told : (t : ℕ) (end state : Sequential) (f : Call → Call) (cs : List Call) → Each (λ c. MayTell t end c (f c)) cs
    → Reaches t end state cs → Reaches t end state (map f cs)
reaches_told t end state f [] k r = r
reaches_told t end state f (c ∷ cs) k r = elim k.0 [
  | inl same ↦
      subst (λ d. Reaches t end state (d ∷ map f cs)) (sym same) (r.0, reaches_told t end (after_at t state c) f cs k.1 r.1)
  | inr told ↦ told_first t end state c (f c) cs (map f cs) told (λ state. reaches_told t end state f cs k.1) r
]
