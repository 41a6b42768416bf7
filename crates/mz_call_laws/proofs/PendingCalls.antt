-- Each pending peek is a call that waits for it, and the other way round; peeks rise.
use Rattle.std.proofs.Common.{◌≡◌, ℕ, ◌<◌, true, [], ◌∷◌, map, Option, Some, None, is_none, refl, sym, ap, ◌∙◌, subst, inl, inr}
use Rattle.std.specs.List.{AllByRecursion as Each}
use Rattle.std.proofs.lemmas.Bool.{cond-true, cond_both}
use Rattle.mz_plan.specs.declared.command.PendingPeek.{PendingPeek}
use Rattle.mz_log.specs.Log.{Log}
use Rattle.mz_books.specs.Holds.{peeks_made, pending}
use Rattle.mz_books.specs.Calls.{Call, calls, is_waiting}
use Rattle.mz_books.specs.Legal.{Legal}
use Rattle.mz_call_laws.specs.Calls.{Precedes}
use Rattle.mz_call_laws.specs.Members.{Has, Pairwise}
use Rattle.mz_call_laws.specs.Waiting.{Awaited, IsMadeBefore, IsMadeWithin, IsReadOf, WaitedFor, asked_of_peek, awaited, read_of}
use Rattle.mz_call_laws.proofs.Options.{none_of}
use Rattle.mz_call_laws.proofs.Lists.{each_from, each_has, gives_has, has_given, has_map, pairwise_flat, pairwise_unmap}
use Rattle.mz_call_laws.proofs.Peeks.{peeks_within}
use Rattle.mz_call_laws.proofs.Precedes.{precedes}
use Rattle.mz_call_laws.proofs.WaitingReads.{pending_is}

-- what a call with a peek waits for, it is
asked_is : (c : Call) (r : Awaited) (peek : Option ℕ) → c.peek ≡ peek → is_waiting c ≡ true
    → Has r (asked_of_peek c.stored.session c.stored.call c.stored.time peek) → IsReadOf r c
asked_is c r None is waits h = elim h [ ]
asked_is c r (Some peek) is waits (inl same) = record {
  session = ap (λ q. q.session) same;
  number = ap (λ q. q.call) same;
  time = ap (λ q. q.time) same;
  peek = is ∙ ap (λ q. Some q.peek) same;
  no_reply = none_of c.stored.reply waits;
}
asked_is c r (Some peek) is waits (inr none) = elim none [ ]

-- the read that a call is
pub read_is : (c : Call) (r : Awaited) → Has r (read_of c) → IsReadOf r c
read_is c r =
    cond_both (is_waiting c) (asked_of_peek c.stored.session c.stored.call c.stored.time c.peek) [] (λ rs. Has r rs → IsReadOf r c)
    (λ waits. asked_is c r c.peek refl waits) (λ _ none. elim none [ ])

-- what a call is, it waits for
is_awaited : (c : Call) (r : Awaited) → IsReadOf r c → Has r (read_of c)
is_awaited c r is =
    let own : asked_of_peek c.stored.session c.stored.call c.stored.time c.peek ≡ r ∷ []
    = ap (asked_of_peek c.stored.session c.stored.call c.stored.time) is.peek
    ∙ ap (λ session. record { peek = r.peek; session = session; call = c.stored.call; time = c.stored.time } ∷ []) is.session
    ∙ ap (λ number. record { peek = r.peek; session = r.session; call = number; time = c.stored.time } ∷ []) is.number
    ∙ ap (λ time. record { peek = r.peek; session = r.session; call = r.call; time = time } ∷ []) is.time in
    subst (Has r) (sym (cond-true _ _ _ (ap is_none is.no_reply) ∙ own)) (inl refl)

-- each pending peek is one that a call waits for
pub pending_call : (log : Log) → Legal log → (waiting : PendingPeek) → Has waiting (pending log) → WaitedFor waiting (calls log)
pending_call log l waiting h =
    let given = has_given read_of (awaited waiting) (calls log)
    (subst (Has (awaited waiting)) (sym (pending_is log l)) (has_map awaited waiting (pending log) h)) in
    record { call = given.giver; there = given.there; is = read_is given.giver (awaited waiting) given.gives }

-- what a call waits for is pending
pub call_pending : (log : Log) → Legal log → (c : Call) (r : Awaited) → Has c (calls log) → IsReadOf r c
    → Has r (map awaited (pending log))
call_pending log l c r there is = subst (Has r) (pending_is log l) (gives_has read_of c r (calls log) there (is_awaited c r is))

-- the first read's peek was made before the second's
abbrev IsEarlier : Awaited → Awaited → Type 0
IsEarlier first second = first.peek < second.peek

-- a call waits for at most one
one_read : (c : Call) → Pairwise IsEarlier (read_of c)
one_read c =
    cond_both (is_waiting c) (asked_of_peek c.stored.session c.stored.call c.stored.time c.peek) [] (Pairwise IsEarlier)
    (λ _. elim c.peek as (λ peek. Pairwise IsEarlier (asked_of_peek c.stored.session c.stored.call c.stored.time peek)) [
      | None ↦ tt
      | Some peek ↦ (tt, tt)
    ])
    (λ _. tt)

-- so the pending peeks are in order of their numbers, each once
pub pending_rises : (log : Log) → Legal log → Pairwise IsMadeBefore (pending log)
pending_rises log l =
    pairwise_unmap IsMadeBefore IsEarlier awaited (λ first second less. less) (pending log)
    (subst (Pairwise IsEarlier) (pending_is log l)
    (pairwise_flat Precedes IsEarlier read_of one_read
    (λ c d r q before first second. before.peeks r.peek q.peek (read_is c r first).peek (read_is d q second).peek)
    (calls log) (precedes log l)))

-- and among those that were made
pub pending_within : (log : Log) → Legal log → Each (IsMadeWithin (peeks_made log)) (pending log)
pending_within log l =
    each_from _ (pending log)
    (λ waiting there.
    let asked = pending_call log l waiting there in
    each_has _ asked.call (calls log) (peeks_within log l) asked.there waiting.peek asked.is.peek)
