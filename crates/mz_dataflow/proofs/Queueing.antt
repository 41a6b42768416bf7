-- Offers of leaves, each list put in order of time.
use Rattle.std.proofs.Common.{◌≡◌, ℕ, ◌==◌, Bool, true, false, cond, List, [], ◌∷◌, ◌++◌, map, refl, sym, ap, ◌∙◌, subst, append_assoc, arith}
use Rattle.std.proofs.lemmas.Bool.Decides.{nat_tests}
use Rattle.std.proofs.lemmas.List.{append-nil, map_push}
use Rattle.std.specs.List.{AllByRecursion as Each}
use Rattle.mz_updates.specs.declared.update.Update.{Update}
use Rattle.mz_dataflow.specs.Queues.{updates_of, AreListedOnce, AreQueued, IsInQueue}
use Rattle.mz_dataflow.proofs.NextTime.{none_once}

-- ---- one list after another

-- one list more
queued_more : (qs rs : List (ℕ × List Update)) (q r : ℕ × List Update) → AreQueued qs rs → r.0 ≡ q.0 → IsInQueue q.1 r.1
    → AreQueued (qs ++ q ∷ []) (rs ++ r ∷ [])
queued_more [] [] q r h same k = (same, k, tt)
queued_more (p ∷ qs) (s ∷ rs) q r h same k = (h.0, h.1, queued_more qs rs q r h.2 same k)
queued_more [] (s ∷ rs) q r h same k = absurd h
queued_more (p ∷ qs) [] q r h same k = absurd h

-- some of the lists are in queues, and these are left
pub record IsQueueing (all rest queues : List (ℕ × List Update)) : Type 0 where
  pub done : List (ℕ × List Update)
  pub whole : done ++ rest ≡ all
  pub are : AreQueued done queues

-- at first all are left
pub queueing_first : (all rest queues : List (ℕ × List Update)) → queues ≡ [] → rest ≡ all → IsQueueing all rest queues
queueing_first all rest queues none same =
    subst (λ (rs : List (ℕ × List Update)). IsQueueing all rest rs) (sym none) (record { done = []; whole = same; are = tt })

each_rest : (P : ℕ × List Update → Type 0) (done rest : List (ℕ × List Update)) → Each P (done ++ rest) → Each P rest
each_rest P [] rest h = h
each_rest P (q ∷ done) rest h = each_rest P done rest h.1

-- what holds of all holds of the next one
pub queueing_now : (P : ℕ × List Update → Type 0) (all left rest queues : List (ℕ × List Update)) (q : ℕ × List Update) → Each P all
    → left ≡ q ∷ rest → IsQueueing all left queues → P q
queueing_now P all left rest queues q each step h =
    (each_rest P h.done (q ∷ rest) (subst (Each P) (sym (ap (λ rs. h.done ++ rs) (sym step) ∙ h.whole)) each)).0

-- which is put in a queue too
pub queueing_on : (all rest queues : List (ℕ × List Update)) (q r : ℕ × List Update) → IsQueueing all (q ∷ rest) queues → r.0 ≡ q.0
    → IsInQueue q.1 r.1 → IsQueueing all rest (queues ++ r ∷ [])
queueing_on all rest queues q r h same k = record {
  done = h.done ++ q ∷ [];
  whole = append_assoc h.done (q ∷ []) rest ∙ h.whole;
  are = queued_more h.done queues q r h.are same k;
}

-- as it is pushed behind the others
pub queueing_push : {A : Type 0} (f : A → ℕ × List Update) (all left rest : List (ℕ × List Update)) (queues : List A) (q : ℕ × List Update) (a : A)
    → left ≡ q ∷ rest → IsQueueing all left (map f queues) → (f a).0 ≡ q.0 → IsInQueue q.1 (f a).1
    → IsQueueing all rest (map f (queues ++ a ∷ []))
queueing_push {A} f all left rest queues q a step h same k =
    subst (λ (qs : List (ℕ × List Update)). IsQueueing all rest qs) (sym (map_push f queues a))
    (queueing_on all rest (map f queues) q (f a)
    (subst (λ (rs : List (ℕ × List Update)). IsQueueing all rs (map f queues)) step h) same k)

-- till none is left
pub queueing_last : (all rest queues : List (ℕ × List Update)) → rest ≡ [] → IsQueueing all rest queues → AreQueued all queues
queueing_last all rest queues none h =
    subst (λ (qs : List (ℕ × List Update)). AreQueued qs queues) (sym (append-nil h.done) ∙ ap (λ qs. h.done ++ qs) (sym none) ∙ h.whole) h.are

-- ---- leaf by leaf

none_queued : IsInQueue [] []
none_queued = record { contents = record { counts = λ t row. refl }; once = none_once; from = λ lower h. h; before = λ upper h. h }

-- each leaf's updates are in a queue
pub queued_each : (qs rs : List (ℕ × List Update)) → AreQueued qs rs → (item : ℕ) → IsInQueue (updates_of qs item) (updates_of rs item)
queued_each [] [] h item = none_queued
queued_each (q ∷ qs) (r ∷ rs) h item = by (q.0 == item) refl (queued_each qs rs h.2 item)
  where
    by : (b : Bool) → (q.0 == item) ≡ b → IsInQueue (updates_of qs item) (updates_of rs item)
        → IsInQueue (cond b q.1 (updates_of qs item)) (cond (r.0 == item) r.1 (updates_of rs item))
    by true e k = subst (λ c. IsInQueue q.1 (cond c r.1 (updates_of rs item))) (sym (ap (λ n. n == item) h.0 ∙ e)) h.1
    by false e k = subst (λ c. IsInQueue (updates_of qs item) (cond c r.1 (updates_of rs item))) (sym (ap (λ n. n == item) h.0 ∙ e)) k
queued_each [] (r ∷ rs) h item = absurd h
queued_each (q ∷ qs) [] h item = absurd h

-- what holds of each list, one after another, holds of what is in its queue
pub queued_all : (P Q : List Update → Type 0) (qs rs : List (ℕ × List Update)) → ((us vs : List Update) → IsInQueue us vs → P us → Q vs) → AreQueued qs rs
    → Each (λ q. P q.1) qs → Each (λ r. Q r.1) rs
queued_all P Q [] [] turn h each = tt
queued_all P Q (q ∷ qs) (r ∷ rs) turn h each = (turn q.1 r.1 h.1 each.0, queued_all P Q qs rs turn h.2 each.1)
queued_all P Q [] (r ∷ rs) turn h each = absurd h
queued_all P Q (q ∷ qs) [] turn h each = absurd h

-- a leaf that isn't listed has no updates
none_of : (qs : List (ℕ × List Update)) (item : ℕ) → Each (λ r. (r.0 == item) ≡ false) qs → updates_of qs item ≡ []
none_of [] item h = refl
none_of (q ∷ qs) item h = ap (λ c. cond c q.1 (updates_of qs item)) h.0 ∙ none_of qs item h.1

-- where no leaf is listed twice, what holds of each leaf's updates holds of each list
pub listed_each : (P : List Update → Type 0) (qs : List (ℕ × List Update)) → P [] → AreListedOnce qs → ((item : ℕ) → P (updates_of qs item))
    → Each (λ q. P q.1) qs
listed_each P [] none once h = tt
listed_each P (q ∷ qs) none once h = (
  subst (λ c. P (cond c q.1 (updates_of qs q.0))) (itself q.0) (h q.0),
  listed_each P qs none once.1 (λ item. by item (q.0 == item) refl (h item)),
)
  where
    itself : (n : ℕ) → (n == n) ≡ true
    itself n = grind (arith, nat_tests)

    by : (item : ℕ) (c : Bool) → (q.0 == item) ≡ c → P (cond c q.1 (updates_of qs item)) → P (updates_of qs item)
    by item true e k =
        let same : q.0 ≡ item = grind (arith, nat_tests) in
        subst P (sym (ap (updates_of qs) (sym same) ∙ none_of qs q.0 once.0)) none
    by item false e k = k
