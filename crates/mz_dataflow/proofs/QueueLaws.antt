-- Updates of leaves in order of time, taken one time after another.
use Rattle.std.proofs.Common.{◌≡◌, ℕ, ◌+◌, ◌≤◌, ◌==◌, Bool, true, false, cond, List, [], ◌∷◌, refl, sym, ap, ◌∙◌, subst}
use Rattle.std.specs.List.{AllByRecursion as Each}
use Rattle.mz_bag.specs.Weighted.{Weighted}
use Rattle.mz_updates.specs.declared.update.Update.{Update}
use Rattle.mz_updates.specs.Contents.{IsFrom}
use Rattle.mz_ops.specs.Moments.{IsRun}
use Rattle.mz_ops.specs.Stepping.{IsToCome}
use Rattle.mz_ops.proofs.Runs.{come_on, run_once, HasCome}
use Rattle.mz_dataflow.specs.Queues.{updates_of, AreTaken, AreToCome}
use Rattle.mz_dataflow.specs.Run.{changes_of, IsOnce}

-- what was taken is a run of each leaf's updates
pub taken_each : (time : ℕ) (qs : List (ℕ × List Update)) (cs : List (ℕ × Weighted)) (rs : List (ℕ × List Update)) → AreTaken time qs cs rs
    → (item : ℕ) → IsRun time (updates_of qs item) (changes_of cs item) (updates_of rs item)
taken_each time [] [] [] h item = record { whole = refl; ended = refl }
taken_each time (q ∷ qs) (c ∷ cs) (r ∷ rs) h item = by (q.0 == item) refl (taken_each time qs cs rs h.1 item)
  where
    by : (b : Bool) → (q.0 == item) ≡ b → IsRun time (updates_of qs item) (changes_of cs item) (updates_of rs item)
        → IsRun time (cond b q.1 (updates_of qs item)) (cond (c.0 == item) c.1 (changes_of cs item)) (cond (r.0 == item) r.1 (updates_of rs item))
    by true e k = subst (λ (p : Bool × Bool). IsRun time q.1 (cond p.0 c.1 (changes_of cs item)) (cond p.1 r.1 (updates_of rs item)))
        (sym (λ i. ((ap (λ n. n == item) h.0.number ∙ e) i, (ap (λ n. n == item) h.0.same ∙ e) i))) h.0.run
    by false e k = subst (λ (p : Bool × Bool). IsRun time (updates_of qs item) (cond p.0 c.1 (changes_of cs item)) (cond p.1 r.1 (updates_of rs item)))
        (sym (λ i. ((ap (λ n. n == item) h.0.number ∙ e) i, (ap (λ n. n == item) h.0.same ∙ e) i))) k
taken_each time [] [] (r ∷ rs) h item = absurd h
taken_each time [] (c ∷ cs) rs h item = absurd h
taken_each time (q ∷ qs) [] rs h item = absurd h
taken_each time (q ∷ qs) (c ∷ cs) [] h item = absurd h

-- lists that are to come from a time on have come to it
pub come_of : (lower upper : ℕ) (us : List Update) → IsToCome lower upper us → HasCome us us lower upper
come_of lower upper us h = record { done = []; whole = refl; past = record { each = tt }; coming = h.from; until = h.before; order = h.once }

-- what is taken from them has each row once
pub taken_once : (lower upper time : ℕ) (qs : List (ℕ × List Update)) (cs : List (ℕ × Weighted)) (rs : List (ℕ × List Update)) → AreToCome lower upper qs
    → AreTaken time qs cs rs → Each (λ c. IsOnce c.1) cs
taken_once lower upper time [] [] [] h k = tt
taken_once lower upper time (q ∷ qs) (c ∷ cs) (r ∷ rs) h k =
    (run_once q.1 q.1 r.1 c.1 lower upper time (come_of lower upper q.1 h.0) k.0.run, taken_once lower upper time qs cs rs h.1 k.1)
taken_once lower upper time [] [] (r ∷ rs) h k = absurd k
taken_once lower upper time [] (c ∷ cs) rs h k = absurd k
taken_once lower upper time (q ∷ qs) [] rs h k = absurd k
taken_once lower upper time (q ∷ qs) (c ∷ cs) [] h k = absurd k

-- and what is left is to come after it
pub taken_rest : (lower upper time : ℕ) (qs : List (ℕ × List Update)) (cs : List (ℕ × Weighted)) (rs : List (ℕ × List Update)) → AreToCome lower upper qs
    → lower ≤ time → Each (λ q. IsFrom time q.1) qs → AreTaken time qs cs rs → AreToCome (time + 1) upper rs
unfolding come_on
taken_rest lower upper time [] [] [] h later from k = tt
taken_rest lower upper time (q ∷ qs) (c ∷ cs) (r ∷ rs) h later from k =
    let on = come_on q.1 q.1 r.1 c.1 lower upper time (come_of lower upper q.1 h.0) k.0.run later from.0 in
    (record { from = HasCome.coming on; before = HasCome.until on; once = HasCome.order on }, taken_rest lower upper time qs cs rs h.1 later from.1 k.1)
taken_rest lower upper time [] [] (r ∷ rs) h later from k = absurd k
taken_rest lower upper time [] (c ∷ cs) rs h later from k = absurd k
taken_rest lower upper time (q ∷ qs) [] rs h later from k = absurd k
taken_rest lower upper time (q ∷ qs) (c ∷ cs) [] h later from k = absurd k

-- what holds of each list, and of no updates, holds of each leaf's
pub each_leaf : (P : List Update → Type 0) (qs : List (ℕ × List Update)) → P [] → Each (λ q. P q.1) qs → (item : ℕ) → P (updates_of qs item)
each_leaf P [] none h item = none
each_leaf P (q ∷ qs) none h item = by (q.0 == item) (each_leaf P qs none h.1 item)
  where
    by : (b : Bool) → P (updates_of qs item) → P (cond b q.1 (updates_of qs item))
    by true k = h.0
    by false k = k
