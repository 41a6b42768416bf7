-- Runs over queues of updates, at one time after another: how far they have come.
use Rattle.std.proofs.Common.{◌≡◌, ℕ, ◌+◌, ◌<◌, ◌≤◌, ◌==◌, nat_le, Bool, true, false, cond, List, [], ◌∷◌, ◌++◌, length, Option, None, Some, refl, sym, ap, ◌∙◌, subst, true≢false, arith}
use Rattle.std.proofs.lemmas.Bool.Decides.{nat_tests}
use Rattle.std.proofs.lemmas.List.{length-append}
use Rattle.std.specs.List.{AllByRecursion as Each}
use Rattle.mz_bag.specs.Weighted.{Weighted}
use Rattle.mz_updates.specs.declared.update.Update.{Update}
use Rattle.mz_updates.specs.Consolidated.{IsConsolidated}
use Rattle.mz_updates.specs.Contents.{stamped, IsFrom}
use Rattle.mz_ops.specs.Moments.{begins_at, IsRun as IsRunAt}
use Rattle.mz_ops.specs.Stepping.{IsToCome}
use Rattle.mz_ops.proofs.TimeLaws.{IsBefore-later}
use Rattle.mz_dataflow.specs.Flown.{HasFlown, IsReady}
use Rattle.mz_dataflow.specs.Queues.{begins, next_time, sooner, updates_of, AreTaken, AreToCome}
use Rattle.mz_dataflow.specs.Run.{changes_of, AreOnce, CanRun, IsRunTo}
use Rattle.mz_dataflow.specs.declared.node.Node.{Node}
use Rattle.mz_dataflow.proofs.FlowSteps.{flow_begun, flow_done, flow_next, next_can, IsFlowing}
use Rattle.mz_dataflow.proofs.NextTime.{next_from, next_none, next_within, none_once, time_of, IsNoLater}
use Rattle.mz_dataflow.proofs.QueueLaws.{each_leaf, taken_each, taken_once, taken_rest}

-- ---- how much is left

-- how many updates are left
abbrev pub left_over : List (ℕ × List Update) → ℕ
left_over [] = 0
left_over (q ∷ qs) = length q.1 + left_over qs

-- what was taken makes a list no longer
run_length : (time : ℕ) (before after : List Update) (rows : Weighted) → IsRunAt time before rows after → length (stamped time rows) + length after ≡ length before
run_length time before after rows h = sym (length-append (stamped time rows) after) ∙ ap length h.whole

-- and shorter where it begins at the time
run_begun : (time : ℕ) (u : Update) (before after : List Update) (rows : Weighted) → IsRunAt time (u ∷ before) rows after → u.time ≡ time
    → length after < length (u ∷ before)
run_begun time u before after [] h is =
    let begins : (u.time == time) ≡ true = grind (arith, nat_tests, is) in
    absurd (true≢false (sym begins ∙ ap (begins_at time) (sym h.whole) ∙ h.ended))
run_begun time u before after (w ∷ ws) h is = omega (arith, run_length time (u ∷ before) after (w ∷ ws) h)

-- all lists are no longer
taken_length : (time : ℕ) (qs : List (ℕ × List Update)) (cs : List (ℕ × Weighted)) (rs : List (ℕ × List Update)) → AreTaken time qs cs rs
    → left_over rs ≤ left_over qs
taken_length time [] [] [] h = omega arith
taken_length time (q ∷ qs) (c ∷ cs) (r ∷ rs) h = omega (arith, run_length time q.1 r.1 c.1 h.0.run, taken_length time qs cs rs h.1)
taken_length time [] [] (r ∷ rs) h = absurd h
taken_length time [] (c ∷ cs) rs h = absurd h
taken_length time (q ∷ qs) [] rs h = absurd h
taken_length time (q ∷ qs) (c ∷ cs) [] h = absurd h

-- and at the first time an update is taken
pub taken_some : (time : ℕ) (qs : List (ℕ × List Update)) (cs : List (ℕ × Weighted)) (rs : List (ℕ × List Update)) → next_time qs ≡ Some time
    → AreTaken time qs cs rs → left_over rs < left_over qs
taken_some time [] cs rs is h = absurd cc
taken_some time (q ∷ qs) (c ∷ cs) (r ∷ rs) is h = by q.1 (next_time qs) refl refl is (λ k. taken_some time qs cs rs k h.1)
  where
    shorter_rest : left_over rs < left_over qs → length r.1 + left_over rs < length q.1 + left_over qs
    shorter_rest k = omega (arith, run_length time q.1 r.1 c.1 h.0.run, k)

    here : (u : Update) (us : List Update) → q.1 ≡ u ∷ us → u.time ≡ time → length r.1 + left_over rs < length q.1 + left_over qs
    here u us e k =
        let shorter : length r.1 < length (u ∷ us) = run_begun time u us r.1 c.1 (subst (λ vs. IsRunAt time vs c.1 r.1) e h.0.run) k in
        omega (arith, shorter, ap length e, taken_length time qs cs rs h.1)

    both : (u : Update) (us : List Update) (t : ℕ) (b : Bool) → q.1 ≡ u ∷ us → next_time qs ≡ Some t → cond b u.time t ≡ time
        → (next_time qs ≡ Some time → left_over rs < left_over qs) → length r.1 + left_over rs < length q.1 + left_over qs
    both u us t true e f same rest = here u us e same
    both u us t false e f same rest = shorter_rest (rest (f ∙ ap Some same))

    by : (us : List Update) (o : Option ℕ) → q.1 ≡ us → next_time qs ≡ o → sooner (begins us) o ≡ Some time
        → (next_time qs ≡ Some time → left_over rs < left_over qs) → length r.1 + left_over rs < length q.1 + left_over qs
    by [] o e f k rest = shorter_rest (rest (f ∙ k))
    by (u ∷ us) None e f k rest = here u us e (ap time_of k)
    by (u ∷ us) (Some t) e f k rest = both u us t (nat_le u.time t) e f (ap time_of k) rest
taken_some time (q ∷ qs) [] rs is h = absurd h
taken_some time (q ∷ qs) (c ∷ cs) [] is h = absurd h

-- ---- the loop

-- some times were run, and what is left is to come
pub record IsUnderway (lower upper : ℕ) (old now : List Node) (queues rest : List (ℕ × List Update)) (out : List Update) : Type 0 where
  pub flow : IsFlowing lower upper old now (updates_of queues) (updates_of rest) out
  pub coming : AreToCome flow.at upper rest

none_coming : (lower upper : ℕ) → IsToCome lower upper []
none_coming lower upper = record { from = record { each = tt }; before = record { each = tt }; once = none_once }

leaf_coming : (lower upper : ℕ) (qs : List (ℕ × List Update)) → AreToCome lower upper qs → (item : ℕ) → IsToCome lower upper (updates_of qs item)
leaf_coming lower upper qs h = each_leaf (IsToCome lower upper) qs (none_coming lower upper) h

-- at first nothing was run
pub way_first : (lower upper : ℕ) (nodes : List Node) (queues : List (ℕ × List Update)) (out : List Update) → out ≡ [] → IsReady lower upper nodes queues
    → IsUnderway lower upper nodes nodes queues queues out
unfolding flow_begun
way_first lower upper nodes queues out none h =
    subst (λ (us : List Update). IsUnderway lower upper nodes nodes queues queues us) (sym none)
    (record {
      flow = flow_begun lower upper nodes (updates_of queues) h.later h.bears
          (λ item. IsToCome.from (leaf_coming lower upper queues h.coming item))
          (λ item. IsToCome.before (leaf_coming lower upper queues h.coming item))
          (λ item. IsToCome.once (leaf_coming lower upper queues h.coming item));
      coming = h.coming;
    })

-- at the next time what changes has each row once
pub way_once : (lower upper : ℕ) (old now : List Node) (queues rest after : List (ℕ × List Update)) (out : List Update) (time : ℕ) (cs : List (ℕ × Weighted))
    → IsUnderway lower upper old now queues rest out → AreTaken time rest cs after → AreOnce cs
way_once lower upper old now queues rest after out time cs h taken = record { each = taken_once h.flow.at upper time rest cs after h.coming taken }

each_once : (lower upper : ℕ) (qs : List (ℕ × List Update)) → AreToCome lower upper qs → Each (λ q. IsConsolidated q.1) qs
each_once lower upper [] h = tt
each_once lower upper (q ∷ qs) h = (h.0.once, each_once lower upper qs h.1)

-- no update is earlier
each_from : (at upper : ℕ) (rest : List (ℕ × List Update)) (time : ℕ) → AreToCome at upper rest → next_time rest ≡ Some time → Each (λ q. IsFrom time q.1) rest
each_from at upper rest time h is = next_from rest time (each_once at upper rest h) (subst (IsNoLater time) (sym is) (omega arith))

leaf_from : (at upper : ℕ) (rest : List (ℕ × List Update)) (time : ℕ) → AreToCome at upper rest → next_time rest ≡ Some time
    → (item : ℕ) → IsFrom time (updates_of rest item)
leaf_from at upper rest time h is = each_leaf (IsFrom time) rest (record { each = tt }) (each_from at upper rest time h is)

-- the run is within the bound
pub way_can : (lower upper : ℕ) (old now : List Node) (queues rest after : List (ℕ × List Update)) (out : List Update) (time : ℕ) (cs : List (ℕ × Weighted))
    → IsUnderway lower upper old now queues rest out → next_time rest ≡ Some time → AreTaken time rest cs after → CanRun (changes_of cs) now
way_can lower upper old now queues rest after out time cs h is taken =
    let within = next_within h.flow.at upper rest time h.coming is in
    next_can lower upper old now (updates_of queues) (updates_of rest) (updates_of after) out time (changes_of cs) h.flow within.0 within.1
    (leaf_from h.flow.at upper rest time h.coming is) (taken_each time rest cs after taken)

-- and after it the time was run too
pub way_next : (lower upper : ℕ) (old now new : List Node) (queues rest after : List (ℕ × List Update)) (out : List Update) (time : ℕ)
    (cs : List (ℕ × Weighted)) (rows : Weighted) → IsUnderway lower upper old now queues rest out → next_time rest ≡ Some time
    → AreTaken time rest cs after → IsRunTo (changes_of cs) now new rows → IsUnderway lower upper old new queues after (out ++ stamped time rows)
unfolding flow_next
way_next lower upper old now new queues rest after out time cs rows h is taken run =
    let within = next_within h.flow.at upper rest time h.coming is in
    record {
      flow = flow_next lower upper old now new (updates_of queues) (updates_of rest) (updates_of after) out time (changes_of cs) rows h.flow within.0 within.1
          (leaf_from h.flow.at upper rest time h.coming is) (taken_each time rest cs after taken) run;
      coming = taken_rest h.flow.at upper time rest cs after h.coming within.0 (each_from h.flow.at upper rest time h.coming is) taken;
    }

-- what is no time is none
pub no_time : (found : Option ℕ) → ((time : ℕ) → found ≡ Some time → ⊥) → found ≡ None
no_time None h = refl
no_time (Some time) h = absurd (h time refl)

-- till nothing is left
pub way_last : (lower upper : ℕ) (old now : List Node) (queues rest : List (ℕ × List Update)) (out : List Update)
    → IsUnderway lower upper old now queues rest out → next_time rest ≡ None → HasFlown lower upper old now (updates_of queues) out
way_last lower upper old now queues rest out h none = record {
  law = flow_done lower upper old now (updates_of queues) (updates_of rest) out h.flow (each_leaf (λ us. us ≡ []) rest refl (next_none rest none));
  same = h.flow.same;
  loads = h.flow.loads;
  from = h.flow.from;
  until = IsBefore-later h.flow.at upper out h.flow.high h.flow.until;
}
