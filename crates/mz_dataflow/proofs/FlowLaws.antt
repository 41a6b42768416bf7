-- Runs at one time after another: a change at a time as a step, and steps one after another.
use Rattle.std.proofs.Common.{◌≡◌, ℕ, ◌+◌, ◌<◌, ◌≤◌, nat_le, Bool, true, false, ◌+ℤ◌, List, [], ◌++◌, refl, sym, ap, ◌∙◌, subst, append_assoc, arith}
use Rattle.std.proofs.lemmas.Bool.Decides.{nat_tests}
use Rattle.std.proofs.lemmas.List.{append-nil}
use Rattle.mz_bag.specs.Weighted.{Weighted, count}
use Rattle.mz_bag.proofs.BagLaws.{count-append}
use Rattle.mz_plan.specs.Meaning.{Leaves}
use Rattle.mz_plan_laws.specs.Alike.{Alike}
use Rattle.mz_updates.specs.declared.update.Update.{Update}
use Rattle.mz_updates.specs.Contents.{contents, stamped, weights, IsBefore, SameContents}
use Rattle.mz_updates.proofs.ContentsLaws.{weights-append, contents-append, contents-before, contents-from}
use Rattle.mz_ops.proofs.TimeLaws.{IsBefore-append, IsBefore-front, IsBefore-later, IsBefore-stamped, IsFrom-stamped, weights-stamped, same_behind, same_weights}
use Rattle.mz_dataflow.specs.Flow.{contents_of, longer, stamped_leaves, weights_of, IsFlowStep, LeafUpdates, ReadsLeaves, StandsBefore}
use Rattle.mz_dataflow.specs.Run.{IsChangeOf}

-- ---- one time

-- from the time on, a list before it and rows at it contain both
pub at_on : (t time upper : ℕ) (us : List Update) (ws : Weighted) → IsBefore upper us → upper ≤ time → time ≤ t
    → contents t (us ++ stamped time ws) ≡ weights us ++ ws
at_on t time upper us ws h k l =
    contents-append t us (stamped time ws)
    ∙ (λ i. contents-before t upper us h (omega (arith, k, l)) i
    ++ (contents-before t (time + 1) (stamped time ws) (IsBefore-stamped time (time + 1) ws (omega arith)) (omega (arith, l)) ∙ weights-stamped time ws) i)

-- and before the time, the list alone
at_before : (t time : ℕ) (us : List Update) (ws : Weighted) → t < time → contents t (us ++ stamped time ws) ≡ contents t us
at_before t time us ws h =
    contents-append t us (stamped time ws)
    ∙ ap (λ vs. contents t us ++ vs) (contents-from t time (stamped time ws) (IsFrom-stamped time time ws (omega arith)) h)
    ∙ append-nil (contents t us)

-- a change at one time is a step
pub flow_at : (made : Leaves → Weighted) (before after : Leaves → Type 0) (changes : Leaves) (out : Weighted) (upper time : ℕ)
    → IsChangeOf made before after changes out → upper ≤ time
    → IsFlowStep made (StandsBefore upper before) (StandsBefore (time + 1) after) (stamped_leaves time changes) (stamped time out)
flow_at made before after changes out upper time h k = record {
  stands = λ us b. record {
    early = λ item. IsBefore-append (time + 1) (us item) (stamped time (changes item))
        (IsBefore-later upper (time + 1) (us item) (omega (arith, k)) (b.early item)) (IsBefore-stamped time (time + 1) (changes item) (omega arith));
    rows = h.stands (weights_of us) (weights_of (longer us (stamped_leaves time changes)))
        (λ item q. ap (count q) (weights-append (us item) (stamped time (changes item))
        ∙ ap (λ vs. weights (us item) ++ vs) (weights-stamped time (changes item)))) b.rows;
  };
  gives = λ us b t. by us b t (nat_le time t) refl;
}
  where
    by : (us : LeafUpdates) → StandsBefore upper before us → (t : ℕ) (c : Bool) → nat_le time t ≡ c
        → Alike (made (contents_of t (longer us (stamped_leaves time changes)))) (made (contents_of t us) ++ contents t (stamped time out))
    by us b t true e q =
        let from : time ≤ t = grind (arith, nat_tests) in
        let within : upper ≤ t + 1 = omega (arith, k, from) in
        h.gives (weights_of us) (contents_of t (longer us (stamped_leaves time changes)))
        (λ item p. ap (count p) (at_on t time upper (us item) (changes item) (b.early item) k from)) b.rows q
        ∙ sym (λ i. count q (made (λ item. contents-before t upper (us item) (b.early item) within i)
        ++ (contents-before t (time + 1) (stamped time out) (IsBefore-stamped time (time + 1) out (omega arith)) (omega (arith, from)) ∙ weights-stamped time out) i))
    by us b t false e q =
        let below : t < time = grind (arith, nat_tests) in
        (λ i. count q (made (λ item. at_before t time (us item) (changes item) below i)))
        ∙ sym (ap (count q) (ap (λ ws. made (contents_of t us) ++ ws)
        (contents-from t time (stamped time out) (IsFrom-stamped time time out (omega arith)) below)
        ∙ append-nil (made (contents_of t us))))

-- ---- one after another

-- a step with no updates
pub flow_none : (made : Leaves → Weighted) (stands : LeafUpdates → Type 0) → IsFlowStep made stands stands (λ item. []) []
flow_none made stands = record {
  stands = λ us h. subst stands (sym (λ i item. append-nil (us item) i)) h;
  gives = λ us h t q. (λ i. count q (made (λ item. contents t (append-nil (us item) i)))) ∙ sym (ap (count q) (append-nil (made (contents_of t us))));
}

-- two steps are one
pub flow_then : (made : Leaves → Weighted) (before between after : LeafUpdates → Type 0) (given more : LeafUpdates) (out rest : List Update)
    → IsFlowStep made before between given out → IsFlowStep made between after more rest
    → IsFlowStep made before after (longer given more) (out ++ rest)
flow_then made before between after given more out rest h k = record {
  stands = λ us b. subst after (λ i item. append_assoc (us item) (given item) (more item) i) (k.stands (longer us given) (h.stands us b));
  gives = λ us b t q.
      sym (λ i. count q (made (λ item. contents t (append_assoc (us item) (given item) (more item) i))))
      ∙ k.gives (longer us given) (h.stands us b) t q
      ∙ count-append q (made (contents_of t (longer us given))) (contents t rest)
      ∙ ap (λ z. z +ℤ count q (contents t rest)) (h.gives us b t q)
      ∙ sym (count-append q (made (contents_of t us) ++ contents t out) (contents t rest))
      ∙ ap (count q) (append_assoc (made (contents_of t us)) (contents t out) (contents t rest))
      ∙ ap (λ ws. count q (made (contents_of t us) ++ ws)) (sym (contents-append t out rest));
}

-- what stands before a time stands before a later one
pub flow_later : (made : Leaves → Weighted) (before : LeafUpdates → Type 0) (stand : Leaves → Type 0) (upper later : ℕ) (given : LeafUpdates) (out : List Update)
    → upper ≤ later → IsFlowStep made before (StandsBefore upper stand) given out → IsFlowStep made before (StandsBefore later stand) given out
flow_later made before stand upper later given out less h = record {
  stands = λ us b. let one = h.stands us b in
      record { early = λ item. IsBefore-later upper later (us item ++ given item) less (one.early item); rows = one.rows };
  gives = h.gives;
}

-- ---- lists that contain the same

-- may stand for the leaves' updates
pub flow_same : (made : Leaves → Weighted) (before : LeafUpdates → Type 0) (stand : Leaves → Type 0) (upper : ℕ) (given others : LeafUpdates) (out : List Update)
    → ReadsLeaves made stand → ((item : ℕ) → SameContents (given item) (others item)) → ((item : ℕ) → IsBefore upper (others item))
    → IsFlowStep made before (StandsBefore upper stand) given out → IsFlowStep made before (StandsBefore upper stand) others out
flow_same made before stand upper given others out reads same below h = record {
  stands = λ us b.
      let one : StandsBefore upper stand (longer us given) = h.stands us b in
      let early : (item : ℕ) → IsBefore upper (us item ++ others item) =
      λ item. IsBefore-append upper (us item) (others item) (IsBefore-front upper (us item) (given item) (one.early item)) (below item) in
      record {
        early = early;
        rows = reads.keeps (weights_of (longer us given)) (weights_of (longer us others))
            (λ item. same_weights upper (us item ++ given item) (us item ++ others item)
            (same_behind (us item) (given item) (others item) (same item)) (one.early item) (early item)) one.rows;
      };
  gives = λ us b t q.
      sym (reads.gives (contents_of t (longer us given)) (contents_of t (longer us others))
      (λ item. (same_behind (us item) (given item) (others item) (same item)).counts t) q)
      ∙ h.gives us b t q;
}

-- and for the output
pub flow_out : (made : Leaves → Weighted) (before after : LeafUpdates → Type 0) (given : LeafUpdates) (out others : List Update)
    → SameContents others out → IsFlowStep made before after given out → IsFlowStep made before after given others
flow_out made before after given out others same h = record {
  stands = h.stands;
  gives = λ us b t q. h.gives us b t q ∙ count-append q (made (contents_of t us)) (contents t out)
      ∙ ap (λ z. count q (made (contents_of t us)) +ℤ z) (sym (same.counts t q))
      ∙ sym (count-append q (made (contents_of t us)) (contents t others));
}
