-- Steps one after another, and a change at one time as a step: once for all operators.
use Rattle.std.proofs.Common.{◌≡◌, ℕ, ◌+◌, ◌<◌, ◌≤◌, nat_le, Bool, true, false, ◌+ℤ◌, List, [], ◌++◌, refl, sym, ap, subst, ◌∙◌, append_assoc, arith}
use Rattle.std.proofs.lemmas.Bool.Decides.{nat_tests}
use Rattle.std.proofs.lemmas.List.{append-nil}
use Rattle.mz_bag.specs.Weighted.{Weighted, count}
use Rattle.mz_bag.proofs.BagLaws.{count-append}
use Rattle.mz_plan_laws.specs.Alike.{Alike}
use Rattle.mz_updates.specs.declared.update.Update.{Update}
use Rattle.mz_updates.specs.Contents.{weights, contents, stamped, IsBefore, SameContents}
use Rattle.mz_updates.proofs.ContentsLaws.{weights-append, contents-append, contents-before, contents-from}
use Rattle.mz_ops.specs.Change.{IsChange, ReadsCounts}
use Rattle.mz_ops.specs.Step.{IsStep, StandsBefore}
use Rattle.mz_ops.proofs.TimeLaws.{IsBefore-append, IsBefore-front, IsBefore-later, IsBefore-stamped, IsFrom-stamped, weights-stamped, same_behind, same_weights}

-- what two parts of a list make together
count_both : (q : _) (vs ws xs : Weighted) → Alike vs ws → count q (vs ++ xs) ≡ count q (ws ++ xs)
count_both q vs ws xs h = count-append q vs xs ∙ ap (λ z. z +ℤ count q xs) (h q) ∙ sym (count-append q ws xs)

-- ---- one after another

-- a step with no updates
pub step_none : (meaning : Weighted → Weighted → Weighted) (stands : List Update → List Update → Type 0) → IsStep meaning stands stands [] [] []
step_none meaning stands = record {
  stands = λ us vs h. subst (λ (p : List Update × List Update). stands p.0 p.1) (sym (λ i. (append-nil us i, append-nil vs i))) h;
  gives = λ us vs h t q. (λ i. count q (meaning (contents t (append-nil us i)) (contents t (append-nil vs i))))
      ∙ sym (ap (count q) (append-nil (meaning (contents t us) (contents t vs))));
}

-- two steps are one
pub step_then : (meaning : Weighted → Weighted → Weighted) (before between after : List Update → List Update → Type 0)
    (left right out more others rest : List Update) → IsStep meaning before between left right out → IsStep meaning between after more others rest
    → IsStep meaning before after (left ++ more) (right ++ others) (out ++ rest)
step_then meaning before between after left right out more others rest h k = record {
  stands = λ us vs b. subst (λ (p : List Update × List Update). after p.0 p.1) (λ i. (append_assoc us left more i, append_assoc vs right others i))
      (k.stands (us ++ left) (vs ++ right) (h.stands us vs b));
  gives = λ us vs b t q.
      sym (λ i. count q (meaning (contents t (append_assoc us left more i)) (contents t (append_assoc vs right others i))))
      ∙ k.gives (us ++ left) (vs ++ right) (h.stands us vs b) t q
      ∙ count_both q _ (meaning (contents t us) (contents t vs) ++ contents t out) (contents t rest) (h.gives us vs b t)
      ∙ ap (count q) (append_assoc _ (contents t out) (contents t rest))
      ∙ ap (λ ws. count q (meaning (contents t us) (contents t vs) ++ ws)) (sym (contents-append t out rest));
}

-- what stands before a time stands before a later one
pub step_later : (meaning : Weighted → Weighted → Weighted) (before : List Update → List Update → Type 0) (after : Weighted → Weighted → Type 0)
    (upper later : ℕ) (left right out : List Update) → upper ≤ later → IsStep meaning before (StandsBefore upper after) left right out
    → IsStep meaning before (StandsBefore later after) left right out
step_later meaning before after upper later left right out less h = record {
  stands = λ us vs b. let one = h.stands us vs b in
      record { left = IsBefore-later upper later (us ++ left) less one.left; right = IsBefore-later upper later (vs ++ right) less one.right; stand = one.stand };
  gives = h.gives;
}

-- ---- one time

-- from the time on, a list before it and rows at it contain both
at_on : (t time upper : ℕ) (us : List Update) (ws : Weighted) → IsBefore upper us → upper ≤ time → time ≤ t
    → contents t (us ++ stamped time ws) ≡ weights us ++ ws
at_on t time upper us ws h k l =
    contents-append t us (stamped time ws)
    ∙ (λ i. contents-before t upper us h (omega (arith, k, l)) i
    ++ (contents-before t (time + 1) (stamped time ws) (IsBefore-stamped time (time + 1) ws (omega arith)) (omega (arith, l)) ∙ weights-stamped time ws) i)

-- and before the time, the list alone
at_before : (t time : ℕ) (us : List Update) (ws : Weighted) → t < time → contents t (us ++ stamped time ws) ≡ contents t us
at_before t time us ws h =
    contents-append t us (stamped time ws)
    ∙ ap (λ vs. contents t us ++ vs) (contents-from t time (stamped time ws) (IsFrom-stamped time time ws (omega arith)) h)
    ∙ append-nil (contents t us)

-- rows at a time behind a list before it
all_before : (time upper : ℕ) (us : List Update) (ws : Weighted) → upper ≤ time → IsBefore upper us → IsBefore (time + 1) (us ++ stamped time ws)
all_before time upper us ws h k = IsBefore-append (time + 1) us (stamped time ws) (IsBefore-later upper (time + 1) us (omega (arith, h)) k)
    (IsBefore-stamped time (time + 1) ws (omega arith))

all_weights : (time : ℕ) (us : List Update) (ws : Weighted) → weights (us ++ stamped time ws) ≡ weights us ++ ws
all_weights time us ws = weights-append us (stamped time ws) ∙ ap (λ vs. weights us ++ vs) (weights-stamped time ws)

-- a change at one time is a step
pub step_at : (meaning : Weighted → Weighted → Weighted) (before after : Weighted → Weighted → Type 0) (left right out : Weighted) (upper time : ℕ)
    → IsChange meaning before after left right out → upper ≤ time
    → IsStep meaning (StandsBefore upper before) (StandsBefore (time + 1) after) (stamped time left) (stamped time right) (stamped time out)
step_at meaning before after left right out upper time h k = record {
  stands = λ us vs b. record {
    left = all_before time upper us left k b.left;
    right = all_before time upper vs right k b.right;
    stand = subst (λ (p : Weighted × Weighted). after p.0 p.1) (sym (λ i. (all_weights time us left i, all_weights time vs right i)))
        (h.stands (weights us) (weights vs) b.stand);
  };
  gives = λ us vs b t. by us vs b t (nat_le time t) refl;
}
  where
    by : (us vs : List Update) → StandsBefore upper before us vs → (t : ℕ) (c : Bool) → nat_le time t ≡ c
        → Alike (meaning (contents t (us ++ stamped time left)) (contents t (vs ++ stamped time right)))
        (meaning (contents t us) (contents t vs) ++ contents t (stamped time out))
    by us vs b t true e q =
        let from : time ≤ t = grind (arith, nat_tests) in
        let within : upper ≤ t + 1 = omega (arith, k, from) in
        (λ i. count q (meaning (at_on t time upper us left b.left k from i) (at_on t time upper vs right b.right k from i)))
        ∙ h.gives (weights us) (weights vs) b.stand q
        ∙ sym (λ i. count q (meaning (contents-before t upper us b.left within i) (contents-before t upper vs b.right within i)
        ++ (contents-before t (time + 1) (stamped time out) (IsBefore-stamped time (time + 1) out (omega arith)) (omega (arith, from)) ∙ weights-stamped time out) i))
    by us vs b t false e q =
        let below : t < time = grind (arith, nat_tests) in
        (λ i. count q (meaning (at_before t time us left below i) (at_before t time vs right below i)))
        ∙ sym (ap (count q) (ap (λ ws. meaning (contents t us) (contents t vs) ++ ws)
        (contents-from t time (stamped time out) (IsFrom-stamped time time out (omega arith)) below)
        ∙ append-nil (meaning (contents t us) (contents t vs))))

-- ---- lists that contain the same

-- may stand for the sides
pub step_same : (meaning : Weighted → Weighted → Weighted) (before : List Update → List Update → Type 0) (after : Weighted → Weighted → Type 0) (upper : ℕ)
    (left right out others more : List Update) → ReadsCounts meaning after
    → SameContents left others → SameContents right more → IsBefore upper others → IsBefore upper more
    → IsStep meaning before (StandsBefore upper after) left right out → IsStep meaning before (StandsBefore upper after) others more out
step_same meaning before after upper left right out others more reads h k below under step = record {
  stands = λ us vs b.
      let one : StandsBefore upper after (us ++ left) (vs ++ right) = step.stands us vs b in
      let first : IsBefore upper (us ++ others) = IsBefore-append upper us others (IsBefore-front upper us left one.left) below in
      let second : IsBefore upper (vs ++ more) = IsBefore-append upper vs more (IsBefore-front upper vs right one.right) under in
      record {
        left = first;
        right = second;
        stand = reads.keeps (weights (us ++ left)) (weights (vs ++ right)) (weights (us ++ others)) (weights (vs ++ more))
            (same_weights upper (us ++ left) (us ++ others) (same_behind us left others h) one.left first)
            (same_weights upper (vs ++ right) (vs ++ more) (same_behind vs right more k) one.right second) one.stand;
      };
  gives = λ us vs b t q.
      sym (reads.gives _ _ _ _ ((same_behind us left others h).counts t) ((same_behind vs right more k).counts t) q) ∙ step.gives us vs b t q;
}

-- and for the output
pub step_out : (meaning : Weighted → Weighted → Weighted) (before after : List Update → List Update → Type 0) (left right out others : List Update)
    → SameContents others out → IsStep meaning before after left right out → IsStep meaning before after left right others
step_out meaning before after left right out others same h = record {
  stands = h.stands;
  gives = λ us vs b t q. h.gives us vs b t q ∙ count-append q (meaning (contents t us) (contents t vs)) (contents t out)
      ∙ ap (λ z. count q (meaning (contents t us) (contents t vs)) +ℤ z) (sym (same.counts t q))
      ∙ sym (count-append q (meaning (contents t us) (contents t vs)) (contents t others));
}
