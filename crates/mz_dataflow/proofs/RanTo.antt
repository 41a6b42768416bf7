-- A run of a dataflow: what it asks of its parts, and what it makes of them.
use Rattle.std.proofs.Common.{◌≡◌, ℕ, ◌+◌, ◌<◌, ◌≤◌, nat_le, Bool, true, false, pos, ◌+ℤ◌, List, [], ◌++◌, refl, sym, ap, ◌∙◌, subst, rules, arith}
use Rattle.std.proofs.lemmas.Bool.Decides.{nat_tests}
use Rattle.std.proofs.lemmas.Int.{ints}
use Rattle.std.specs.List.{AllByRecursion as Each}
use Rattle.mz_arrange.specs.Arranged.{rows_at, Arranged, IsInserted, TakesUpdates}
use Rattle.mz_value.specs.declared.datum.Datum.{Datum}
use Rattle.mz_bag.specs.Bag.{count_in, Fits, IsStored}
use Rattle.mz_bag.specs.Weighted.{bag_of, count, sum_of, Weighted}
use Rattle.mz_bag.proofs.BagLaws.{bag_of-same, count-append, count_in-bag_of, sum_of-bag_of}
use Rattle.mz_bag.proofs.MassLaws.{light_fits}
use Rattle.mz_plan.specs.Meaning.{Leaves}
use Rattle.mz_plan.specs.declared.plan.Plan.{Plan}
use Rattle.mz_plan_laws.specs.Alike.{Alike}
use Rattle.mz_updates.specs.declared.update.Update.{Update}
use Rattle.mz_updates.specs.Contents.{changes, contents, HasSums, IsBefore, IsFrom, SameContents}
use Rattle.mz_updates.proofs.ContentsLaws.{contents-before, contents-from}
use Rattle.mz_ops.specs.Stepping.{IsToCome}
use Rattle.mz_ops.proofs.TimeLaws.{same_change}
use Rattle.mz_dataflow.specs.Built.{meaning_of_ints, Puts}
use Rattle.mz_dataflow.specs.Flow.{contents_of, longer, put, weights_of, IsFlowStep, LeafUpdates, StandsBefore}
use Rattle.mz_dataflow.specs.Flown.{CanFlow, HasFlown, IsReady}
use Rattle.mz_dataflow.specs.Nodes.{stand_nodes, top}
use Rattle.mz_dataflow.specs.Queues.{updates_of, AreQueued, IsInQueue}
use Rattle.mz_dataflow.specs.Stands.{CanGoTo, StandsWith}
use Rattle.mz_dataflow.specs.declared.node.Node.{Node}
use Rattle.mz_dataflow.proofs.AlikeLaws.{nodes_read, stand_alike}
use Rattle.mz_dataflow.proofs.FlowLaws.{flow_out, flow_same}
use Rattle.mz_dataflow.proofs.Queueing.{listed_each, queued_all, queued_each}
use Rattle.mz_dataflow.proofs.Sums.{contents_behind, rows_on, rows_there, sums_between}

-- ---- before the run

none_sums : HasSums []
none_sums = record { fits = λ t row. search (rules, ints) }

-- each list that was offered has sums
pub offers_sums : (nodes : List Node) (output : Arranged) (offered : List (ℕ × List Update)) (next : ℕ) → CanGoTo nodes output offered next
    → Each (λ q. HasSums q.1) offered
offers_sums nodes output offered next r = listed_each HasSums offered none_sums r.listed (λ item.
    sums_between output.upper (updates_of offered item) (λ t. r.rows t item) (r.from item) (λ t low. r.on t item low) (λ t low. r.light t item low))

-- what is put in queues lies between the times
all_coming : (lower upper : ℕ) (offered queues : List (ℕ × List Update)) → AreQueued offered queues
    → Each (λ q. IsFrom lower q.1 × IsBefore upper q.1) offered → Each (λ q. IsToCome lower upper q.1) queues
all_coming lower upper offered queues h each =
    queued_all (λ us. IsFrom lower us × IsBefore upper us) (IsToCome lower upper) offered queues
    (λ us vs k p. record { from = k.from lower p.0; before = k.before upper p.1; once = k.once }) h each

-- so the nodes are ready to run over the queues
pub ready : (nodes : List Node) (output : Arranged) (offered queues : List (ℕ × List Update)) (next : ℕ) → CanGoTo nodes output offered next
    → AreQueued offered queues → IsReady output.upper next nodes queues
ready nodes output offered queues next r h = record {
  later = r.later;
  bears = record {
    rows = r.rows;
    stand = stand_alike (weights_of r.us) (r.rows output.upper) (λ item q. sym (r.start item q)) nodes [] [] tt r.stands.leaves.rows;
    next = λ t item low q.
        r.on t item low q ∙ count-append q (r.rows t item) (changes t (updates_of offered item))
        ∙ ap (λ z. count q (r.rows t item) +ℤ z)
        (sym (same_change (updates_of queues item) (updates_of offered item) (IsInQueue.contents (queued_each offered queues h item)) t q))
        ∙ sym (count-append q (r.rows t item) (changes t (updates_of queues item)));
    within = λ t low high. r.stands.bears.bears (r.rows t) (r.rows (t + 1)) [] [] (r.loads t low high);
  };
  coming = all_coming output.upper next offered queues h
      (listed_each (λ us. IsFrom output.upper us × IsBefore next us) offered (record { each = tt }, record { each = tt }) r.listed
      (λ item. (r.from item, r.before item)));
}

pub can_flow : (nodes : List Node) (output : Arranged) (offered queues : List (ℕ × List Update)) (next : ℕ) → CanGoTo nodes output offered next
    → AreQueued offered queues → CanFlow nodes queues
can_flow nodes output offered queues next r h = record {
  lower = output.upper;
  upper = next;
  ready = ready nodes output offered queues next r h;
}

-- ---- after it

-- the nodes go on to put the plan's rows
still_puts : (plan : Plan) (nodes new : List Node) (lower upper : ℕ) (given : LeafUpdates) (out : List Update) → Puts plan nodes
    → HasFlown lower upper nodes new given out → Puts plan new
still_puts plan nodes new lower upper given out p h = record { puts = λ leaves stack. h.same leaves stack ∙ p.puts leaves stack }

-- a run over the queues is a step of the plan's rows over what was offered
pub plan_step : (plan : Plan) (nodes new : List Node) (lower upper : ℕ) (offered queues : List (ℕ × List Update)) (out once : List Update)
    → Puts plan nodes → HasFlown lower upper nodes new (updates_of queues) out → AreQueued offered queues
    → ((item : ℕ) → IsBefore upper (updates_of offered item)) → SameContents once out
    → IsFlowStep (λ leaves. meaning_of_ints leaves plan) (StandsBefore lower (λ leaves. stand_nodes leaves nodes []))
    (StandsBefore upper (λ leaves. stand_nodes leaves new [])) (updates_of offered) once
plan_step plan nodes new lower upper offered queues out once p h queued before same =
    let made : put nodes ≡ (λ leaves. meaning_of_ints leaves plan) = λ i leaves. top (p.puts leaves [] i) in
    flow_out (λ leaves. meaning_of_ints leaves plan) (StandsBefore lower (λ leaves. stand_nodes leaves nodes []))
    (StandsBefore upper (λ leaves. stand_nodes leaves new [])) (updates_of offered) out once same
    (flow_same (λ leaves. meaning_of_ints leaves plan) (StandsBefore lower (λ leaves. stand_nodes leaves nodes [])) (λ leaves. stand_nodes leaves new [])
    upper (updates_of queues) (updates_of offered) out
    (nodes_read plan new (still_puts plan nodes new lower upper (updates_of queues) out p h))
    (λ item. IsInQueue.contents (queued_each offered queues queued item)) before
    (subst (λ (m : Leaves → Weighted). IsFlowStep m (StandsBefore lower (λ leaves. stand_nodes leaves nodes []))
    (StandsBefore upper (λ leaves. stand_nodes leaves new [])) (updates_of queues) out) made h.law))

-- the plan's rows over what the leaves contain count as those over the rows after the time
made_there : (nodes : List Node) (output : Arranged) (offered : List (ℕ × List Update)) (next : ℕ) (r : CanGoTo nodes output offered next) (t : ℕ)
    → output.upper ≤ t
    → Alike (meaning_of_ints (contents_of t (longer r.us (updates_of offered))) r.plan) (meaning_of_ints (r.rows (t + 1)) r.plan)
made_there nodes output offered next r t low =
    (nodes_read r.plan nodes r.stands.puts).gives (contents_of t (longer r.us (updates_of offered))) (r.rows (t + 1)) (λ item q.
    contents_behind t output.upper (r.us item) (updates_of offered item) q (r.stands.leaves.early item) (omega (arith, low))
    ∙ ap (λ z. z +ℤ count q (contents t (updates_of offered item))) (sym (r.start item q))
    ∙ sym (rows_there t output.upper (updates_of offered item) (λ s. r.rows s item) q (r.from item) (λ s l. r.on s item l) low))

-- and before the run as those over the rows before it
made_start : (nodes : List Node) (output : Arranged) (offered : List (ℕ × List Update)) (next : ℕ) (r : CanGoTo nodes output offered next) (t : ℕ)
    → output.upper ≤ t → Alike (meaning_of_ints (contents_of t r.us) r.plan) (meaning_of_ints (r.rows output.upper) r.plan)
made_start nodes output offered next r t low =
    (nodes_read r.plan nodes r.stands.puts).gives (contents_of t r.us) (r.rows output.upper) (λ item q.
    ap (count q) (contents-before t output.upper (r.us item) (r.stands.leaves.early item) (omega (arith, low))) ∙ sym (r.start item q))

-- so what is put out has sums
pub out_sums : (nodes new : List Node) (output : Arranged) (offered queues : List (ℕ × List Update)) (next : ℕ) (out : List Update)
    → CanGoTo nodes output offered next → HasFlown output.upper next nodes new (updates_of queues) out → AreQueued offered queues → HasSums out
out_sums nodes new output offered queues next out r h queued =
    sums_between output.upper out (λ t. meaning_of_ints (r.rows t) r.plan) h.from
    (λ t low. rows_on t output.upper out (λ s. meaning_of_ints (r.rows s) r.plan) h.from all low) r.made
  where
    step : IsFlowStep (λ leaves. meaning_of_ints leaves r.plan) (StandsBefore output.upper (λ leaves. stand_nodes leaves nodes []))
        (StandsBefore next (λ leaves. stand_nodes leaves new [])) (updates_of offered) out
    step = plan_step r.plan nodes new output.upper next offered queues out out r.stands.puts h queued r.before (record { counts = λ t q. refl })

    all : (t : ℕ) (q : List Datum) → output.upper ≤ t → count q (meaning_of_ints (r.rows (t + 1)) r.plan)
        ≡ count q (meaning_of_ints (r.rows output.upper) r.plan) +ℤ count q (contents t out)
    all t q low =
        sym (made_there nodes output offered next r t low q) ∙ step.gives r.us r.stands.leaves t q
        ∙ count-append q (meaning_of_ints (contents_of t r.us) r.plan) (contents t out)
        ∙ ap (λ z. z +ℤ count q (contents t out)) (made_start nodes output offered next r t low q)

-- and the output takes it
pub out_taken : (nodes new : List Node) (output : Arranged) (offered queues : List (ℕ × List Update)) (next : ℕ) (out once : List Update)
    → CanGoTo nodes output offered next → HasFlown output.upper next nodes new (updates_of queues) out → AreQueued offered queues
    → SameContents once out → IsFrom output.upper once → ((t : ℕ) → output.since ≤ t → IsStored (rows_at output t)) → TakesUpdates once output
out_taken nodes new output offered queues next out once r h queued same from stored = record {
  fits = λ t since. record { fits = λ q. by t q since (nat_le output.upper t) refl };
}
  where
    by : (t : ℕ) (q : List Datum) → output.since ≤ t → (c : Bool) → nat_le output.upper t ≡ c
        → Fits (count_in (rows_at output t) q +ℤ count_in (bag_of (contents t once)) q)
    by t q since true e =
        let low : output.upper ≤ t = grind (arith, nat_tests) in
        let step = plan_step r.plan nodes new output.upper next offered queues out once r.stands.puts h queued r.before same in
        let had : count_in (rows_at output t) q ≡ count q (meaning_of_ints (contents_of t r.us) r.plan) =
        ap (λ b. count_in b q) (r.stands.rows t since) ∙ count_in-bag_of (meaning_of_ints (contents_of t r.us) r.plan) q in
        let value : count_in (rows_at output t) q +ℤ count_in (bag_of (contents t once)) q ≡ count q (meaning_of_ints (r.rows (t + 1)) r.plan) =
        (λ i. had i +ℤ count_in-bag_of (contents t once) q i)
        ∙ sym (count-append q (meaning_of_ints (contents_of t r.us) r.plan) (contents t once))
        ∙ sym (step.gives r.us r.stands.leaves t q) ∙ made_there nodes output offered next r t low q in
        subst Fits (sym value) (light_fits (meaning_of_ints (r.rows (t + 1)) r.plan) q (r.made (t + 1) (omega (arith, low))))
    by t q since false e =
        let early : t < output.upper = grind (arith, nat_tests) in
        let none : count_in (bag_of (contents t once)) q ≡ pos 0 =
        count_in-bag_of (contents t once) q ∙ ap (count q) (contents-from t output.upper once from early) in
        let value : count_in (rows_at output t) q +ℤ count_in (bag_of (contents t once)) q ≡ count_in (rows_at output t) q = omega (arith, ints, none) in
        subst Fits (sym value) ((stored t since).fits q)

-- then nodes and output stand for the longer lists
pub stands_on : (plan : Plan) (nodes new : List Node) (output after : Arranged) (offered queues : List (ℕ × List Update)) (next : ℕ)
    (out once : List Update) (us : LeafUpdates) → HasFlown output.upper next nodes new (updates_of queues) out → AreQueued offered queues
    → ((item : ℕ) → IsBefore next (updates_of offered item)) → SameContents once out → IsInserted once next output after
    → StandsWith plan nodes output us → StandsWith plan new after (longer us (updates_of offered))
stands_on plan nodes new output after offered queues next out once us h queued before same inserted s =
    let step = plan_step plan nodes new output.upper next offered queues out once s.puts h queued before same in
    record {
      puts = still_puts plan nodes new output.upper next (updates_of queues) out s.puts h;
      bears = record { bears = λ older newer olds news w. h.loads older newer olds news (s.bears.bears older newer olds news w) };
      leaves = subst (λ n. StandsBefore n (λ leaves. stand_nodes leaves new []) (longer us (updates_of offered))) (sym inserted.upper)
          (step.stands us s.leaves);
      rows = λ t since.
          let from : output.since ≤ t = subst (λ n. n ≤ t) inserted.since since in
          inserted.rows t from ∙ ap (λ b. sum_of b (bag_of (contents t once))) (s.rows t from)
          ∙ sum_of-bag_of (meaning_of_ints (contents_of t us) plan) (contents t once)
          ∙ bag_of-same (meaning_of_ints (contents_of t us) plan ++ contents t once) (meaning_of_ints (contents_of t (longer us (updates_of offered))) plan)
          (λ q. sym (step.gives us s.leaves t q));
    }
