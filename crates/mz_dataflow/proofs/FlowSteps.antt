-- Runs go from one time to the next: how far they have come.
use Rattle.std.proofs.Common.{◌≡◌, ℕ, zero, suc, ◌+◌, ◌-◌, ◌<◌, ◌≤◌, ◌+ℤ◌, pos, List, [], ◌++◌, refl, sym, ap, ◌∙◌, subst, le_trans, arith}
use Rattle.std.proofs.lemmas.Int.{ints}
use Rattle.std.proofs.lemmas.List.{append-nil}
use Rattle.mz_bag.specs.Weighted.{Weighted, count}
use Rattle.mz_bag.proofs.BagLaws.{count-append}
use Rattle.mz_plan.specs.Meaning.{Leaves}
use Rattle.mz_plan_laws.specs.Alike.{AreAlike}
use Rattle.mz_updates.specs.declared.update.Update.{Update}
use Rattle.mz_updates.specs.Consolidated.{IsConsolidated}
use Rattle.mz_updates.specs.Contents.{changes, stamped, IsBefore, IsFrom}
use Rattle.mz_ops.specs.Moments.{IsRun as IsRunAt}
use Rattle.mz_ops.proofs.Runs.{come_on, no_changes, run_changes, HasCome}
use Rattle.mz_ops.proofs.TimeLaws.{IsBefore-append, IsBefore-later, IsBefore-stamped, IsFrom-append, IsFrom-stamped}
use Rattle.mz_dataflow.specs.Flow.{put, stamped_leaves, IsBearableFlow, IsFlowStep, LeafUpdates, StandsBefore}
use Rattle.mz_dataflow.specs.Nodes.{after_nodes, stand_nodes, top}
use Rattle.mz_dataflow.specs.Run.{bear_nodes, grown, AreChanged, CanRun, IsChangeOf, IsRunTo}
use Rattle.mz_dataflow.specs.declared.node.Node.{Node}
use Rattle.mz_dataflow.proofs.AlikeLaws.{stand_alike}
use Rattle.mz_dataflow.proofs.FlowLaws.{flow_at, flow_later, flow_none, flow_then}
use Rattle.mz_dataflow.proofs.StackLaws.{top_changed}

-- ---- rows

-- while nothing changes the leaves count alike
rows_stay : (nodes : List Node) (lower upper : ℕ) (given : LeafUpdates) (b : IsBearableFlow nodes lower upper given) (at n : ℕ)
    → lower ≤ at → ((t item : ℕ) → at ≤ t → t < at + n → changes t (given item) ≡ []) → AreAlike (b.rows at) (b.rows (at + n))
rows_stay nodes lower upper given b at zero low none item q = let same : at ≡ at + 0 = omega arith in ap (λ t. count q (b.rows t item)) same
rows_stay nodes lower upper given b at (suc n) low none item q =
    let before : count q (b.rows at item) ≡ count q (b.rows (at + n) item) =
    rows_stay nodes lower upper given b at n low (λ t i l high. none t i l (omega (arith, high))) item q in
    let still : count q (changes (at + n) (given item)) ≡ pos 0 = ap (count q) (none (at + n) item (omega arith) (omega arith)) in
    let next : count q (b.rows (at + n + 1) item) ≡ count q (b.rows (at + n) item) +ℤ count q (changes (at + n) (given item)) =
    b.next (at + n) item (omega (arith, low)) q ∙ count-append q (b.rows (at + n) item) (changes (at + n) (given item)) in
    let same : at + n + 1 ≡ at + suc n = omega arith in
    subst (λ t. count q (b.rows at item) ≡ count q (b.rows t item)) same (omega (arith, ints, before, still, next))

-- ---- the flow

-- what was told up to a time, and what is to come
pub record IsFlowing (lower upper : ℕ) (old now : List Node) (given rest : LeafUpdates) (out : List Update) : Type 0 where
  pub bears : IsBearableFlow old lower upper given
  pub at : ℕ
  pub low : lower ≤ at
  pub high : at ≤ upper
  pub come : (item : ℕ) → HasCome (given item) (rest item) at upper
  pub law : IsFlowStep (put old) (StandsBefore lower (λ leaves. stand_nodes leaves old []))
      (StandsBefore at (λ leaves. stand_nodes leaves now [])) (λ item. HasCome.done (come item)) out
  pub stand : stand_nodes (bears.rows at) now []
  pub same : (leaves : Leaves) (stack : List Weighted) → after_nodes leaves now stack ≡ after_nodes leaves old stack
  pub loads : (before after : Leaves) (olds news : List Weighted) → bear_nodes before after old olds news → bear_nodes before after now olds news
  pub from : IsFrom lower out
  pub until : IsBefore at out

-- it begins with nothing told
unfoldable pub flow_begun : (lower upper : ℕ) (nodes : List Node) (given : LeafUpdates) → lower ≤ upper → IsBearableFlow nodes lower upper given
    → ((item : ℕ) → IsFrom lower (given item)) → ((item : ℕ) → IsBefore upper (given item)) → ((item : ℕ) → IsConsolidated (given item))
    → IsFlowing lower upper nodes nodes given given []
flow_begun lower upper nodes given later bears from before once = record {
  bears = bears;
  at = lower;
  low = omega arith;
  high = later;
  come = λ item. record {
    done = [];
    whole = refl;
    past = record { each = tt };
    coming = from item;
    until = before item;
    order = once item;
  };
  law = flow_none (put nodes) (StandsBefore lower (λ leaves. stand_nodes leaves nodes []));
  stand = bears.stand;
  same = λ leaves stack. refl;
  loads = λ before after olds news b. b;
  from = record { each = tt };
  until = record { each = tt };
}

-- at the next time the nodes stand for the rows before it
pub next_stands : (lower upper : ℕ) (old now : List Node) (given rest : LeafUpdates) (out : List Update) (time : ℕ)
    (h : IsFlowing lower upper old now given rest out) → h.at ≤ time → ((item : ℕ) → IsFrom time (rest item)) → stand_nodes (h.bears.rows time) now []
next_stands lower upper old now given rest out time h later from =
    let same : h.at + (time - h.at) ≡ time = omega (arith, later) in
    stand_alike (h.bears.rows h.at) (h.bears.rows time)
    (subst (λ t. AreAlike (h.bears.rows h.at) (h.bears.rows t)) same
    (rows_stay old lower upper given h.bears h.at (time - h.at) h.low
    (λ t item low high. no_changes (given item) (rest item) h.at upper time t (h.come item) (from item) low (omega (arith, same, high)))))
    now [] [] tt h.stand

-- and those after it count as these with what changes then
pub next_alike : (lower upper : ℕ) (old now : List Node) (given rest after : LeafUpdates) (out : List Update) (time : ℕ) (told : Leaves)
    (h : IsFlowing lower upper old now given rest out) → h.at ≤ time → ((item : ℕ) → IsFrom time (rest item))
    → ((item : ℕ) → IsRunAt time (rest item) (told item) (after item)) → AreAlike (h.bears.rows (time + 1)) (grown (h.bears.rows time) told)
next_alike lower upper old now given rest after out time told h later from runs = λ item q.
    h.bears.next time item (le_trans h.low later) q
    ∙ ap (λ ws. count q (h.bears.rows time item ++ ws))
    (run_changes (given item) (rest item) (after item) (told item) h.at upper time (h.come item) (runs item) later (from item))

-- so the next run is within the bound
pub next_can : (lower upper : ℕ) (old now : List Node) (given rest after : LeafUpdates) (out : List Update) (time : ℕ) (told : Leaves)
    (h : IsFlowing lower upper old now given rest out) → h.at ≤ time → time < upper → ((item : ℕ) → IsFrom time (rest item))
    → ((item : ℕ) → IsRunAt time (rest item) (told item) (after item)) → CanRun told now
next_can lower upper old now given rest after out time told h later below from runs = record {
  before = h.bears.rows time;
  after = h.bears.rows (time + 1);
  stand = next_stands lower upper old now given rest out time h later from;
  alike = next_alike lower upper old now given rest after out time told h later from runs;
  bears = h.loads (h.bears.rows time) (h.bears.rows (time + 1)) [] [] (h.bears.within time (le_trans h.low later) below);
}

-- a run changes what is put, as nodes put it that go on to put the same
pub run_puts : (old now new : List Node) (told : Leaves) (rows : Weighted)
    → ((leaves : Leaves) (stack : List Weighted) → after_nodes leaves now stack ≡ after_nodes leaves old stack) → IsRunTo told now new rows
    → IsChangeOf (put old) (λ leaves. stand_nodes leaves now []) (λ leaves. stand_nodes leaves new []) told rows
run_puts old now new told rows same h = record {
  stands = λ leaves more alike s. (h.run.runs leaves more alike s).0;
  gives = λ leaves more alike s q.
      let changed : AreChanged (after_nodes leaves now []) (after_nodes more new []) h.made = (h.run.runs leaves more alike s).1 in
      ap (λ st. count q (top st)) (sym (h.run.same more [] ∙ same more []))
      ∙ top_changed (after_nodes leaves now []) (after_nodes more new []) h.made changed.all q
      ∙ (λ i. count q (top (same leaves [] i) ++ sym h.is i));
}

-- told the changes of the next time, it has come past it
unfoldable pub flow_next : (lower upper : ℕ) (old now new : List Node) (given rest after : LeafUpdates) (out : List Update) (time : ℕ) (told : Leaves) (rows : Weighted)
    (h : IsFlowing lower upper old now given rest out) → h.at ≤ time → time < upper → ((item : ℕ) → IsFrom time (rest item))
    → ((item : ℕ) → IsRunAt time (rest item) (told item) (after item)) → IsRunTo told now new rows
    → IsFlowing lower upper old new given after (out ++ stamped time rows)
unfolding come_on
flow_next lower upper old now new given rest after out time told rows h later below from runs run = record {
  bears = h.bears;
  at = time + 1;
  low = omega (arith, h.low, later);
  high = omega (arith, below);
  come = λ item. come_on (given item) (rest item) (after item) (told item) h.at upper time (h.come item) (runs item) later (from item);
  law = flow_then (put old) (StandsBefore lower (λ leaves. stand_nodes leaves old [])) (StandsBefore h.at (λ leaves. stand_nodes leaves now []))
      (StandsBefore (time + 1) (λ leaves. stand_nodes leaves new [])) (λ item. HasCome.done (h.come item)) (stamped_leaves time told) out (stamped time rows)
      h.law
      (flow_at (put old) (λ leaves. stand_nodes leaves now []) (λ leaves. stand_nodes leaves new []) told rows h.at time
      (run_puts old now new told rows h.same run) later);
  stand = (run.run.runs (h.bears.rows time) (h.bears.rows (time + 1)) (next_alike lower upper old now given rest after out time told h later from runs)
      (next_stands lower upper old now given rest out time h later from)).0;
  same = λ leaves stack. run.run.same leaves stack ∙ h.same leaves stack;
  loads = λ before after olds news b. run.run.bears before after olds news (h.loads before after olds news b);
  from = IsFrom-append lower out (stamped time rows) h.from (IsFrom-stamped time lower rows (le_trans h.low later));
  until = IsBefore-append (time + 1) out (stamped time rows) (IsBefore-later h.at (time + 1) out (omega (arith, later)) h.until)
      (IsBefore-stamped time (time + 1) rows (omega arith));
}

-- and with nothing to come all is told
pub flow_done : (lower upper : ℕ) (old now : List Node) (given rest : LeafUpdates) (out : List Update) → IsFlowing lower upper old now given rest out
    → ((item : ℕ) → rest item ≡ [])
    → IsFlowStep (put old) (StandsBefore lower (λ leaves. stand_nodes leaves old [])) (StandsBefore upper (λ leaves. stand_nodes leaves now [])) given out
flow_done lower upper old now given rest out h none =
    let whole : (item : ℕ) → HasCome.done (h.come item) ≡ given item =
    λ item. sym (append-nil (HasCome.done (h.come item))) ∙ ap (λ us. HasCome.done (h.come item) ++ us) (sym (none item)) ∙ HasCome.whole (h.come item) in
    subst (λ (us : LeafUpdates). IsFlowStep (put old) (StandsBefore lower (λ leaves. stand_nodes leaves old []))
    (StandsBefore upper (λ leaves. stand_nodes leaves now [])) us out)
    (λ i item. whole item i)
    (flow_later (put old) (StandsBefore lower (λ leaves. stand_nodes leaves old [])) (λ leaves. stand_nodes leaves now []) h.at upper
    (λ item. HasCome.done (h.come item)) out h.high h.law)
