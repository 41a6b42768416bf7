-- For which updates of its leaves a dataflow stands, and which of its runs are within the bound.
use Rattle.std.specs.Prelude.{◌≡◌, ◌==◌, ◌+◌, ◌<◌, ◌≤◌, ℕ, List, [], ◌++◌, if◌then◌else◌}
use Rattle.mz_arrange.specs.Arranged.{rows_at, Arranged}
use Rattle.mz_bag.specs.Mass.{IsLight}
use Rattle.mz_bag.specs.Weighted.{bag_of}
use Rattle.mz_plan.specs.Meaning.{Leaves}
use Rattle.mz_plan.specs.declared.plan.Plan.{Plan}
use Rattle.mz_plan_laws.specs.Alike.{Alike}
use Rattle.mz_updates.specs.declared.update.Update.{Update}
use Rattle.mz_updates.specs.Contents.{changes, weights, IsBefore, IsFrom}
use Rattle.mz_dataflow.specs.Built.{bears_plan, meaning_of_ints, Bears, Puts}
use Rattle.mz_dataflow.specs.Flow.{contents_of, LeafUpdates, StandsBefore}
use Rattle.mz_dataflow.specs.Nodes.{stand_nodes}
use Rattle.mz_dataflow.specs.Queues.{updates_of, AreListedOnce}
use Rattle.mz_dataflow.specs.declared.dataflow.Dataflow.{Dataflow}
use Rattle.mz_dataflow.specs.declared.node.Node.{Node}

-- ---- for what it stands

-- nodes of a plan and an output stand for updates of the leaves: the updates are before the output's upper, the nodes stand for
-- their rows, and at each time from the since on the output has the rows of the plan over what they contain then
pub record StandsWith (plan : Plan) (nodes : List Node) (output : Arranged) (us : LeafUpdates) : Type 0 where
  pub puts : Puts plan nodes
  pub bears : Bears plan nodes
  pub leaves : StandsBefore output.upper (λ leaves. stand_nodes leaves nodes []) us
  pub rows : (t : ℕ) → output.since ≤ t → rows_at output t ≡ bag_of (meaning_of_ints (contents_of t us) plan)

-- so does a dataflow, of which no leaf has two lists of offers
pub record Stands (plan : Plan) (flow : Dataflow) (us : LeafUpdates) : Type 0 where
  pub stands : StandsWith plan flow.nodes.items flow.output us
  pub listed : AreListedOnce flow.offered.items

-- ---- offers

-- what was offered of each leaf since the last run
abbrev pub offers_of : Dataflow → LeafUpdates
offers_of flow item = updates_of flow.offered.items item

-- a leaf's list, and none else, with others behind it
abbrev pub with_offer : ℕ → List Update → LeafUpdates → LeafUpdates
with_offer leaf us given item = if leaf == item then given item ++ us else given item

-- it was built as of a time: from there on the output can be read, and nothing was offered yet
pub record IsNew (as_of : ℕ) (flow : Dataflow) : Type 0 where
  pub since : flow.output.since ≡ as_of
  pub upper : flow.output.upper ≡ as_of
  pub offers : flow.offered.items ≡ []
  pub changes : flow.changes ≡ []

-- ---- the bound

-- a run to a time is within the bound: nodes and output stand for some updates of the leaves, what is offered lies between the
-- upper and that time, and before each time from the upper on the leaves have rows, in lists that count so, that are light, as are
-- the plan's over them, and over which the loads of the plan are within the bound
pub record CanGoTo (nodes : List Node) (output : Arranged) (offered : List (ℕ × List Update)) (next : ℕ) : Type 0 where
  pub plan : Plan
  pub us : LeafUpdates
  pub stands : StandsWith plan nodes output us
  pub listed : AreListedOnce offered
  pub later : output.upper ≤ next
  pub from : (item : ℕ) → IsFrom output.upper (updates_of offered item)
  pub before : (item : ℕ) → IsBefore next (updates_of offered item)
  pub rows : ℕ → Leaves
  pub start : (item : ℕ) → Alike (rows output.upper item) (weights (us item))
  pub on : (t item : ℕ) → output.upper ≤ t → Alike (rows (t + 1) item) (rows t item ++ changes t (updates_of offered item))
  pub light : (t item : ℕ) → output.upper ≤ t → IsLight (rows t item)
  pub made : (t : ℕ) → output.upper ≤ t → IsLight (meaning_of_ints (rows t) plan)
  pub loads : (t : ℕ) → output.upper ≤ t → t < next → bears_plan (rows t) (rows (t + 1)) plan

-- so of a dataflow, with what was offered
abbrev pub CanRunTo : Dataflow → ℕ → Type 0
CanRunTo flow next = CanGoTo flow.nodes.items flow.output flow.offered.items next
