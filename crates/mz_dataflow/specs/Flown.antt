-- Runs of nodes over queues of updates, from one time to another.
use Rattle.std.specs.Prelude.{◌≡◌, ℕ, ◌≤◌, List, []}
use Rattle.mz_bag.specs.Weighted.{Weighted}
use Rattle.mz_plan.specs.Meaning.{Leaves}
use Rattle.mz_updates.specs.declared.update.Update.{Update}
use Rattle.mz_updates.specs.Contents.{IsBefore, IsFrom}
use Rattle.mz_dataflow.specs.Flow.{put, IsBearableFlow, IsFlowStep, LeafUpdates, StandsBefore}
use Rattle.mz_dataflow.specs.Nodes.{after_nodes, stand_nodes}
use Rattle.mz_dataflow.specs.Queues.{updates_of, AreToCome}
use Rattle.mz_dataflow.specs.Run.{bear_nodes}
use Rattle.mz_dataflow.specs.declared.node.Node.{Node}

-- nodes are ready to run over queues of updates, which lie between the times
pub record IsReady (lower upper : ℕ) (nodes : List Node) (queues : List (ℕ × List Update)) : Type 0 where
  pub later : lower ≤ upper
  pub bears : IsBearableFlow nodes lower upper (updates_of queues)
  pub coming : AreToCome lower upper queues

-- between some times
pub record CanFlow (nodes : List Node) (queues : List (ℕ × List Update)) : Type 0 where
  pub lower : ℕ
  pub upper : ℕ
  pub ready : IsReady lower upper nodes queues

-- nodes ran over updates of their leaves: they go on to put the same, and to have the same loads
pub record HasFlown (lower upper : ℕ) (old now : List Node) (given : LeafUpdates) (out : List Update) : Type 0 where
  pub law : IsFlowStep (put old) (StandsBefore lower (λ leaves. stand_nodes leaves old []))
      (StandsBefore upper (λ leaves. stand_nodes leaves now [])) given out
  pub same : (leaves : Leaves) (stack : List Weighted) → after_nodes leaves now stack ≡ after_nodes leaves old stack
  pub loads : (before after : Leaves) (olds news : List Weighted) → bear_nodes before after old olds news → bear_nodes before after now olds news
  pub from : IsFrom lower out
  pub until : IsBefore upper out
