-- Nodes and an output that stand for updates of the leaves: at first, and when the output's past is let go.
use Rattle.std.proofs.Common.{ℕ, ◌≤◌, List, [], sym, ap, ◌∙◌, subst, le_trans}
use Rattle.mz_arrange.specs.Arranged.{Arranged, IsFresh, IsSameFrom}
use Rattle.mz_bag.specs.Weighted.{bag_of}
use Rattle.mz_plan.specs.declared.plan.Plan.{Plan}
use Rattle.mz_dataflow.specs.Built.{IsBuilt}
use Rattle.mz_dataflow.specs.Flow.{LeafUpdates, StandsBefore}
use Rattle.mz_dataflow.specs.Nodes.{stand_nodes}
use Rattle.mz_dataflow.specs.Stands.{StandsWith}
use Rattle.mz_dataflow.specs.declared.node.Node.{Node}
use Rattle.mz_dataflow.proofs.PlanRuns.{built_bear, built_none, built_puts, built_stand}

-- built nodes and an output without a row stand for no updates
pub built_stands : (plan : Plan) (nodes : List Node) (output : Arranged) (as_of : ℕ) → IsBuilt plan [] nodes → IsFresh as_of output
    → StandsWith plan nodes output (λ item. [])
built_stands plan nodes output as_of h fresh = record {
  puts = built_puts plan nodes h;
  bears = built_bear plan nodes h;
  leaves = record { early = λ item. record { each = tt }; rows = built_stand plan nodes h };
  rows = λ t since. fresh.no_row t ∙ ap bag_of (sym (built_none plan nodes h));
}

-- with an output that is the same from a later time on they stand for the same updates
pub allowed_stands : (plan : Plan) (nodes : List Node) (output later : Arranged) (oldest : ℕ) (us : LeafUpdates) → output.since ≤ oldest
    → IsSameFrom oldest output later → StandsWith plan nodes output us → StandsWith plan nodes later us
allowed_stands plan nodes output later oldest us on same s = record {
  puts = s.puts;
  bears = s.bears;
  leaves = subst (λ n. StandsBefore n (λ leaves. stand_nodes leaves nodes []) us) (sym same.upper) s.leaves;
  rows = λ t since.
      let from : oldest ≤ t = subst (λ n. n ≤ t) same.since since in
      same.rows t from ∙ s.rows t (le_trans on from);
}
