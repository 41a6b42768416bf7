use Rattle.std.proofs.Common.{ap, arith, Some, option_map}
use Rattle.mz_plan.proofs.SpineRules.{leads_pushed}
use Rattle.mz_eval.specs.Nodes.{next_of}
use Rattle.mz_eval.proofs.NodeRules.{below_lighter, some_weight}
use Rattle.mz_eval.proofs.nodes.nodes.Goals as goal

-- less is left below the next node
pub down-smaller : goal.down-smaller
down-smaller c =
    omega (
      arith,
      ap (λ o. some_weight (option_map (λ node. (node.0.now, node.1.now)) o)) c.in-Some.is,
      ap some_weight c.node_below-next.ensures,
      below_lighter c.in-Some.node.1.now c.in-Some.node.0.now,
    )

-- one node more
pub down-preserved : goal.down-preserved
down-preserved c =
    leads_pushed (λ node. (node.0.now, node.1.now)) next_of (Some (c.args.plan.now, c.args.plans.now)) c.down.nodes.items
    c.push.new.self.items c.in-Some.node c.down.next c.node_below-next.result c.down.invariant c.in-Some.is c.in_ok-push.ensures.items
    c.node_below-next.ensures
