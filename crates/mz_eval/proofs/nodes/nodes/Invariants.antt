use Rattle.std.proofs.Common.{map, Some, option_map}
use Rattle.mz_plan.specs.Spine.{Leads}
use Rattle.mz_eval.specs.Nodes.{next_of}
use Rattle.mz_eval.proofs.NodeRules.{some_weight}
use Rattle.mz_eval.proofs.nodes.nodes.Given as goal

-- the nodes so far lead down
abbrev pub invariant-down : goal.invariant-down
invariant-down l =
    Leads next_of (Some (l.fn.plan, l.fn.plans)) (map (λ node. (node.0.now, node.1.now)) l.nodes.items)
    (option_map (λ node. (node.0.now, node.1.now)) l.next)

-- less is left below the next one each time
abbrev pub decreases-down : goal.decreases-down
decreases-down l = some_weight (option_map (λ node. (node.0.now, node.1.now)) l.next)
