use Rattle.std.proofs.Common.{length, map, ◌+◌, ◌*◌}
use Rattle.mz_plan.proofs.FirstRules.{steps}
use Rattle.mz_dataflow.proofs.BuildLaws.{IsRising}
use Rattle.mz_dataflow.proofs.building.+pushes.Given as goal

-- a plan of the spine has no more operators than the plan
abbrev pub decreases-push_rest : goal.decreases-push_rest
decreases-push_rest l = 2 * steps l.plan.now

-- and what is to the right of it has fewer
abbrev pub decreases-push_plan : goal.decreases-push_plan
decreases-push_plan l = 2 * steps l.plan.now + 1

-- each step makes the nodes of one of the plans that are left
abbrev pub decreases-push_plan-up : goal.decreases-push_plan-up
decreases-push_plan-up l = length l.spine.items

-- those that are left, over the nodes that are made
abbrev pub invariant-push_plan-up : goal.invariant-push_plan-up
invariant-push_plan-up l = IsRising l.initial.nodes.items l.fn.plan (map (λ one. one.now) l.spine.items) l.nodes.items
