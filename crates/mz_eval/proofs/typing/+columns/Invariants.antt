use Rattle.std.proofs.Common.{length, map, [], ◌+◌, ◌*◌}
use Rattle.mz_plan.proofs.FirstRules.{steps}
use Rattle.mz_eval.proofs.ColumnRules.{AreColumns}
use Rattle.mz_eval.proofs.NodeRules.{Rises}
use Rattle.mz_eval.proofs.typing.+columns.Given as goal

-- a plan below has no more operators than the plan
abbrev pub decreases-columns_over : goal.decreases-columns_over
decreases-columns_over l = 2 * steps l.plan.now

-- and what is to the right of it has fewer
abbrev pub decreases-plan_columns : goal.decreases-plan_columns
decreases-plan_columns l = 2 * steps l.plan.now + 1

-- each turn takes one of the plans that are left
abbrev pub decreases-plan_columns-up : goal.decreases-plan_columns-up
decreases-plan_columns-up l = length l.nodes.items

-- those that are left, over the columns of the last one
abbrev pub invariant-plan_columns-up : goal.invariant-plan_columns-up
invariant-plan_columns-up l =
    Rises (AreColumns l.fn.items) (l.fn.plan, []) (map (λ node. (node.0.now, node.1.now)) l.nodes.items) l.columns.items
