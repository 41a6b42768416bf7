use Rattle.std.proofs.Common.{◌≡◌, length}
use Rattle.mz_eval.specs.Nodes.{index_node}
use Rattle.mz_eval.proofs.nodes.index_node.Given as goal

-- the indexes that are left decide
abbrev pub invariant-plans : goal.invariant-plans
invariant-plans l = index_node l.left l.item ≡ index_node l.fn.plans l.fn.item

-- one fewer each time
abbrev pub decreases-plans : goal.decreases-plans
decreases-plans l = length l.left
