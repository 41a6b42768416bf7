-- The nodes that stand one below another under a plan: plans, each with the indexes that it sees.
use Rattle.std.specs.Prelude.{ℕ, ◌==◌, List, [], ◌∷◌, Option, None, Some, option_map, if◌then◌else◌}
use Rattle.mz_plan.specs.Spine.{first_of, Leads}
use Rattle.mz_plan.specs.declared.plan.Plan.{Plan, Index}

-- a plan, and the plans of the indexes that it sees, the newest first
abbrev pub Node : Type 0
Node = Plan × List (ℕ × Plan)

-- the plan of an index, which sees the older ones, where the index is there
abbrev pub index_node : List (ℕ × Plan) → ℕ → Option Node
index_node [] item = None
index_node (newest ∷ older) item = if newest.0 == item then Some (newest.1, older) else index_node older item

-- the node below a plan that sees these indexes: of an index that of its plan, and else the first plan below, which sees the same
abbrev pub node_below : List (ℕ × Plan) → Plan → Option Node
node_below plans (Index item) = index_node plans item
node_below plans plan = option_map (λ below. (below, plans)) (first_of plan)

-- the node below a node
abbrev pub next_of : Node → Option Node
next_of node = node_below node.1 node.0

-- the node and those below it, to the last of them
abbrev pub AreNodes : Node → List Node → Type 0
AreNodes node nodes = Leads next_of (Some node) nodes None
