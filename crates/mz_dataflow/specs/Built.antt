-- The nodes of a plan.
use Rattle.std.specs.Prelude.{◌≡◌, ◌≤◌, ◌^◌, ℕ, ⊤, List, ◌∷◌, ◌++◌, Option, None, Some}
use Rattle.std.specs.List.{AllByRecursion as Each}
use Rattle.mz_bag.specs.Mass.{mass}
use Rattle.mz_bag.specs.Weighted.{Weighted}
use Rattle.mz_plan.specs.Condition.{holds}
use Rattle.mz_plan.specs.Leaves.{AllLeaves}
use Rattle.mz_plan.specs.Meaning.{Leaves}
use Rattle.mz_plan.specs.Operators.{filtered, projected, joined, distinct}
use Rattle.mz_plan.specs.Small.{most_rows}
use Rattle.mz_plan.specs.declared.plan.Plan.{Plan, Table, Index, Filter', Project', Join', Union', Group', Distinct', more_of-Plan, end_of-Plan}
use Rattle.mz_ops.specs.Change.{Load}
use Rattle.mz_ops.specs.Laws.{product_load, sum_load}
use Rattle.mz_reduce.specs.Grouping.{grouped_ints}
use Rattle.mz_reduce.specs.Laws.{group_load, kept_load}
use Rattle.mz_dataflow.specs.Nodes.{top, below, after_node, after_nodes, IsFresh}
use Rattle.mz_dataflow.specs.Run.{bear_nodes, bears_node, within_binary, within_unary}
use Rattle.mz_dataflow.specs.declared.node.Node.{Node}

-- the rows of a plan, but that its groups are those of the rows that are no larger than an INT where a SUM is taken. Where
-- each SUM takes INTs alone it is what the plan means
abbrev pub meaning_of_ints : Leaves → Plan → Weighted
meaning_of_ints leaves (Table item) = leaves item
meaning_of_ints leaves (Index item) = leaves item
meaning_of_ints leaves (Filter' s (more_of-Plan plan end_of-Plan) cond) = filtered (holds cond) (meaning_of_ints leaves plan)
meaning_of_ints leaves (Project' s (more_of-Plan plan end_of-Plan) places) = projected places (meaning_of_ints leaves plan)
meaning_of_ints leaves (Join' s (more_of-Plan left end_of-Plan) r (more_of-Plan right end_of-Plan) pairs) =
    joined pairs (meaning_of_ints leaves left) (meaning_of_ints leaves right)
meaning_of_ints leaves (Union' s (more_of-Plan left end_of-Plan) r (more_of-Plan right end_of-Plan)) =
    meaning_of_ints leaves left ++ meaning_of_ints leaves right
meaning_of_ints leaves (Group' s (more_of-Plan plan end_of-Plan) places aggregates) =
    grouped_ints places aggregates (meaning_of_ints leaves plan)
meaning_of_ints leaves (Distinct' s (more_of-Plan plan end_of-Plan)) = distinct (meaning_of_ints leaves plan)

-- the load of each operator of a plan is within the bound, where the leaves have these rows before, and those after
abbrev pub bears_plan : Leaves → Leaves → Plan → Type 0
bears_plan before after (Table item) = ⊤
bears_plan before after (Index item) = ⊤
bears_plan before after (Filter' s (more_of-Plan plan end_of-Plan) cond) =
    within_unary sum_load (meaning_of_ints before plan) (meaning_of_ints after plan) × bears_plan before after plan
bears_plan before after (Project' s (more_of-Plan plan end_of-Plan) places) =
    within_unary sum_load (meaning_of_ints before plan) (meaning_of_ints after plan) × bears_plan before after plan
bears_plan before after (Join' s (more_of-Plan left end_of-Plan) r (more_of-Plan right end_of-Plan) pairs) =
    within_binary product_load (meaning_of_ints before left) (meaning_of_ints after left) (meaning_of_ints before right) (meaning_of_ints after right)
    × bears_plan before after left × bears_plan before after right
bears_plan before after (Union' s (more_of-Plan left end_of-Plan) r (more_of-Plan right end_of-Plan)) =
    within_binary sum_load (meaning_of_ints before left) (meaning_of_ints after left) (meaning_of_ints before right) (meaning_of_ints after right)
    × bears_plan before after left × bears_plan before after right
bears_plan before after (Group' s (more_of-Plan plan end_of-Plan) places aggregates) =
    within_unary group_load (meaning_of_ints before plan) (meaning_of_ints after plan) × bears_plan before after plan
bears_plan before after (Distinct' s (more_of-Plan plan end_of-Plan)) =
    within_unary kept_load (meaning_of_ints before plan) (meaning_of_ints after plan) × bears_plan before after plan

-- the rows of each table that a plan names weigh no more than a table may have, and those of each index no more than so many
-- tables, one at least, multiplied
abbrev pub AreFew : (ℕ → ℕ) → Leaves → Plan → Type 0
AreFew reads leaves plan =
    AllLeaves (λ item. mass (leaves item) ≤ most_rows) (λ item. (1 ≤ reads item) × (mass (leaves item) ≤ most_rows ^ reads item)) plan

-- nodes put the rows of a plan on a stack, whatever the stack and the leaves
pub record Puts (plan : Plan) (nodes : List Node) : Type 0 where
  pub puts : (leaves : Leaves) (stack : List Weighted) → after_nodes leaves nodes stack ≡ meaning_of_ints leaves plan ∷ stack

-- the loads of nodes are within the bound where those of a plan are
pub record Bears (plan : Plan) (nodes : List Node) : Type 0 where
  pub bears : (before after : Leaves) (olds news : List Weighted) → bears_plan before after plan → bear_nodes before after nodes olds news

-- nodes of a plan, which were told nothing yet, stand behind others
pub record IsBuilt (plan : Plan) (front all : List Node) : Type 0 where
  pub more : List Node
  pub behind : all ≡ front ++ more
  pub puts : Puts plan more
  pub bears : Bears plan more
  pub fresh : Each IsFresh more

-- where there is a plan: else there are only the others
abbrev pub IsBuiltOn : List Node → Option Plan → List Node → Type 0
IsBuiltOn front None all = all ≡ front
IsBuiltOn front (Some plan) all = IsBuilt plan front all

-- a node, which was told nothing yet, puts what is made of the first rows of a stack in their place, and has this load
pub record IsUnaryNode (made : Weighted → Weighted) (load : Load) (node : Node) : Type 0 where
  pub puts : (leaves : Leaves) (stack : List Weighted) → after_node leaves node stack ≡ made (top stack) ∷ below stack
  pub bears : (olds news : List Weighted) → within_unary load (top olds) (top news) → bears_node node olds news
  pub fresh : IsFresh node

-- or what is made of the first two, of which the first are the right side
pub record IsBinaryNode (made : Weighted → Weighted → Weighted) (load : Load) (node : Node) : Type 0 where
  pub puts : (leaves : Leaves) (stack : List Weighted)
      → after_node leaves node stack ≡ made (top (below stack)) (top stack) ∷ below (below stack)
  pub bears : (olds news : List Weighted) → within_binary load (top (below olds)) (top (below news)) (top olds) (top news)
      → bears_node node olds news
  pub fresh : IsFresh node
