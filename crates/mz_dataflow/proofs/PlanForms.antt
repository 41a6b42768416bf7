-- What the nodes of a plan put in each of its forms, as code matches them.
use Rattle.std.proofs.Common.{◌≡◌, refl, ap, ◌∙◌, ℕ, ◌++◌, List}
use Rattle.std.specs.Bool.{⊤}
use Rattle.mz_plan.specs.Condition.{holds}
use Rattle.mz_plan.specs.Meaning.{Leaves, meaning}
use Rattle.mz_plan.specs.Operators.{filtered, projected, joined, distinct}
use Rattle.mz_plan.specs.Small.{IsSummingInts}
use Rattle.mz_plan.specs.declared.aggregate.Aggregate.{Aggregate}
use Rattle.mz_plan.specs.declared.condition.Cond.{Cond}
use Rattle.mz_plan.specs.declared.plan.Plan.{Plan, Table, Index, Filter', Project', Join', Union', Group', Distinct', Filter, Project, Join, Union, Group, Distinct, more_of-Plan, end_of-Plan}
use Rattle.mz_ops.specs.Laws.{product_load, sum_load}
use Rattle.mz_reduce.specs.Grouping.{grouped_ints}
use Rattle.mz_reduce.specs.Laws.{group_load, kept_load}
use Rattle.mz_reduce.proofs.GroupLaws.{groups_of_ints}
use Rattle.mz_dataflow.specs.Built.{bears_plan, meaning_of_ints}
use Rattle.mz_dataflow.specs.Run.{within_binary, within_unary}

-- of a filter
pub ints_of_filter : (leaves : Leaves) (plan : Plan) (cond : Cond)
    → meaning_of_ints leaves (Filter plan cond) ≡ filtered (holds cond) (meaning_of_ints leaves plan)
unfolding Rattle.mz_plan.specs.declared.plan.Plan.TheBlock.hidden-the_row-Plan-0 denote.Hole.Carrier.hidden
ints_of_filter leaves plan cond = refl

-- of a projection
pub ints_of_project : (leaves : Leaves) (plan : Plan) (places : List ℕ)
    → meaning_of_ints leaves (Project plan places) ≡ projected places (meaning_of_ints leaves plan)
unfolding Rattle.mz_plan.specs.declared.plan.Plan.TheBlock.hidden-the_row-Plan-0 denote.Hole.Carrier.hidden
ints_of_project leaves plan places = refl

-- of a join
pub ints_of_join : (leaves : Leaves) (left right : Plan) (pairs : List (ℕ × ℕ))
    → meaning_of_ints leaves (Join left right pairs) ≡ joined pairs (meaning_of_ints leaves left) (meaning_of_ints leaves right)
unfolding Rattle.mz_plan.specs.declared.plan.Plan.TheBlock.hidden-the_row-Plan-0 denote.Hole.Carrier.hidden
ints_of_join leaves left right pairs = refl

-- of a union
pub ints_of_union : (leaves : Leaves) (left right : Plan)
    → meaning_of_ints leaves (Union left right) ≡ meaning_of_ints leaves left ++ meaning_of_ints leaves right
unfolding Rattle.mz_plan.specs.declared.plan.Plan.TheBlock.hidden-the_row-Plan-0 denote.Hole.Carrier.hidden
ints_of_union leaves left right = refl

-- of groups
pub ints_of_group : (leaves : Leaves) (plan : Plan) (places : List ℕ) (aggregates : List Aggregate)
    → meaning_of_ints leaves (Group plan places aggregates) ≡ grouped_ints places aggregates (meaning_of_ints leaves plan)
unfolding Rattle.mz_plan.specs.declared.plan.Plan.TheBlock.hidden-the_row-Plan-0 denote.Hole.Carrier.hidden
ints_of_group leaves plan places aggregates = refl

-- of distinct rows
pub ints_of_distinct : (leaves : Leaves) (plan : Plan)
    → meaning_of_ints leaves (Distinct plan) ≡ distinct (meaning_of_ints leaves plan)
unfolding Rattle.mz_plan.specs.declared.plan.Plan.TheBlock.hidden-the_row-Plan-0 denote.Hole.Carrier.hidden
ints_of_distinct leaves plan = refl

-- where each SUM takes INTs alone it is what the plan means
pub plans_of_ints : (leaves : Leaves) (plan : Plan) → IsSummingInts leaves leaves (λ item. ⊤) plan
    → meaning_of_ints leaves plan ≡ meaning leaves leaves plan
plans_of_ints leaves (Table item) h = refl
plans_of_ints leaves (Index item) h = refl
plans_of_ints leaves (Filter' s (more_of-Plan plan end_of-Plan) cond) h = ap (filtered (holds cond)) (plans_of_ints leaves plan h)
plans_of_ints leaves (Project' s (more_of-Plan plan end_of-Plan) places) h = ap (projected places) (plans_of_ints leaves plan h)
plans_of_ints leaves (Join' s (more_of-Plan left end_of-Plan) r (more_of-Plan right end_of-Plan) pairs) h =
    λ i. joined pairs (plans_of_ints leaves left h.0 i) (plans_of_ints leaves right h.1 i)
plans_of_ints leaves (Union' s (more_of-Plan left end_of-Plan) r (more_of-Plan right end_of-Plan)) h =
    λ i. plans_of_ints leaves left h.0 i ++ plans_of_ints leaves right h.1 i
plans_of_ints leaves (Group' s (more_of-Plan plan end_of-Plan) places aggregates) h =
    ap (grouped_ints places aggregates) (plans_of_ints leaves plan h.1) ∙ groups_of_ints places aggregates (meaning leaves leaves plan) h.0
plans_of_ints leaves (Distinct' s (more_of-Plan plan end_of-Plan)) h = ap distinct (plans_of_ints leaves plan h)

-- ---- loads

-- of a filter
pub bears_of_filter : (before after : Leaves) (plan : Plan) (cond : Cond) → bears_plan before after (Filter plan cond)
    → within_unary sum_load (meaning_of_ints before plan) (meaning_of_ints after plan) × bears_plan before after plan
unfolding Rattle.mz_plan.specs.declared.plan.Plan.TheBlock.hidden-the_row-Plan-0 denote.Hole.Carrier.hidden
bears_of_filter before after plan cond w = w

-- of a projection
pub bears_of_project : (before after : Leaves) (plan : Plan) (places : List ℕ) → bears_plan before after (Project plan places)
    → within_unary sum_load (meaning_of_ints before plan) (meaning_of_ints after plan) × bears_plan before after plan
unfolding Rattle.mz_plan.specs.declared.plan.Plan.TheBlock.hidden-the_row-Plan-0 denote.Hole.Carrier.hidden
bears_of_project before after plan places w = w

-- of a join
pub bears_of_join : (before after : Leaves) (left right : Plan) (pairs : List (ℕ × ℕ)) → bears_plan before after (Join left right pairs)
    → within_binary product_load (meaning_of_ints before left) (meaning_of_ints after left) (meaning_of_ints before right) (meaning_of_ints after right)
    × bears_plan before after left × bears_plan before after right
unfolding Rattle.mz_plan.specs.declared.plan.Plan.TheBlock.hidden-the_row-Plan-0 denote.Hole.Carrier.hidden
bears_of_join before after left right pairs w = w

-- of a union
pub bears_of_union : (before after : Leaves) (left right : Plan) → bears_plan before after (Union left right)
    → within_binary sum_load (meaning_of_ints before left) (meaning_of_ints after left) (meaning_of_ints before right) (meaning_of_ints after right)
    × bears_plan before after left × bears_plan before after right
unfolding Rattle.mz_plan.specs.declared.plan.Plan.TheBlock.hidden-the_row-Plan-0 denote.Hole.Carrier.hidden
bears_of_union before after left right w = w

-- of groups
pub bears_of_group : (before after : Leaves) (plan : Plan) (places : List ℕ) (aggregates : List Aggregate) → bears_plan before after (Group plan places aggregates)
    → within_unary group_load (meaning_of_ints before plan) (meaning_of_ints after plan) × bears_plan before after plan
unfolding Rattle.mz_plan.specs.declared.plan.Plan.TheBlock.hidden-the_row-Plan-0 denote.Hole.Carrier.hidden
bears_of_group before after plan places aggregates w = w

-- of distinct rows
pub bears_of_distinct : (before after : Leaves) (plan : Plan) → bears_plan before after (Distinct plan)
    → within_unary kept_load (meaning_of_ints before plan) (meaning_of_ints after plan) × bears_plan before after plan
unfolding Rattle.mz_plan.specs.declared.plan.Plan.TheBlock.hidden-the_row-Plan-0 denote.Hole.Carrier.hidden
bears_of_distinct before after plan w = w
