-- The columns of a plan in each of its forms, as code matches them.
use Rattle.std.proofs.Common.{◌≡◌, refl, ℕ, ◌++◌, List, filter_map}
use Rattle.mz_plan.specs.Typed.{aggregate_column, columns_at, plan_columns}
use Rattle.mz_plan.specs.declared.aggregate.Aggregate.{Aggregate}
use Rattle.mz_plan.specs.declared.condition.Cond.{Cond}
use Rattle.mz_plan.specs.declared.item.Item.{Item}
use Rattle.mz_plan.specs.declared.plan.Plan.{Plan, Filter, Project, Join, Union, Group, Distinct}

-- of a filter
pub columns_of_filter : (items : List Item) (plan : Plan) (cond : Cond) → plan_columns items (Filter plan cond) ≡ plan_columns items plan
unfolding Rattle.mz_plan.specs.declared.plan.Plan.TheBlock.hidden-the_row-Plan-0 denote.Hole.Carrier.hidden
columns_of_filter items plan cond = refl

-- of a project
pub columns_of_project : (items : List Item) (plan : Plan) (places : List ℕ)
    → plan_columns items (Project plan places) ≡ columns_at places (plan_columns items plan)
unfolding Rattle.mz_plan.specs.declared.plan.Plan.TheBlock.hidden-the_row-Plan-0 denote.Hole.Carrier.hidden
columns_of_project items plan places = refl

-- of a join
pub columns_of_join : (items : List Item) (left right : Plan) (pairs : List (ℕ × ℕ))
    → plan_columns items (Join left right pairs) ≡ plan_columns items left ++ plan_columns items right
unfolding Rattle.mz_plan.specs.declared.plan.Plan.TheBlock.hidden-the_row-Plan-0 denote.Hole.Carrier.hidden
columns_of_join items left right pairs = refl

-- of a union
pub columns_of_union : (items : List Item) (left right : Plan) → plan_columns items (Union left right) ≡ plan_columns items left
unfolding Rattle.mz_plan.specs.declared.plan.Plan.TheBlock.hidden-the_row-Plan-0 denote.Hole.Carrier.hidden
columns_of_union items left right = refl

-- of a group
pub columns_of_group : (items : List Item) (plan : Plan) (places : List ℕ) (aggregates : List Aggregate)
    → plan_columns items (Group plan places aggregates) ≡ columns_at places (plan_columns items plan)
    ++ filter_map (aggregate_column (plan_columns items plan)) aggregates
unfolding Rattle.mz_plan.specs.declared.plan.Plan.TheBlock.hidden-the_row-Plan-0 denote.Hole.Carrier.hidden
columns_of_group items plan places aggregates = refl

-- of a distinct
pub columns_of_distinct : (items : List Item) (plan : Plan) → plan_columns items (Distinct plan) ≡ plan_columns items plan
unfolding Rattle.mz_plan.specs.declared.plan.Plan.TheBlock.hidden-the_row-Plan-0 denote.Hole.Carrier.hidden
columns_of_distinct items plan = refl

-- each form
pub ruleset column_rules = (columns_of_filter, columns_of_project, columns_of_join, columns_of_union, columns_of_group, columns_of_distinct)
