-- The leaves of a plan and the plan with them renamed, in each of its forms, as code matches them.
use Rattle.std.proofs.Common.{◌≡◌, refl, ℕ, ◌++◌, List}
use Rattle.mz_plan.specs.Leaves.{leaves_of, renamed}
use Rattle.mz_plan.specs.declared.aggregate.Aggregate.{Aggregate}
use Rattle.mz_plan.specs.declared.condition.Cond.{Cond}
use Rattle.mz_plan.specs.declared.plan.Plan.{Plan, Filter, Project, Join, Union, Group, Distinct}

-- the leaves of a filter
pub leaves_of_filter : (plan : Plan) (cond : Cond) → leaves_of (Filter plan cond) ≡ leaves_of plan
unfolding Rattle.mz_plan.specs.declared.plan.Plan.TheBlock.hidden-the_row-Plan-0 denote.Hole.Carrier.hidden
leaves_of_filter plan cond = refl

-- the leaves of a project
pub leaves_of_project : (plan : Plan) (places : List ℕ) → leaves_of (Project plan places) ≡ leaves_of plan
unfolding Rattle.mz_plan.specs.declared.plan.Plan.TheBlock.hidden-the_row-Plan-0 denote.Hole.Carrier.hidden
leaves_of_project plan places = refl

-- the leaves of a join
pub leaves_of_join : (left right : Plan) (pairs : List (ℕ × ℕ)) → leaves_of (Join left right pairs) ≡ leaves_of left ++ leaves_of right
unfolding Rattle.mz_plan.specs.declared.plan.Plan.TheBlock.hidden-the_row-Plan-0 denote.Hole.Carrier.hidden
leaves_of_join left right pairs = refl

-- the leaves of a union
pub leaves_of_union : (left right : Plan) → leaves_of (Union left right) ≡ leaves_of left ++ leaves_of right
unfolding Rattle.mz_plan.specs.declared.plan.Plan.TheBlock.hidden-the_row-Plan-0 denote.Hole.Carrier.hidden
leaves_of_union left right = refl

-- the leaves of a group
pub leaves_of_group : (plan : Plan) (places : List ℕ) (aggregates : List Aggregate)
    → leaves_of (Group plan places aggregates) ≡ leaves_of plan
unfolding Rattle.mz_plan.specs.declared.plan.Plan.TheBlock.hidden-the_row-Plan-0 denote.Hole.Carrier.hidden
leaves_of_group plan places aggregates = refl

-- the leaves of a distinct
pub leaves_of_distinct : (plan : Plan) → leaves_of (Distinct plan) ≡ leaves_of plan
unfolding Rattle.mz_plan.specs.declared.plan.Plan.TheBlock.hidden-the_row-Plan-0 denote.Hole.Carrier.hidden
leaves_of_distinct plan = refl

-- a filter renamed
pub renamed_filter : (name : ℕ → ℕ) (plan : Plan) (cond : Cond) → renamed name (Filter plan cond) ≡ Filter (renamed name plan) cond
unfolding Rattle.mz_plan.specs.declared.plan.Plan.TheBlock.hidden-the_row-Plan-0 denote.Hole.Carrier.hidden
renamed_filter name plan cond = refl

-- a project renamed
pub renamed_project : (name : ℕ → ℕ) (plan : Plan) (places : List ℕ)
    → renamed name (Project plan places) ≡ Project (renamed name plan) places
unfolding Rattle.mz_plan.specs.declared.plan.Plan.TheBlock.hidden-the_row-Plan-0 denote.Hole.Carrier.hidden
renamed_project name plan places = refl

-- a join renamed
pub renamed_join : (name : ℕ → ℕ) (left right : Plan) (pairs : List (ℕ × ℕ))
    → renamed name (Join left right pairs) ≡ Join (renamed name left) (renamed name right) pairs
unfolding Rattle.mz_plan.specs.declared.plan.Plan.TheBlock.hidden-the_row-Plan-0 denote.Hole.Carrier.hidden
renamed_join name left right pairs = refl

-- a union renamed
pub renamed_union : (name : ℕ → ℕ) (left right : Plan)
    → renamed name (Union left right) ≡ Union (renamed name left) (renamed name right)
unfolding Rattle.mz_plan.specs.declared.plan.Plan.TheBlock.hidden-the_row-Plan-0 denote.Hole.Carrier.hidden
renamed_union name left right = refl

-- a group renamed
pub renamed_group : (name : ℕ → ℕ) (plan : Plan) (places : List ℕ) (aggregates : List Aggregate)
    → renamed name (Group plan places aggregates) ≡ Group (renamed name plan) places aggregates
unfolding Rattle.mz_plan.specs.declared.plan.Plan.TheBlock.hidden-the_row-Plan-0 denote.Hole.Carrier.hidden
renamed_group name plan places aggregates = refl

-- a distinct renamed
pub renamed_distinct : (name : ℕ → ℕ) (plan : Plan) → renamed name (Distinct plan) ≡ Distinct (renamed name plan)
unfolding Rattle.mz_plan.specs.declared.plan.Plan.TheBlock.hidden-the_row-Plan-0 denote.Hole.Carrier.hidden
renamed_distinct name plan = refl

-- each form
pub ruleset leaf_rules = (leaves_of_filter, leaves_of_project, leaves_of_join, leaves_of_union, leaves_of_group, leaves_of_distinct)

-- and each renamed
pub ruleset renamed_rules = (renamed_filter, renamed_project, renamed_join, renamed_union, renamed_group, renamed_distinct)
