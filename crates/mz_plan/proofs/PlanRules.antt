-- What a plan means in each of its forms, as code matches them.
use Rattle.std.proofs.Common.{◌≡◌, refl, ℕ, ◌++◌, List}
use Rattle.mz_plan.specs.Condition.{holds}
use Rattle.mz_plan.specs.Meaning.{Leaves, meaning}
use Rattle.mz_plan.specs.Operators.{filtered, projected, joined, distinct, grouped}
use Rattle.mz_plan.specs.declared.aggregate.Aggregate.{Aggregate}
use Rattle.mz_plan.specs.declared.condition.Cond.{Cond}
use Rattle.mz_plan.specs.declared.plan.Plan.{Plan, Filter, Project, Join, Union, Group, Distinct}

-- a filter means
pub meaning_of_filter : (tables indexes : Leaves) (plan : Plan) (cond : Cond)
    → meaning tables indexes (Filter plan cond) ≡ filtered (holds cond) (meaning tables indexes plan)
unfolding Rattle.mz_plan.specs.declared.plan.Plan.TheBlock.hidden-the_row-Plan-0 denote.Hole.Carrier.hidden
meaning_of_filter tables indexes plan cond = refl

-- a project means
pub meaning_of_project : (tables indexes : Leaves) (plan : Plan) (places : List ℕ)
    → meaning tables indexes (Project plan places) ≡ projected places (meaning tables indexes plan)
unfolding Rattle.mz_plan.specs.declared.plan.Plan.TheBlock.hidden-the_row-Plan-0 denote.Hole.Carrier.hidden
meaning_of_project tables indexes plan places = refl

-- a join means
pub meaning_of_join : (tables indexes : Leaves) (left right : Plan) (pairs : List (ℕ × ℕ))
    → meaning tables indexes (Join left right pairs) ≡ joined pairs (meaning tables indexes left) (meaning tables indexes right)
unfolding Rattle.mz_plan.specs.declared.plan.Plan.TheBlock.hidden-the_row-Plan-0 denote.Hole.Carrier.hidden
meaning_of_join tables indexes left right pairs = refl

-- a union means
pub meaning_of_union : (tables indexes : Leaves) (left right : Plan)
    → meaning tables indexes (Union left right) ≡ meaning tables indexes left ++ meaning tables indexes right
unfolding Rattle.mz_plan.specs.declared.plan.Plan.TheBlock.hidden-the_row-Plan-0 denote.Hole.Carrier.hidden
meaning_of_union tables indexes left right = refl

-- a group means
pub meaning_of_group : (tables indexes : Leaves) (plan : Plan) (places : List ℕ) (aggregates : List Aggregate)
    → meaning tables indexes (Group plan places aggregates) ≡ grouped places aggregates (meaning tables indexes plan)
unfolding Rattle.mz_plan.specs.declared.plan.Plan.TheBlock.hidden-the_row-Plan-0 denote.Hole.Carrier.hidden
meaning_of_group tables indexes plan places aggregates = refl

-- a distinct means
pub meaning_of_distinct : (tables indexes : Leaves) (plan : Plan)
    → meaning tables indexes (Distinct plan) ≡ distinct (meaning tables indexes plan)
unfolding Rattle.mz_plan.specs.declared.plan.Plan.TheBlock.hidden-the_row-Plan-0 denote.Hole.Carrier.hidden
meaning_of_distinct tables indexes plan = refl

-- each form
pub ruleset meaning_rules =
    (meaning_of_filter, meaning_of_project, meaning_of_join, meaning_of_union, meaning_of_group, meaning_of_distinct)
