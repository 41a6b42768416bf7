-- The leaves of a plan in each of its forms.
use Rattle.std.proofs.Common.{ℕ, List}
use Rattle.mz_plan.specs.declared.aggregate.Aggregate.{Aggregate}
use Rattle.mz_plan.specs.declared.condition.Cond.{Cond}
use Rattle.mz_plan.specs.declared.plan.Plan.{Plan, Filter, Project, Join, Union, Group, Distinct}
use Rattle.mz_plan.specs.Leaves.{AllLeaves}

-- of a filter
pub leaves_of_filter : (t i : ℕ → Type 0) (plan : Plan) (cond : Cond) → AllLeaves t i plan → AllLeaves t i (Filter plan cond)
unfolding Rattle.mz_plan.specs.declared.plan.Plan.TheBlock.hidden-the_row-Plan-0 denote.Hole.Carrier.hidden
leaves_of_filter t i plan cond h = h

-- of a project
pub leaves_of_project : (t i : ℕ → Type 0) (plan : Plan) (places : List ℕ) → AllLeaves t i plan → AllLeaves t i (Project plan places)
unfolding Rattle.mz_plan.specs.declared.plan.Plan.TheBlock.hidden-the_row-Plan-0 denote.Hole.Carrier.hidden
leaves_of_project t i plan places h = h

-- of a join
pub leaves_of_join : (t i : ℕ → Type 0) (left right : Plan) (pairs : List (ℕ × ℕ)) → AllLeaves t i left → AllLeaves t i right
    → AllLeaves t i (Join left right pairs)
unfolding Rattle.mz_plan.specs.declared.plan.Plan.TheBlock.hidden-the_row-Plan-0 denote.Hole.Carrier.hidden
leaves_of_join t i left right pairs h k = (h, k)

-- of a union
pub leaves_of_union : (t i : ℕ → Type 0) (left right : Plan) → AllLeaves t i left → AllLeaves t i right → AllLeaves t i (Union left right)
unfolding Rattle.mz_plan.specs.declared.plan.Plan.TheBlock.hidden-the_row-Plan-0 denote.Hole.Carrier.hidden
leaves_of_union t i left right h k = (h, k)

-- of a group
pub leaves_of_group : (t i : ℕ → Type 0) (plan : Plan) (places : List ℕ) (aggregates : List Aggregate) → AllLeaves t i plan
    → AllLeaves t i (Group plan places aggregates)
unfolding Rattle.mz_plan.specs.declared.plan.Plan.TheBlock.hidden-the_row-Plan-0 denote.Hole.Carrier.hidden
leaves_of_group t i plan places aggregates h = h

-- of a distinct
pub leaves_of_distinct : (t i : ℕ → Type 0) (plan : Plan) → AllLeaves t i plan → AllLeaves t i (Distinct plan)
unfolding Rattle.mz_plan.specs.declared.plan.Plan.TheBlock.hidden-the_row-Plan-0 denote.Hole.Carrier.hidden
leaves_of_distinct t i plan h = h
