-- How many tables a plan reads in each of its forms.
use Rattle.std.proofs.Common.{◌≡◌, ◌+◌, refl, ℕ, List, Bool, true, false, Option, None, Some}
use Rattle.mz_plan.specs.Small.{tables_read}
use Rattle.mz_plan.specs.declared.aggregate.Aggregate.{Aggregate}
use Rattle.mz_plan.specs.declared.condition.Cond.{Cond}
use Rattle.mz_plan.specs.declared.plan.Plan.{Plan, Filter, Project, Join, Union, Group, Distinct}
use Rattle.mz_resolution.specs.Queries.{distinct_plan, filtered_plan, grouped_plan, projected_plan}

-- a filter
read_by_filter : (reads : ℕ → ℕ) (plan : Plan) (cond : Cond) → tables_read reads (Filter plan cond) ≡ tables_read reads plan
unfolding Rattle.mz_plan.specs.declared.plan.Plan.TheBlock.hidden-the_row-Plan-0 denote.Hole.Carrier.hidden
read_by_filter reads plan cond = refl

-- a project
read_by_project : (reads : ℕ → ℕ) (plan : Plan) (places : List ℕ) → tables_read reads (Project plan places) ≡ tables_read reads plan
unfolding Rattle.mz_plan.specs.declared.plan.Plan.TheBlock.hidden-the_row-Plan-0 denote.Hole.Carrier.hidden
read_by_project reads plan places = refl

-- a group
read_by_group : (reads : ℕ → ℕ) (plan : Plan) (places : List ℕ) (aggregates : List Aggregate)
    → tables_read reads (Group plan places aggregates) ≡ tables_read reads plan
unfolding Rattle.mz_plan.specs.declared.plan.Plan.TheBlock.hidden-the_row-Plan-0 denote.Hole.Carrier.hidden
read_by_group reads plan places aggregates = refl

-- a distinct
read_by_distinct : (reads : ℕ → ℕ) (plan : Plan) → tables_read reads (Distinct plan) ≡ tables_read reads plan
unfolding Rattle.mz_plan.specs.declared.plan.Plan.TheBlock.hidden-the_row-Plan-0 denote.Hole.Carrier.hidden
read_by_distinct reads plan = refl

-- a join
pub read_by_join : (reads : ℕ → ℕ) (left right : Plan) (pairs : List (ℕ × ℕ))
    → tables_read reads (Join left right pairs) ≡ tables_read reads left + tables_read reads right
unfolding Rattle.mz_plan.specs.declared.plan.Plan.TheBlock.hidden-the_row-Plan-0 denote.Hole.Carrier.hidden
read_by_join reads left right pairs = refl

-- a union
pub read_by_union : (reads : ℕ → ℕ) (left right : Plan)
    → tables_read reads (Union left right) ≡ tables_read reads left + tables_read reads right
unfolding Rattle.mz_plan.specs.declared.plan.Plan.TheBlock.hidden-the_row-Plan-0 denote.Hole.Carrier.hidden
read_by_union reads left right = refl

-- a condition, where there is one
pub read_filtered : (reads : ℕ → ℕ) (cond : Option Cond) (plan : Plan)
    → tables_read reads (filtered_plan cond plan) ≡ tables_read reads plan
read_filtered reads None plan = refl
read_filtered reads (Some cond) plan = read_by_filter reads plan cond

-- a grouping, where there is one
pub read_grouped : (reads : ℕ → ℕ) (keys : Option (List ℕ)) (aggregates : List Aggregate) (plan : Plan)
    → tables_read reads (grouped_plan keys aggregates plan) ≡ tables_read reads plan
read_grouped reads None aggregates plan = refl
read_grouped reads (Some keys) aggregates plan = read_by_group reads plan keys aggregates

-- items, unless they are all columns
pub read_projected : (reads : ℕ → ℕ) (places : Option (List ℕ)) (plan : Plan)
    → tables_read reads (projected_plan places plan) ≡ tables_read reads plan
read_projected reads None plan = refl
read_projected reads (Some places) plan = read_by_project reads plan places

-- DISTINCT, where it is written
pub read_distinct : (reads : ℕ → ℕ) (distinct : Bool) (plan : Plan)
    → tables_read reads (distinct_plan distinct plan) ≡ tables_read reads plan
read_distinct reads false plan = refl
read_distinct reads true plan = read_by_distinct reads plan
