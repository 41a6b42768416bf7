-- A plan renamed over a first plan that is renamed, in each of its forms, as code matches them.
use Rattle.std.proofs.Common.{◌≡◌, refl, ap, ℕ, List, []}
use Rattle.mz_plan.specs.Leaves.{new_number, renamed}
use Rattle.mz_plan.specs.Spine.{first_of, renamed_over}
use Rattle.mz_plan.specs.declared.aggregate.Aggregate.{Aggregate}
use Rattle.mz_plan.specs.declared.condition.Cond.{Cond}
use Rattle.mz_plan.specs.declared.plan.Plan.{Plan, Table, Index, Filter', Project', Join', Union', Group', Distinct', Filter, Project, Join, Union, Group, Distinct, more_of-Plan, end_of-Plan}
use Rattle.mz_plan.proofs.SpineRules.{IsMade}

-- a filter
pub over_filter : (name : ℕ → ℕ) (plan : Plan) (cond : Cond) (first : Plan)
    → renamed_over name (Filter plan cond) first ≡ Filter first cond
unfolding Rattle.mz_plan.specs.declared.plan.Plan.TheBlock.hidden-the_row-Plan-0 denote.Hole.Carrier.hidden
over_filter name plan cond first = refl

-- a project
pub over_project : (name : ℕ → ℕ) (plan : Plan) (places : List ℕ) (first : Plan)
    → renamed_over name (Project plan places) first ≡ Project first places
unfolding Rattle.mz_plan.specs.declared.plan.Plan.TheBlock.hidden-the_row-Plan-0 denote.Hole.Carrier.hidden
over_project name plan places first = refl

-- a join
pub over_join : (name : ℕ → ℕ) (left right : Plan) (pairs : List (ℕ × ℕ)) (first : Plan)
    → renamed_over name (Join left right pairs) first ≡ Join first (renamed name right) pairs
unfolding Rattle.mz_plan.specs.declared.plan.Plan.TheBlock.hidden-the_row-Plan-0 denote.Hole.Carrier.hidden
over_join name left right pairs first = refl

-- a union
pub over_union : (name : ℕ → ℕ) (left right : Plan) (first : Plan)
    → renamed_over name (Union left right) first ≡ Union first (renamed name right)
unfolding Rattle.mz_plan.specs.declared.plan.Plan.TheBlock.hidden-the_row-Plan-0 denote.Hole.Carrier.hidden
over_union name left right first = refl

-- a group
pub over_group : (name : ℕ → ℕ) (plan : Plan) (places : List ℕ) (aggregates : List Aggregate) (first : Plan)
    → renamed_over name (Group plan places aggregates) first ≡ Group first places aggregates
unfolding Rattle.mz_plan.specs.declared.plan.Plan.TheBlock.hidden-the_row-Plan-0 denote.Hole.Carrier.hidden
over_group name plan places aggregates first = refl

-- a distinct
pub over_distinct : (name : ℕ → ℕ) (plan : Plan) (first : Plan)
    → renamed_over name (Distinct plan) first ≡ Distinct first
unfolding Rattle.mz_plan.specs.declared.plan.Plan.TheBlock.hidden-the_row-Plan-0 denote.Hole.Carrier.hidden
over_distinct name plan first = refl

-- each form
pub ruleset over_rules = (over_filter, over_project, over_join, over_union, over_group, over_distinct)

-- a plan is another one renamed
abbrev pub IsRenamed : (ℕ → ℕ) → Plan → Plan → Type 0
IsRenamed name plan made = made ≡ renamed name plan

-- over its first plan renamed, a plan is renamed itself
pub renamed_next : (name : ℕ → ℕ) (plan made : Plan) → IsMade (IsRenamed name) (first_of plan) made
    → renamed_over name plan made ≡ renamed name plan
renamed_next name (Table item) made h = refl
renamed_next name (Index item) made h = refl
renamed_next name (Filter' s (more_of-Plan plan end_of-Plan) cond) made h = ap (λ p. Filter p cond) h
renamed_next name (Project' s (more_of-Plan plan end_of-Plan) places) made h = ap (λ p. Project p places) h
renamed_next name (Join' s (more_of-Plan plan end_of-Plan) r (more_of-Plan right end_of-Plan) pairs) made h =
    ap (λ p. Join p (renamed name right) pairs) h
renamed_next name (Union' s (more_of-Plan plan end_of-Plan) r (more_of-Plan right end_of-Plan)) made h =
    ap (λ p. Union p (renamed name right)) h
renamed_next name (Group' s (more_of-Plan plan end_of-Plan) places aggregates) made h = ap (λ p. Group p places aggregates) h
renamed_next name (Distinct' s (more_of-Plan plan end_of-Plan)) made h = ap (λ p. Distinct p) h

-- with no names a plan stays
pub renamed_none : (plan : Plan) → renamed (new_number []) plan ≡ plan
unfolding Rattle.mz_plan.specs.declared.plan.Plan.TheBlock.shape-the_row-Plan-0 Rattle.mz_plan.specs.declared.plan.Plan.TheBlock.hidden-the_row-Plan-0 denote.Hole.Carrier.hidden
renamed_none (Table item) = refl
renamed_none (Index item) = refl
renamed_none (Filter' s (more_of-Plan plan end_of-Plan) cond) = ap (λ p. Filter p cond) (renamed_none plan)
renamed_none (Project' s (more_of-Plan plan end_of-Plan) places) = ap (λ p. Project p places) (renamed_none plan)
renamed_none (Join' s (more_of-Plan left end_of-Plan) r (more_of-Plan right end_of-Plan) pairs) =
    λ i. Join (renamed_none left i) (renamed_none right i) pairs
renamed_none (Union' s (more_of-Plan left end_of-Plan) r (more_of-Plan right end_of-Plan)) =
    λ i. Union (renamed_none left i) (renamed_none right i)
renamed_none (Group' s (more_of-Plan plan end_of-Plan) places aggregates) = ap (λ p. Group p places aggregates) (renamed_none plan)
renamed_none (Distinct' s (more_of-Plan plan end_of-Plan)) = ap (λ p. Distinct p) (renamed_none plan)
