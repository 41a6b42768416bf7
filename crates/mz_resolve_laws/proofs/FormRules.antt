-- When a plan is well formed, and which types it gives, in each of its forms.
use Rattle.std.proofs.Common.{◌≡◌, ◌∙◌, sym, ap, ℕ, List, ◌++◌}
use Rattle.std.specs.List.{AllByRecursion as Each, filter_map}
use Rattle.std.proofs.lemmas.List.{map-append}
use Rattle.mz_plan.specs.PlanTypes.{aggregate_type, types_at}
use Rattle.mz_plan.specs.Typed.{plan_columns}
use Rattle.mz_plan.specs.Types.{plan_types, types_of}
use Rattle.mz_plan.specs.WellFormed.{AggregateFits, CondFits, IsWellFormed, PairsFit, PlacesFit}
use Rattle.mz_plan.specs.declared.aggregate.Aggregate.{Aggregate}
use Rattle.mz_plan.specs.declared.condition.Cond.{Cond}
use Rattle.mz_plan.specs.declared.item.Item.{Item}
use Rattle.mz_plan.specs.declared.plan.Plan.{Plan, Filter, Project, Join, Union, Group, Distinct}
use Rattle.mz_plan.proofs.TypeRules.{columns_of_filter, columns_of_join, columns_of_union, columns_of_distinct}
use Rattle.mz_plan_laws.proofs.ScopeTypes.{types_in_scope}

-- ---- types

-- of a filter
pub types_of_filter : (items : List Item) (plan : Plan) (cond : Cond) → plan_types items (Filter plan cond) ≡ plan_types items plan
types_of_filter items plan cond = ap types_of (columns_of_filter items plan cond)

-- of a project
pub types_of_project : (items : List Item) (plan : Plan) (places : List ℕ)
    → plan_types items (Project plan places) ≡ types_at places (plan_types items plan)
unfolding Rattle.mz_plan.specs.declared.plan.Plan.TheBlock.hidden-the_row-Plan-0 denote.Hole.Carrier.hidden
types_of_project items plan places =
    types_in_scope items (Project plan places) ∙ ap (types_at places) (sym (types_in_scope items plan))

-- of a join
pub types_of_join : (items : List Item) (left right : Plan) (pairs : List (ℕ × ℕ))
    → plan_types items (Join left right pairs) ≡ plan_types items left ++ plan_types items right
types_of_join items left right pairs = ap types_of (columns_of_join items left right pairs)
    ∙ map-append (λ column. column.kind) (plan_columns items left) (plan_columns items right)

-- of a union
pub types_of_union : (items : List Item) (left right : Plan) → plan_types items (Union left right) ≡ plan_types items left
types_of_union items left right = ap types_of (columns_of_union items left right)

-- of a group
pub types_of_group : (items : List Item) (plan : Plan) (places : List ℕ) (aggregates : List Aggregate)
    → plan_types items (Group plan places aggregates)
    ≡ types_at places (plan_types items plan) ++ filter_map (aggregate_type (plan_types items plan)) aggregates
unfolding Rattle.mz_plan.specs.declared.plan.Plan.TheBlock.hidden-the_row-Plan-0 denote.Hole.Carrier.hidden
types_of_group items plan places aggregates =
    types_in_scope items (Group plan places aggregates)
    ∙ ap (λ types. types_at places types ++ filter_map (aggregate_type types) aggregates) (sym (types_in_scope items plan))

-- of a distinct
pub types_of_distinct : (items : List Item) (plan : Plan) → plan_types items (Distinct plan) ≡ plan_types items plan
types_of_distinct items plan = ap types_of (columns_of_distinct items plan)

-- ---- forms

-- a filter
pub form_of_filter : (items : List Item) (plan : Plan) (cond : Cond) → IsWellFormed items plan → CondFits (plan_types items plan) cond
    → IsWellFormed items (Filter plan cond)
unfolding Rattle.mz_plan.specs.declared.plan.Plan.TheBlock.hidden-the_row-Plan-0 denote.Hole.Carrier.hidden
form_of_filter items plan cond h k = (h, k)

-- a project
pub form_of_project : (items : List Item) (plan : Plan) (places : List ℕ) → IsWellFormed items plan
    → PlacesFit (plan_types items plan) places → IsWellFormed items (Project plan places)
unfolding Rattle.mz_plan.specs.declared.plan.Plan.TheBlock.hidden-the_row-Plan-0 denote.Hole.Carrier.hidden
form_of_project items plan places h k = (h, k)

-- a join
pub form_of_join : (items : List Item) (left right : Plan) (pairs : List (ℕ × ℕ)) → IsWellFormed items left → IsWellFormed items right
    → PairsFit (plan_types items left) (plan_types items right) pairs → IsWellFormed items (Join left right pairs)
unfolding Rattle.mz_plan.specs.declared.plan.Plan.TheBlock.hidden-the_row-Plan-0 denote.Hole.Carrier.hidden
form_of_join items left right pairs h k l = (h, k, l)

-- a union
pub form_of_union : (items : List Item) (left right : Plan) → IsWellFormed items left → IsWellFormed items right
    → plan_types items left ≡ plan_types items right → IsWellFormed items (Union left right)
unfolding Rattle.mz_plan.specs.declared.plan.Plan.TheBlock.hidden-the_row-Plan-0 denote.Hole.Carrier.hidden
form_of_union items left right h k l = (h, k, l)

-- a group
pub form_of_group : (items : List Item) (plan : Plan) (places : List ℕ) (aggregates : List Aggregate) → IsWellFormed items plan
    → PlacesFit (plan_types items plan) places
    → Each (AggregateFits (plan_types items plan)) aggregates → IsWellFormed items (Group plan places aggregates)
unfolding Rattle.mz_plan.specs.declared.plan.Plan.TheBlock.hidden-the_row-Plan-0 denote.Hole.Carrier.hidden
form_of_group items plan places aggregates h k l = (h, k, l)

-- a distinct
pub form_of_distinct : (items : List Item) (plan : Plan) → IsWellFormed items plan → IsWellFormed items (Distinct plan)
unfolding Rattle.mz_plan.specs.declared.plan.Plan.TheBlock.hidden-the_row-Plan-0 denote.Hole.Carrier.hidden
form_of_distinct items plan h = h
