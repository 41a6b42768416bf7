-- The leaves of the plan of a query are those of what its names stand for.
use Rattle.std.proofs.Common.{◌+◌, ℕ, Bool, true, false, List, [], ◌∷◌, Option, None, Some}
use Rattle.std.specs.Prelude.{IfOk}
use Rattle.std.specs.List.{AllByRecursion as Each}
use Rattle.mz_statement.specs.declared.query.Select.{Select}
use Rattle.mz_statement.specs.declared.reference.Reference.{Reference}
use Rattle.mz_plan.specs.declared.aggregate.Aggregate.{Aggregate}
use Rattle.mz_plan.specs.declared.condition.Cond.{Cond}
use Rattle.mz_plan.specs.declared.plan.Plan.{Plan, Join, Union}
use Rattle.mz_resolution.specs.declared.relation.Referred.{Referred}
use Rattle.mz_resolution.specs.declared.relation.Relation.{Relation}
use Rattle.mz_resolution.specs.Columns.{Sight, sight_of}
use Rattle.mz_resolution.specs.Conditions.{condition, equalities}
use Rattle.mz_resolution.specs.Listings.{keys_of, listing}
use Rattle.mz_resolution.specs.Queries.{Names, distinct_plan, filtered_plan, grouped_plan, joined_plan, place_meant, projected_plan, queried, referred, same_types, select_of, select_over, selected, united}
use Rattle.mz_resolution.specs.Steps.{each}
use Rattle.mz_plan.specs.Leaves.{AllLeaves}
use Rattle.mz_resolve_laws.proofs.LeafRules.{leaves_of_distinct, leaves_of_filter, leaves_of_group, leaves_of_join, leaves_of_project, leaves_of_union}
use Rattle.mz_resolve_laws.proofs.StepTools.{any_then_ok, each_ok, guard_ok, choice_ok, then_ok}

-- the leaves of a relation's plan
abbrev pub Fit : (ℕ → Type 0) → (ℕ → Type 0) → Relation → Type 0
Fit t i relation = AllLeaves t i relation.plan

-- what names stand for
abbrev pub NamesFit : (ℕ → Type 0) → (ℕ → Type 0) → Names → Type 0
NamesFit t i names = (name : List ℕ) → IfOk (names name) (Fit t i)

-- a reference
referred_fits : (t i : ℕ → Type 0) (names : Names) → NamesFit t i names → (reference : Reference)
    → IfOk (referred names reference) (λ r. Fit t i r.relation)
referred_fits t i names h reference =
    then_ok (names reference.name) _ (Fit t i) (λ r. Fit t i r.relation) (h reference.name) (λ relation fits. fits)

-- joins
joined_fits : (t i : ℕ → Type 0) (plan : Plan) (others : List Referred) (pairs : List (List (ℕ × ℕ))) → AllLeaves t i plan
    → Each (λ r. Fit t i r.relation) others → AllLeaves t i (joined_plan plan others pairs)
joined_fits t i plan [] pairs h k = h
joined_fits t i plan (next ∷ others) [] h k = h
joined_fits t i plan (next ∷ others) (first ∷ pairs) h k =
    joined_fits t i (Join plan next.relation.plan first) others pairs (leaves_of_join t i plan next.relation.plan first h k.0) k.1

-- a condition
filtered_fits : (t i : ℕ → Type 0) (cond : Option Cond) (plan : Plan) → AllLeaves t i plan → AllLeaves t i (filtered_plan cond plan)
filtered_fits t i None plan h = h
filtered_fits t i (Some cond) plan h = leaves_of_filter t i plan cond h

-- a grouping
grouped_fits : (t i : ℕ → Type 0) (keys : Option (List ℕ)) (aggregates : List Aggregate) (plan : Plan) → AllLeaves t i plan
    → AllLeaves t i (grouped_plan keys aggregates plan)
grouped_fits t i None aggregates plan h = h
grouped_fits t i (Some keys) aggregates plan h = leaves_of_group t i plan keys aggregates h

-- the items
projected_fits : (t i : ℕ → Type 0) (places : Option (List ℕ)) (plan : Plan) → AllLeaves t i plan
    → AllLeaves t i (projected_plan places plan)
projected_fits t i None plan h = h
projected_fits t i (Some places) plan h = leaves_of_project t i plan places h

-- DISTINCT
distinct_fits : (t i : ℕ → Type 0) (distinct : Bool) (plan : Plan) → AllLeaves t i plan → AllLeaves t i (distinct_plan distinct plan)
distinct_fits t i false plan h = h
distinct_fits t i true plan h = leaves_of_distinct t i plan h

-- a select over its references
over_fits : (t i : ℕ → Type 0) (sight : Sight) (first : Referred) (others : List Referred) (select : Select) → Fit t i first.relation
    → Each (λ r. Fit t i r.relation) others
    → IfOk (select_over sight first others select) (Fit t i)
over_fits t i sight first others select h k =
    any_then_ok (equalities sight 1 select.joins) _ (Fit t i) (λ pairs _. any_then_ok (condition sight select.test) _ (Fit t i) (λ cond _.
    any_then_ok (each (place_meant sight) select.group) _ (Fit t i)
    (λ places _. any_then_ok (listing sight (keys_of select places) select.items) _ (Fit t i) (λ found _.
    guard_ok _ (select_of first others select pairs cond (keys_of select places) found) _ (Fit t i) (λ _.
    distinct_fits t i select.distinct _ (projected_fits t i found.places _ (grouped_fits t i (keys_of select places) found.aggregates _
    (filtered_fits t i cond _ (joined_fits t i first.relation.plan others pairs h k)))))))))

-- a select
selected_fits : (t i : ℕ → Type 0) (names : Names) → NamesFit t i names → (select : Select) → IfOk (selected names select) (Fit t i)
selected_fits t i names h select =
    then_ok (referred names select.first) _ (λ r. Fit t i r.relation) (Fit t i) (referred_fits t i names h select.first) (λ first here.
    then_ok (each (λ join. referred names join.reference) select.joins) _ (Each (λ r. Fit t i r.relation)) (Fit t i)
    (each_ok (λ join. referred names join.reference) (λ r. Fit t i r.relation)
    (λ join. referred_fits t i names h join.reference) select.joins)
    (λ others there. over_fits t i (sight_of (first ∷ others)) first others select here there))

-- UNION ALL
united_fits : (t i : ℕ → Type 0) (whole : Relation) (others : List Relation) → Fit t i whole → Each (Fit t i) others
    → IfOk (united whole others) (Fit t i)
united_fits t i whole [] h k = h
united_fits t i whole (next ∷ others) h k =
    choice_ok (same_types whole.columns next.columns) _ _ (Fit t i)
    (λ _. united_fits t i (record { columns = whole.columns; plan = Union whole.plan next.plan; tables = whole.tables + next.tables })
    others (leaves_of_union t i whole.plan next.plan h k.0) k.1) (λ _. tt)

-- a query
pub queried_fits : (t i : ℕ → Type 0) (names : Names) → NamesFit t i names → (selects : List Select)
    → IfOk (queried names selects) (Fit t i)
queried_fits t i names h [] = tt
queried_fits t i names h (select ∷ selects) =
    then_ok (selected names select) _ (Fit t i) (Fit t i) (selected_fits t i names h select) (λ first here.
    then_ok (each (selected names) selects) _ (Each (Fit t i)) (Fit t i)
    (each_ok (selected names) (Fit t i) (selected_fits t i names h) selects) (λ others there.
    then_ok (united first others) _ (Fit t i) (Fit t i) (united_fits t i first others here there)
    (λ whole fits. guard_ok _ whole _ (Fit t i) (λ _. fits))))
