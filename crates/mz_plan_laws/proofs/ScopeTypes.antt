-- A plan that is well formed over the items of a scope is so over the types of these items.
use Rattle.std.proofs.Common.{◌≡◌, ◌∙◌, ℕ, List, [], ◌∷◌, ◌++◌, Option, None, Some, slice_get, filter_map, refl, sym, ap, subst}
use Rattle.std.specs.Prelude.{codes}
use Rattle.std.proofs.lemmas.List.{map-append}
use Rattle.std.proofs.lemmas.Option.{slice_get-map}
use Rattle.std.specs.List.{AllByRecursion as Each, cons_option}
use Rattle.std.specs.Option.{option_map}
use Rattle.mz_statement.specs.declared.column.Column.{Column}
use Rattle.mz_statement.specs.declared.column.ColumnType.{ColumnType}
use Rattle.mz_plan.specs.PlanTypes.{IsFormedOver, aggregate_type, item_types, types_at, types_over}
use Rattle.mz_plan.specs.Typed.{aggregate_column, columns_at, plan_columns, renamed}
use Rattle.mz_plan.specs.Types.{plan_types, types_of}
use Rattle.mz_plan.specs.WellFormed.{AggregateFits, CondFits, IsWellFormed, PairsFit, PlacesFit}
use Rattle.mz_plan.specs.declared.aggregate.Aggregate.{Aggregate}
use Rattle.mz_plan.specs.declared.aggregate.Aggregate.TheVariants.{Count, Sum, Min, Max}
use Rattle.mz_plan.specs.declared.item.Item.{Item}
use Rattle.mz_plan.specs.declared.plan.Plan.{Plan, Table, Index, Filter', Project', Join', Union', Group', Distinct', more_of-Plan, end_of-Plan}

-- ---- columns and their types

-- the type of a column, where there is one
abbrev type_in : Option Column → Option ColumnType
type_in found = option_map (λ column. column.kind) found

-- a column more, where there is one
cons_types : (found : Option Column) (columns : List Column)
    → types_of (cons_option found columns) ≡ cons_option (type_in found) (types_of columns)
cons_types None columns = refl
cons_types (Some column) columns = refl

-- the types of the columns at places
types_of_places : (places : List ℕ) (columns : List Column) → types_of (columns_at places columns) ≡ types_at places (types_of columns)
types_of_places [] columns = refl
types_of_places (place ∷ places) columns =
    cons_types (slice_get columns place) (columns_at places columns)
    ∙ (λ i. cons_option (sym (slice_get-map (λ column. column.kind) columns place) i) (types_of_places places columns i))

-- a column under another name has its type
type_renamed : (name : List ℕ) (found : Option Column) → type_in (renamed name found) ≡ type_in found
type_renamed name None = refl
type_renamed name (Some column) = refl

-- the type of an aggregate's column
type_of_aggregate : (columns : List Column) (aggregate : Aggregate)
    → type_in (aggregate_column columns aggregate) ≡ aggregate_type (types_of columns) aggregate
type_of_aggregate columns Count = refl
type_of_aggregate columns (Sum place) = refl
type_of_aggregate columns (Min place) =
    type_renamed (codes "min") (slice_get columns place) ∙ sym (slice_get-map (λ column. column.kind) columns place)
type_of_aggregate columns (Max place) =
    type_renamed (codes "max") (slice_get columns place) ∙ sym (slice_get-map (λ column. column.kind) columns place)

-- the types of the aggregates' columns
types_of_aggregates : (columns : List Column) (aggregates : List Aggregate)
    → types_of (filter_map (aggregate_column columns) aggregates) ≡ filter_map (aggregate_type (types_of columns)) aggregates
types_of_aggregates columns [] = refl
types_of_aggregates columns (aggregate ∷ aggregates) =
    cons_types (aggregate_column columns aggregate) (filter_map (aggregate_column columns) aggregates)
    ∙ (λ i. cons_option (type_of_aggregate columns aggregate i) (types_of_aggregates columns aggregates i))

-- ---- plans

-- a plan has the types of its columns
pub types_in_scope : (items : List Item) (plan : Plan) → plan_types items plan ≡ types_over (item_types items) (item_types items) plan
types_in_scope items (Table item) = refl
types_in_scope items (Index item) = refl
types_in_scope items (Filter' s (more_of-Plan plan end_of-Plan) cond) = types_in_scope items plan
types_in_scope items (Project' s (more_of-Plan plan end_of-Plan) places) =
    types_of_places places (plan_columns items plan) ∙ ap (types_at places) (types_in_scope items plan)
types_in_scope items (Join' s (more_of-Plan left end_of-Plan) r (more_of-Plan right end_of-Plan) pairs) =
    map-append (λ column. column.kind) (plan_columns items left) (plan_columns items right)
    ∙ (λ i. types_in_scope items left i ++ types_in_scope items right i)
types_in_scope items (Union' s (more_of-Plan left end_of-Plan) r (more_of-Plan right end_of-Plan)) = types_in_scope items left
types_in_scope items (Group' s (more_of-Plan plan end_of-Plan) places aggregates) =
    map-append (λ column. column.kind) (columns_at places (plan_columns items plan))
    (filter_map (aggregate_column (plan_columns items plan)) aggregates)
    ∙ (λ i. types_of_places places (plan_columns items plan) i ++ types_of_aggregates (plan_columns items plan) aggregates i)
    ∙ ap (λ types. types_at places types ++ filter_map (aggregate_type types) aggregates) (types_in_scope items plan)
types_in_scope items (Distinct' s (more_of-Plan plan end_of-Plan)) = types_in_scope items plan

-- and is well formed over them
pub formed_in_scope : (items : List Item) (plan : Plan) → IsWellFormed items plan
    → IsFormedOver (item_types items) (item_types items) plan
formed_in_scope items (Table item) h = tt
formed_in_scope items (Index item) h = tt
formed_in_scope items (Filter' s (more_of-Plan plan end_of-Plan) cond) h =
    (formed_in_scope items plan h.0, subst (λ types. CondFits types cond) (types_in_scope items plan) h.1)
formed_in_scope items (Project' s (more_of-Plan plan end_of-Plan) places) h =
    (formed_in_scope items plan h.0, subst (λ types. PlacesFit types places) (types_in_scope items plan) h.1)
formed_in_scope items (Join' s (more_of-Plan left end_of-Plan) r (more_of-Plan right end_of-Plan) pairs) h = (
  formed_in_scope items left h.0,
  formed_in_scope items right h.1,
  subst (λ types. PairsFit types (types_over (item_types items) (item_types items) right) pairs) (types_in_scope items left)
      (subst (λ types. PairsFit (plan_types items left) types pairs) (types_in_scope items right) h.2),
)
formed_in_scope items (Union' s (more_of-Plan left end_of-Plan) r (more_of-Plan right end_of-Plan)) h = (
  formed_in_scope items left h.0,
  formed_in_scope items right h.1,
  sym (types_in_scope items left) ∙ h.2 ∙ types_in_scope items right,
)
formed_in_scope items (Group' s (more_of-Plan plan end_of-Plan) places aggregates) h = (
  formed_in_scope items plan h.0,
  subst (λ types. PlacesFit types places) (types_in_scope items plan) h.1,
  subst (λ types. Each (AggregateFits types) aggregates) (types_in_scope items plan) h.2,
)
formed_in_scope items (Distinct' s (more_of-Plan plan end_of-Plan)) h = formed_in_scope items plan h
