-- The types of a plan's rows, and when a plan is well formed, over the types of its leaves: types of any tables and indexes,
-- whether a scope still has them or not.
use Rattle.std.specs.Prelude.{◌≡◌, ◌==◌, ℕ, List, [], ◌∷◌, ◌++◌, Option, Some, filter_map, slice_get, if◌then◌else◌, ⊤}
use Rattle.std.specs.List.{AllByRecursion as Each}
use Rattle.mz_statement.specs.declared.column.ColumnType.{ColumnType}
use Rattle.mz_statement.specs.declared.column.ColumnType.TheVariants as kind
use Rattle.mz_plan.specs.Typed.{item_columns}
use Rattle.mz_plan.specs.Types.{types_of}
use Rattle.mz_plan.specs.WellFormed.{AggregateFits, CondFits, PairsFit, PlacesFit}
use Rattle.mz_plan.specs.declared.aggregate.Aggregate.{Aggregate}
use Rattle.mz_plan.specs.declared.aggregate.Aggregate.TheVariants.{Count, Sum, Min, Max}
use Rattle.mz_plan.specs.declared.item.Item.{Item}
use Rattle.mz_plan.specs.declared.plan.Plan.{Plan, Table, Index, Filter', Project', Join', Union', Group', Distinct', more_of-Plan, end_of-Plan}

-- the types at these places
abbrev pub types_at : List ℕ → List ColumnType → List ColumnType
types_at places types = filter_map (slice_get types) places

-- the type of an aggregate over rows of these types
abbrev pub aggregate_type : List ColumnType → Aggregate → Option ColumnType
aggregate_type types Count = Some kind.Wide
aggregate_type types (Sum place) = Some kind.Wide
aggregate_type types (Min place) = slice_get types place
aggregate_type types (Max place) = slice_get types place

-- the types of a plan's rows, where those of each table and of each index are given: a join has the types of both sides,
-- a union those of its left side, and a group those of its keys and then of its aggregates
abbrev pub types_over : (ℕ → List ColumnType) → (ℕ → List ColumnType) → Plan → List ColumnType
types_over tables indexes (Table item) = tables item
types_over tables indexes (Index item) = indexes item
types_over tables indexes (Filter' s (more_of-Plan plan end_of-Plan) cond) = types_over tables indexes plan
types_over tables indexes (Project' s (more_of-Plan plan end_of-Plan) places) = types_at places (types_over tables indexes plan)
types_over tables indexes (Join' s (more_of-Plan left end_of-Plan) r (more_of-Plan right end_of-Plan) pairs) =
    types_over tables indexes left ++ types_over tables indexes right
types_over tables indexes (Union' s (more_of-Plan left end_of-Plan) r (more_of-Plan right end_of-Plan)) = types_over tables indexes left
types_over tables indexes (Group' s (more_of-Plan plan end_of-Plan) places aggregates) =
    types_at places (types_over tables indexes plan) ++ filter_map (aggregate_type (types_over tables indexes plan)) aggregates
types_over tables indexes (Distinct' s (more_of-Plan plan end_of-Plan)) = types_over tables indexes plan

-- each operator of a plan fits the types of what is below it, and the sides of a union have the same types
abbrev pub IsFormedOver : (ℕ → List ColumnType) → (ℕ → List ColumnType) → Plan → Type 0
IsFormedOver tables indexes (Table item) = ⊤
IsFormedOver tables indexes (Index item) = ⊤
IsFormedOver tables indexes (Filter' s (more_of-Plan plan end_of-Plan) cond) =
    IsFormedOver tables indexes plan × CondFits (types_over tables indexes plan) cond
IsFormedOver tables indexes (Project' s (more_of-Plan plan end_of-Plan) places) =
    IsFormedOver tables indexes plan × PlacesFit (types_over tables indexes plan) places
IsFormedOver tables indexes (Join' s (more_of-Plan left end_of-Plan) r (more_of-Plan right end_of-Plan) pairs) =
    IsFormedOver tables indexes left × IsFormedOver tables indexes right
    × PairsFit (types_over tables indexes left) (types_over tables indexes right) pairs
IsFormedOver tables indexes (Union' s (more_of-Plan left end_of-Plan) r (more_of-Plan right end_of-Plan)) =
    IsFormedOver tables indexes left × IsFormedOver tables indexes right
    × (types_over tables indexes left ≡ types_over tables indexes right)
IsFormedOver tables indexes (Group' s (more_of-Plan plan end_of-Plan) places aggregates) =
    IsFormedOver tables indexes plan × PlacesFit (types_over tables indexes plan) places
    × Each (AggregateFits (types_over tables indexes plan)) aggregates
IsFormedOver tables indexes (Distinct' s (more_of-Plan plan end_of-Plan)) = IsFormedOver tables indexes plan

-- the types of each index's rows, given the types of the tables and the plans of all indexes with the newest first. What is
-- no index has none
abbrev pub index_types : (ℕ → List ColumnType) → List (ℕ × Plan) → ℕ → List ColumnType
index_types tables [] item = []
index_types tables (newest ∷ older) item =
    if newest.0 == item then types_over tables (index_types tables older) newest.1 else index_types tables older item

-- the plan of each index is well formed over the tables and the older indexes
abbrev pub AreFormedOver : (ℕ → List ColumnType) → List (ℕ × Plan) → Type 0
AreFormedOver tables [] = ⊤
AreFormedOver tables (newest ∷ older) = IsFormedOver tables (index_types tables older) newest.1 × AreFormedOver tables older

-- the types of an item of a scope: an index has those of the relation that it is on
abbrev pub item_types : List Item → ℕ → List ColumnType
item_types items item = types_of (item_columns items items item)
