-- The columns of a plan in a scope: their names and types.
use Rattle.std.specs.Prelude.{ℕ, List, [], ◌∷◌, ◌++◌, ◌==◌, Option, None, Some, codes, slice_get, filter_map, if◌then◌else◌}
use Rattle.mz_statement.specs.declared.column.Column.{Column}
use Rattle.mz_statement.specs.declared.column.ColumnType.TheVariants as kind
use Rattle.mz_plan.specs.declared.aggregate.Aggregate.{Aggregate}
use Rattle.mz_plan.specs.declared.aggregate.Aggregate.TheVariants.{Count, Sum, Min, Max}
use Rattle.mz_plan.specs.declared.item.Item.{Item}
use Rattle.mz_plan.specs.declared.item.ItemKind.{ItemKind}
use Rattle.mz_plan.specs.declared.item.ItemKind.TheVariants as item
use Rattle.mz_plan.specs.declared.plan.Plan.{Plan, Table, Index, Filter', Project', Join', Union', Group', Distinct', more_of-Plan, end_of-Plan}

-- the columns of a table or a view. An index has none of its own
abbrev pub own_columns : ItemKind → List Column
own_columns (item.Table columns) = columns
own_columns (item.View columns query) = columns
own_columns (item.Index on plan) = []

-- those of the item with this number, among some items
abbrev pub relation_columns : List Item → ℕ → List Column
relation_columns [] id = []
relation_columns (first ∷ items) id = if first.id == id then own_columns first.kind else relation_columns items id

-- the columns of an item: an index has those of the relation that it is on
abbrev pub kind_columns : List Item → ItemKind → List Column
kind_columns items (item.Table columns) = columns
kind_columns items (item.View columns query) = columns
kind_columns items (item.Index on plan) = relation_columns items on

-- those of the item with this number, of all the items of a scope
abbrev pub item_columns : List Item → List Item → ℕ → List Column
item_columns items [] id = []
item_columns items (first ∷ rest) id = if first.id == id then kind_columns items first.kind else item_columns items rest id

-- the columns at these places
abbrev pub columns_at : List ℕ → List Column → List Column
columns_at places columns = filter_map (slice_get columns) places

-- a column of this name with the type of another
abbrev pub renamed : List ℕ → Option Column → Option Column
renamed name None = None
renamed name (Some column) = Some (record { name = name; kind = column.kind })

-- the column of an aggregate
abbrev pub aggregate_column : List Column → Aggregate → Option Column
aggregate_column columns Count = Some (record { name = codes "count"; kind = kind.Wide })
aggregate_column columns (Sum place) = Some (record { name = codes "sum"; kind = kind.Wide })
aggregate_column columns (Min place) = renamed (codes "min") (slice_get columns place)
aggregate_column columns (Max place) = renamed (codes "max") (slice_get columns place)

-- the columns of a plan over some items: a join has those of both sides, a union those of its left side,
-- and a group its keys and then its aggregates
abbrev pub plan_columns : List Item → Plan → List Column
plan_columns items (Table id) = item_columns items items id
plan_columns items (Index id) = item_columns items items id
plan_columns items (Filter' s (more_of-Plan plan end_of-Plan) cond) = plan_columns items plan
plan_columns items (Project' s (more_of-Plan plan end_of-Plan) places) = columns_at places (plan_columns items plan)
plan_columns items (Join' s (more_of-Plan left end_of-Plan) r (more_of-Plan right end_of-Plan) pairs) =
    plan_columns items left ++ plan_columns items right
plan_columns items (Union' s (more_of-Plan left end_of-Plan) r (more_of-Plan right end_of-Plan)) = plan_columns items left
plan_columns items (Group' s (more_of-Plan plan end_of-Plan) places aggregates) =
    columns_at places (plan_columns items plan) ++ filter_map (aggregate_column (plan_columns items plan)) aggregates
plan_columns items (Distinct' s (more_of-Plan plan end_of-Plan)) = plan_columns items plan
