-- What rows a plan gives, over the rows of its tables and indexes.
use Rattle.std.specs.Prelude.{ℕ, List, [], ◌∷◌, ◌++◌, ◌==◌, if◌then◌else◌}
use Rattle.std.specs.FinMap.{entries}
use Rattle.mz_bag.specs.Bag.{Counts}
use Rattle.mz_bag.specs.Weighted.{Weighted}
use Rattle.mz_plan.specs.Condition.{holds}
use Rattle.mz_plan.specs.Operators.{filtered, projected, joined, distinct, grouped}
use Rattle.mz_plan.specs.declared.plan.Plan.{Plan, Table, Index, Filter', Project', Join', Union', Group', Distinct', more_of-Plan, end_of-Plan}
use Rattle.mz_plan.specs.declared.tables.TableBags.{TableBags}

-- the rows that each item gives, by its number
abbrev pub Leaves : Type 0
Leaves = ℕ → Weighted

-- the rows of a plan, each with a weight. A filter keeps rows, a projection takes columns, a join pairs
-- rows, a union has the rows of both, a group has one row for each key, and DISTINCT has each row once
abbrev pub meaning : Leaves → Leaves → Plan → Weighted
meaning tables indexes (Table item) = tables item
meaning tables indexes (Index item) = indexes item
meaning tables indexes (Filter' s (more_of-Plan plan end_of-Plan) cond) = filtered (holds cond) (meaning tables indexes plan)
meaning tables indexes (Project' s (more_of-Plan plan end_of-Plan) places) = projected places (meaning tables indexes plan)
meaning tables indexes (Join' s (more_of-Plan left end_of-Plan) r (more_of-Plan right end_of-Plan) pairs) =
    joined pairs (meaning tables indexes left) (meaning tables indexes right)
meaning tables indexes (Union' s (more_of-Plan left end_of-Plan) r (more_of-Plan right end_of-Plan)) =
    meaning tables indexes left ++ meaning tables indexes right
meaning tables indexes (Group' s (more_of-Plan plan end_of-Plan) places aggregates) =
    grouped places aggregates (meaning tables indexes plan)
meaning tables indexes (Distinct' s (more_of-Plan plan end_of-Plan)) = distinct (meaning tables indexes plan)

-- the rows of the indexes, given their plans with the newest first: those of an index are those of its
-- plan, which sees the older indexes alone. What is no index has no row
abbrev pub index_rows : Leaves → List (ℕ × Plan) → Leaves
index_rows tables [] item = []
index_rows tables (newest ∷ older) item =
    if newest.0 == item then meaning tables (index_rows tables older) newest.1 else index_rows tables older item

-- the rows of the tables. What is no table has no row
abbrev pub table_rows : List (ℕ × Counts) → Leaves
table_rows [] item = []
table_rows (table ∷ tables) item = if table.0 == item then entries table.1 else table_rows tables item

-- the rows of a plan over tables, and over the indexes that were made of them, the newest first
abbrev pub meaning_of : Plan → TableBags → Weighted
meaning_of plan tables =
    meaning (table_rows tables.bags.items) (index_rows (table_rows tables.bags.items) tables.plans) plan
