-- The bound on what a plan counts, sums and multiplies.
use Rattle.std.specs.Prelude.{ℕ, ℤ, ◌*ℤ◌, ◌==◌, Bool, true, false, List, [], ◌∷◌, ◌++◌, map, ⊤}
use Rattle.std.specs.List.{AllByRecursion as Each}
use Rattle.mz_bag.specs.Mass.{IsLight}
use Rattle.mz_bag.specs.Weighted.{Weighted}
use Rattle.mz_value.specs.declared.datum.Datum.{Datum}
use Rattle.mz_plan.specs.Meaning.{Leaves, meaning, index_rows, table_rows}
use Rattle.mz_plan.specs.Operators.{joined}
use Rattle.mz_plan.specs.Value.{number_of, value_at}
use Rattle.mz_plan.specs.declared.aggregate.Aggregate.{Aggregate}
use Rattle.mz_plan.specs.declared.aggregate.Aggregate.TheVariants.{Count, Sum, Min, Max}
use Rattle.mz_plan.specs.declared.plan.Plan.{Plan, Table, Index, Filter', Project', Join', Union', Group', Distinct', more_of-Plan, end_of-Plan}
use Rattle.mz_plan.specs.declared.tables.TableBags.{TableBags}

-- each row with its weight times what a function gives of it
abbrev pub weighed : (List Datum → ℤ) → Weighted → Weighted
weighed of_row ws = map (λ w. (w.0, w.1 *ℤ of_row w.0)) ws

-- the sums of an aggregate over the rows are within the bound
abbrev pub IsSummable : Weighted → Aggregate → Type 0
IsSummable ws Count = ⊤
IsSummable ws (Sum place) = IsLight (weighed (λ row. number_of (value_at row place)) ws)
IsSummable ws (Min place) = ⊤
IsSummable ws (Max place) = ⊤

-- a plan is bounded over its tables and indexes where each list of rows that its meaning names is light,
-- and the sums of its aggregates are within the bound. An index that it reads has to be bounded itself
abbrev pub IsBounded : Leaves → Leaves → (ℕ → Type 0) → Plan → Type 0
IsBounded tables indexes bounded (Table item) = IsLight (tables item)
IsBounded tables indexes bounded (Index item) = IsLight (indexes item) × bounded item
IsBounded tables indexes bounded (Filter' s (more_of-Plan plan end_of-Plan) cond) = IsBounded tables indexes bounded plan
IsBounded tables indexes bounded (Project' s (more_of-Plan plan end_of-Plan) places) = IsBounded tables indexes bounded plan
IsBounded tables indexes bounded (Join' s (more_of-Plan left end_of-Plan) r (more_of-Plan right end_of-Plan) pairs) =
    IsLight (joined pairs (meaning tables indexes left) (meaning tables indexes right))
    × IsBounded tables indexes bounded left × IsBounded tables indexes bounded right
IsBounded tables indexes bounded (Union' s (more_of-Plan left end_of-Plan) r (more_of-Plan right end_of-Plan)) =
    IsLight (meaning tables indexes left ++ meaning tables indexes right)
    × IsBounded tables indexes bounded left × IsBounded tables indexes bounded right
IsBounded tables indexes bounded (Group' s (more_of-Plan plan end_of-Plan) places aggregates) =
    Each (IsSummable (meaning tables indexes plan)) aggregates × IsBounded tables indexes bounded plan
IsBounded tables indexes bounded (Distinct' s (more_of-Plan plan end_of-Plan)) = IsBounded tables indexes bounded plan

-- the first where it is so, and else the second
abbrev pub either_of : Bool → Type 0 → Type 0 → Type 0
either_of true first second = first
either_of false first second = second

-- the indexes that are bounded, given the plans of all with the newest first
abbrev pub index_bounded : Leaves → List (ℕ × Plan) → ℕ → Type 0
index_bounded tables [] item = ⊤
index_bounded tables (newest ∷ older) item =
    either_of (newest.0 == item) (IsBounded tables (index_rows tables older) (index_bounded tables older) newest.1)
    (index_bounded tables older item)

-- a plan is bounded over the indexes with these plans, the newest first
abbrev pub IsBoundedOver : Leaves → List (ℕ × Plan) → Plan → Type 0
IsBoundedOver tables plans plan = IsBounded tables (index_rows tables plans) (index_bounded tables plans) plan

-- a plan is bounded over tables, and over the indexes that were made of them, the newest first
pub record IsBoundedIn (tables : TableBags) (plan : Plan) : Type 0 where
  pub bounded : IsBoundedOver (table_rows tables.bags.items) tables.plans plan
