-- Plans that read few tables, none of which is large.
use Rattle.std.specs.Prelude.{ℕ, nat_abs, ◌+◌, ◌^◌, ◌≤◌, ◌==◌, List, [], ◌∷◌, if◌then◌else◌, ⊤}
use Rattle.std.specs.List.{AllByRecursion as Each}
use Rattle.mz_value.specs.declared.datum.Datum.{Datum}
use Rattle.mz_bag.specs.Mass.{mass}
use Rattle.mz_plan.specs.Bound.{either_of}
use Rattle.mz_plan.specs.Meaning.{Leaves, meaning, index_rows}
use Rattle.mz_plan.specs.Value.{number_of, value_at}
use Rattle.mz_plan.specs.declared.aggregate.Aggregate.{Aggregate}
use Rattle.mz_plan.specs.declared.aggregate.Aggregate.TheVariants.{Count, Sum, Min, Max}
use Rattle.mz_plan.specs.declared.plan.Plan.{Plan, Table, Index, Filter', Project', Join', Union', Group', Distinct', more_of-Plan, end_of-Plan}

-- how many tables a query may read
abbrev pub most_tables : ℕ
most_tables = 4

-- how many rows a table may have, each as often as it is there
abbrev pub most_rows : ℕ
most_rows = 65536

-- how many tables a plan reads, where a table or an index that it names twice is read twice, and an
-- index reads the tables of its own plan
abbrev pub tables_read : (ℕ → ℕ) → Plan → ℕ
tables_read by_index (Table item) = 1
tables_read by_index (Index item) = by_index item
tables_read by_index (Filter' s (more_of-Plan plan end_of-Plan) cond) = tables_read by_index plan
tables_read by_index (Project' s (more_of-Plan plan end_of-Plan) places) = tables_read by_index plan
tables_read by_index (Join' s (more_of-Plan left end_of-Plan) r (more_of-Plan right end_of-Plan) pairs) =
    tables_read by_index left + tables_read by_index right
tables_read by_index (Union' s (more_of-Plan left end_of-Plan) r (more_of-Plan right end_of-Plan)) =
    tables_read by_index left + tables_read by_index right
tables_read by_index (Group' s (more_of-Plan plan end_of-Plan) places aggregates) = tables_read by_index plan
tables_read by_index (Distinct' s (more_of-Plan plan end_of-Plan)) = tables_read by_index plan

-- how many tables each index reads, given the plans of all with the newest first. What is no index counts as one
abbrev pub index_reads : List (ℕ × Plan) → ℕ → ℕ
index_reads [] item = 1
index_reads (newest ∷ older) item = if newest.0 == item then tables_read (index_reads older) newest.1 else index_reads older item

-- a row's value at the place of a SUM is within the range of an INT
abbrev pub SumsInts : List Datum → Aggregate → Type 0
SumsInts row Count = ⊤
SumsInts row (Sum place) = nat_abs (number_of (value_at row place)) ≤ 2 ^ 31
SumsInts row (Min place) = ⊤
SumsInts row (Max place) = ⊤

-- each SUM in a plan takes INTs alone, and so it is in the indexes that it reads
abbrev pub IsSummingInts : Leaves → Leaves → (ℕ → Type 0) → Plan → Type 0
IsSummingInts tables indexes summing (Table item) = ⊤
IsSummingInts tables indexes summing (Index item) = summing item
IsSummingInts tables indexes summing (Filter' s (more_of-Plan plan end_of-Plan) cond) = IsSummingInts tables indexes summing plan
IsSummingInts tables indexes summing (Project' s (more_of-Plan plan end_of-Plan) places) = IsSummingInts tables indexes summing plan
IsSummingInts tables indexes summing (Join' s (more_of-Plan left end_of-Plan) r (more_of-Plan right end_of-Plan) pairs) =
    IsSummingInts tables indexes summing left × IsSummingInts tables indexes summing right
IsSummingInts tables indexes summing (Union' s (more_of-Plan left end_of-Plan) r (more_of-Plan right end_of-Plan)) =
    IsSummingInts tables indexes summing left × IsSummingInts tables indexes summing right
IsSummingInts tables indexes summing (Group' s (more_of-Plan plan end_of-Plan) places aggregates) =
    Each (λ w. Each (SumsInts w.0) aggregates) (meaning tables indexes plan) × IsSummingInts tables indexes summing plan
IsSummingInts tables indexes summing (Distinct' s (more_of-Plan plan end_of-Plan)) = IsSummingInts tables indexes summing plan

-- the indexes that sum INTs alone, given the plans of all with the newest first
abbrev pub index_summing : Leaves → List (ℕ × Plan) → ℕ → Type 0
index_summing tables [] item = ⊤
index_summing tables (newest ∷ older) item =
    either_of (newest.0 == item) (IsSummingInts tables (index_rows tables older) (index_summing tables older) newest.1)
    (index_summing tables older item)

-- no more tables are read than a query may, each has no more rows than a table may, and each SUM takes INTs alone
pub record IsSmall (tables : Leaves) (plans : List (ℕ × Plan)) (plan : Plan) : Type 0 where
  pub few : tables_read (index_reads plans) plan ≤ most_tables
  pub rows : (item : ℕ) → mass (tables item) ≤ most_rows
  pub summing : IsSummingInts tables (index_rows tables plans) (index_summing tables plans) plan
