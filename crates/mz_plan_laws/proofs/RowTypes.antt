-- The rows of a well-formed plan have the types of its columns, and so each SUM takes INTs alone.
use Rattle.std.proofs.Common.{◌≤◌, ◌^◌, ◌==◌, ℕ, Bool, true, false, cond, ℤ, pos, negsuc, nat_abs, List, [], ◌∷◌, ◌++◌, sym, subst, arith}
use Rattle.std.specs.List.{AllByRecursion as Each}
use Rattle.mz_value.specs.declared.datum.Datum.{Datum}
use Rattle.mz_value.specs.declared.datum.Datum.TheVariants as datum
use Rattle.mz_bag.specs.Weighted.{Weighted}
use Rattle.mz_statement.specs.declared.column.ColumnType.{ColumnType}
use Rattle.mz_statement.specs.declared.column.ColumnType.TheVariants as kind
use Rattle.mz_plan.specs.Bound.{IsBoundedOver, either_of}
use Rattle.mz_plan.specs.Condition.{holds}
use Rattle.mz_plan.specs.Leaves.{AllLeaves}
use Rattle.mz_plan.specs.Meaning.{Leaves, meaning, index_rows}
use Rattle.mz_plan.specs.PlanTypes.{AreFormedOver, IsFormedOver, index_types, types_at, types_over}
use Rattle.mz_plan.specs.RowTypes.{AreOf, AreTyped, HaveTypes, IsOf, IsRowOf}
use Rattle.mz_plan.specs.Small.{IsSmall, IsSummingInts, SumsInts, index_summing}
use Rattle.mz_plan.specs.SmallTyped.{IsSmallOver}
use Rattle.mz_plan.specs.Value.{cells, number_of, value_at}
use Rattle.mz_plan.specs.WellFormed.{AggregateFits}
use Rattle.mz_plan.specs.declared.aggregate.Aggregate.{Aggregate}
use Rattle.mz_plan.specs.declared.aggregate.Aggregate.TheVariants.{Count, Sum, Min, Max}
use Rattle.mz_plan.specs.declared.plan.Plan.{Plan, Table, Index, Filter', Project', Join', Union', Group', Distinct', more_of-Plan, end_of-Plan}
use Rattle.mz_plan_laws.proofs.FewTables.{small_bounded}
use Rattle.mz_plan_laws.proofs.GroupTypes.{grouped_typed}
use Rattle.mz_plan_laws.proofs.TypedValues.{both_of, cells_of, each_append, each_distinct, each_joined, each_kept, each_map, each_weaker, value_of}

-- ---- rows of plans

-- the rows of a list are of these types
abbrev pub Related : (ColumnType → Datum → Type 0) → List ColumnType → Weighted → Type 0
Related related types ws = Each (λ w. AreOf related types w.0) ws

-- what holds of each value of its type in the leaves of a well-formed plan, and of each WIDE, holds of each value of its type in
-- what the plan gives
pub plan_typed : (related : ColumnType → Datum → Type 0) → ((n : ℤ) → related kind.Wide (datum.Wide n))
    → (tables indexes : ℕ → List ColumnType) (some others : Leaves) (plan : Plan)
    → AllLeaves (λ item. Related related (tables item) (some item)) (λ item. Related related (indexes item) (others item)) plan
    → IsFormedOver tables indexes plan → Related related (types_over tables indexes plan) (meaning some others plan)
plan_typed related wide tables indexes some others (Table item) h formed = h
plan_typed related wide tables indexes some others (Index item) h formed = h
plan_typed related wide tables indexes some others (Filter' s (more_of-Plan plan end_of-Plan) keeps) h formed =
    each_kept (λ w. AreOf related (types_over tables indexes plan) w.0) (λ w. holds keeps w.0) (meaning some others plan)
    (plan_typed related wide tables indexes some others plan h formed.0)
plan_typed related wide tables indexes some others (Project' s (more_of-Plan plan end_of-Plan) places) h formed =
    each_map (λ w. AreOf related (types_at places (types_over tables indexes plan)) w.0) (λ w. (cells places w.0, w.1))
    (meaning some others plan)
    (each_weaker (λ w. AreOf related (types_over tables indexes plan) w.0)
    (λ w. AreOf related (types_at places (types_over tables indexes plan)) (cells places w.0))
    (λ w typed. cells_of related (types_over tables indexes plan) w.0 typed places formed.1) (meaning some others plan)
    (plan_typed related wide tables indexes some others plan h formed.0))
plan_typed related wide tables indexes some others (Join' s (more_of-Plan left end_of-Plan) r (more_of-Plan right end_of-Plan) pairs)
    h formed =
    each_joined (AreOf related (types_over tables indexes left)) (AreOf related (types_over tables indexes right))
    (AreOf related (types_over tables indexes left ++ types_over tables indexes right))
    (λ l r p q. both_of related (types_over tables indexes left) l (types_over tables indexes right) r p q) pairs
    (meaning some others left) (meaning some others right)
    (plan_typed related wide tables indexes some others left h.0 formed.0)
    (plan_typed related wide tables indexes some others right h.1 formed.1)
plan_typed related wide tables indexes some others (Union' s (more_of-Plan left end_of-Plan) r (more_of-Plan right end_of-Plan)) h formed =
    each_append (λ w. AreOf related (types_over tables indexes left) w.0) (meaning some others left) (meaning some others right)
    (plan_typed related wide tables indexes some others left h.0 formed.0)
    (subst (λ types. Related related types (meaning some others right)) (sym formed.2)
    (plan_typed related wide tables indexes some others right h.1 formed.1))
plan_typed related wide tables indexes some others (Group' s (more_of-Plan plan end_of-Plan) places aggregates) h formed =
    grouped_typed related wide (types_over tables indexes plan) places formed.1 aggregates formed.2 (meaning some others plan)
    (plan_typed related wide tables indexes some others plan h formed.0)
plan_typed related wide tables indexes some others (Distinct' s (more_of-Plan plan end_of-Plan)) h formed =
    each_distinct (AreOf related (types_over tables indexes plan)) (meaning some others plan)
    (plan_typed related wide tables indexes some others plan h formed)

-- what holds of all numbers holds of those of a plan's leaves
pub all_leaves : (P Q : ℕ → Type 0) → ((item : ℕ) → P item) → ((item : ℕ) → Q item) → (plan : Plan) → AllLeaves P Q plan
all_leaves P Q h k (Table item) = h item
all_leaves P Q h k (Index item) = k item
all_leaves P Q h k (Filter' s (more_of-Plan plan end_of-Plan) keeps) = all_leaves P Q h k plan
all_leaves P Q h k (Project' s (more_of-Plan plan end_of-Plan) places) = all_leaves P Q h k plan
all_leaves P Q h k (Join' s (more_of-Plan left end_of-Plan) r (more_of-Plan right end_of-Plan) pairs) =
    (all_leaves P Q h k left, all_leaves P Q h k right)
all_leaves P Q h k (Union' s (more_of-Plan left end_of-Plan) r (more_of-Plan right end_of-Plan)) =
    (all_leaves P Q h k left, all_leaves P Q h k right)
all_leaves P Q h k (Group' s (more_of-Plan plan end_of-Plan) places aggregates) = all_leaves P Q h k plan
all_leaves P Q h k (Distinct' s (more_of-Plan plan end_of-Plan)) = all_leaves P Q h k plan

-- a WIDE is of its type
wide_is : (n : ℤ) → IsOf kind.Wide (datum.Wide n)
wide_is n = tt

-- the rows of a plan over typed leaves
pub rows_typed : (tables indexes : ℕ → List ColumnType) (some others : Leaves) (plan : Plan)
    → AllLeaves (λ item. HaveTypes (tables item) (some item)) (λ item. HaveTypes (indexes item) (others item)) plan
    → IsFormedOver tables indexes plan → HaveTypes (types_over tables indexes plan) (meaning some others plan)
rows_typed = plan_typed IsOf wide_is

-- the rows of the indexes over typed tables
pub indexes_typed : (tables : ℕ → List ColumnType) (some : Leaves) → AreTyped tables some → (plans : List (ℕ × Plan))
    → AreFormedOver tables plans → (item : ℕ) → HaveTypes (index_types tables plans item) (index_rows some plans item)
indexes_typed tables some h [] formed item = tt
indexes_typed tables some h (newest ∷ older) formed item =
    by (newest.0 == item)
    (rows_typed tables (index_types tables older) some (index_rows some older) newest.1
    (all_leaves _ _ h.each (indexes_typed tables some h older formed.1) newest.1) formed.0)
    (indexes_typed tables some h older formed.1 item)
  where
    by : (c : Bool)
        → HaveTypes (types_over tables (index_types tables older) newest.1) (meaning some (index_rows some older) newest.1)
        → HaveTypes (index_types tables older item) (index_rows some older item)
        → HaveTypes (cond c (types_over tables (index_types tables older) newest.1) (index_types tables older item))
        (cond c (meaning some (index_rows some older) newest.1) (index_rows some older item))
    by true g l = g
    by false g l = l

-- ---- SUM takes INTs alone

-- an INT is within its range
int_small : (value : Datum) → IsOf kind.Int value → nat_abs (number_of value) ≤ 2 ^ 31
int_small (datum.Int (pos n)) h = omega (arith, h)
int_small (datum.Int (negsuc n)) h = omega (arith, h)
int_small (datum.Text text) h = absurd h
int_small (datum.Bool truth) h = absurd h
int_small (datum.Wide n) h = absurd h

-- an aggregate that fits the types of a row sums INTs
sums_ints : (types : List ColumnType) (row : List Datum) → IsRowOf types row → (aggregate : Aggregate) → AggregateFits types aggregate
    → SumsInts row aggregate
sums_ints types row h Count fits = tt
sums_ints types row h (Sum place) fits = int_small (value_at row place) (value_of IsOf types row h place kind.Int fits)
sums_ints types row h (Min place) fits = tt
sums_ints types row h (Max place) fits = tt

-- so each SUM of a well-formed plan over typed leaves does
pub plan_summing : (tables indexes : ℕ → List ColumnType) (some others : Leaves) (summing : ℕ → Type 0) → AreTyped tables some
    → AreTyped indexes others → ((item : ℕ) → summing item) → (plan : Plan) → IsFormedOver tables indexes plan
    → IsSummingInts some others summing plan
plan_summing tables indexes some others summing h k all (Table item) formed = tt
plan_summing tables indexes some others summing h k all (Index item) formed = all item
plan_summing tables indexes some others summing h k all (Filter' s (more_of-Plan plan end_of-Plan) keeps) formed =
    plan_summing tables indexes some others summing h k all plan formed.0
plan_summing tables indexes some others summing h k all (Project' s (more_of-Plan plan end_of-Plan) places) formed =
    plan_summing tables indexes some others summing h k all plan formed.0
plan_summing tables indexes some others summing h k all
    (Join' s (more_of-Plan left end_of-Plan) r (more_of-Plan right end_of-Plan) pairs) formed = (
      plan_summing tables indexes some others summing h k all left formed.0,
      plan_summing tables indexes some others summing h k all right formed.1,
    )
plan_summing tables indexes some others summing h k all
    (Union' s (more_of-Plan left end_of-Plan) r (more_of-Plan right end_of-Plan)) formed = (
      plan_summing tables indexes some others summing h k all left formed.0,
      plan_summing tables indexes some others summing h k all right formed.1,
    )
plan_summing tables indexes some others summing h k all (Group' s (more_of-Plan plan end_of-Plan) places aggregates) formed = (
  each_weaker (λ w. IsRowOf (types_over tables indexes plan) w.0) (λ w. Each (SumsInts w.0) aggregates)
      (λ w typed. each_weaker (AggregateFits (types_over tables indexes plan)) (SumsInts w.0)
      (sums_ints (types_over tables indexes plan) w.0 typed) aggregates formed.2)
      (meaning some others plan)
      (rows_typed tables indexes some others plan (all_leaves _ _ h.each k.each plan) formed.0),
  plan_summing tables indexes some others summing h k all plan formed.0,
)
plan_summing tables indexes some others summing h k all (Distinct' s (more_of-Plan plan end_of-Plan)) formed =
    plan_summing tables indexes some others summing h k all plan formed

-- and so do the indexes
pub indexes_summing : (tables : ℕ → List ColumnType) (some : Leaves) → AreTyped tables some → (plans : List (ℕ × Plan))
    → AreFormedOver tables plans → (item : ℕ) → index_summing some plans item
indexes_summing tables some h [] formed item = tt
indexes_summing tables some h (newest ∷ older) formed item =
    by (newest.0 == item)
    (plan_summing tables (index_types tables older) some (index_rows some older) (index_summing some older) h
    (record { each = indexes_typed tables some h older formed.1 }) (indexes_summing tables some h older formed.1) newest.1 formed.0)
    (indexes_summing tables some h older formed.1 item)
  where
    by : (c : Bool) → IsSummingInts some (index_rows some older) (index_summing some older) newest.1 → index_summing some older item
        → either_of c (IsSummingInts some (index_rows some older) (index_summing some older) newest.1) (index_summing some older item)
    by true g l = g
    by false g l = l

-- a small plan over typed tables is small
pub small_typed : (types : ℕ → List ColumnType) (tables : Leaves) (plans : List (ℕ × Plan)) (plan : Plan)
    → IsSmallOver types tables plans plan → IsSmall tables plans plan
small_typed types tables plans plan small = record {
  few = small.few;
  rows = small.rows.within;
  summing = plan_summing types (index_types types plans) tables (index_rows tables plans) (index_summing tables plans) small.typed
      (record { each = indexes_typed types tables small.typed plans small.indexes })
      (indexes_summing types tables small.typed plans small.indexes) plan small.formed;
}

-- and so it is bounded
pub small_typed_bounded : (types : ℕ → List ColumnType) (tables : Leaves) (plans : List (ℕ × Plan)) (plan : Plan)
    → IsSmallOver types tables plans plan → IsBoundedOver tables plans plan
small_typed_bounded types tables plans plan small = small_bounded tables plans plan (small_typed types tables plans plan small)
