-- What is told of groups: the totals of COUNT and SUM, and with the orders of MIN and MAX all.
use Rattle.std.specs.Prelude.{◌≡◌, ℕ, ℤ, pos, ◌+ℤ◌, ◌*ℤ◌, true, List, [], ◌++◌, map, unwrap_or, if◌then◌else◌}
use Rattle.std.specs.FinMap.{entries}
use Rattle.std.specs.Int.{w128, int_wrap}
use Rattle.std.specs.List.{AllByRecursion as Each}
use Rattle.std.specs.Map.{lookup}
use Rattle.mz_value.specs.Row.{row_eq}
use Rattle.mz_value.specs.declared.datum.Datum.{Datum}
use Rattle.mz_bag.specs.Bag.{Counts, IsBag}
use Rattle.mz_bag.specs.Mass.{IsLight}
use Rattle.mz_bag.specs.Weighted.{Weighted}
use Rattle.mz_plan.specs.Aggregate.{aggregate_of, weigh}
use Rattle.mz_plan.specs.Bound.{IsSummable}
use Rattle.mz_plan.specs.Value.{number_of, value_at}
use Rattle.mz_plan.specs.declared.aggregate.Aggregate.{Aggregate}
use Rattle.mz_plan.specs.declared.aggregate.Aggregate.TheVariants.{Count, Sum, Min, Max}
use Rattle.mz_keyed.specs.Keyed.{Keyed, rows_of}
use Rattle.mz_reduce.specs.Grouping.{AreGroups}
use Rattle.mz_reduce.specs.Orders.{order_of, ranks, AreOrders, IsOrder, Orders}

-- what a row adds to the total of an aggregate: 1 to a count, its number to a sum. MIN and MAX have no total
abbrev pub adds : Aggregate → List Datum → ℤ
adds Count row = pos 1
adds (Sum place) row = number_of (value_at row place)
adds (Min place) row = pos 0
adds (Max place) row = pos 0

-- an aggregate with its total over some rows, as 128 bits have it
abbrev pub total_over : Weighted → Aggregate → Aggregate × ℤ
total_over ws aggregate = (aggregate, int_wrap w128 (weigh (adds aggregate) ws))

-- so each aggregate
abbrev pub totals_over : List Aggregate → Weighted → List (Aggregate × ℤ)
totals_over aggregates ws = map (total_over ws) aggregates

-- the aggregates of totals
abbrev pub told : List (Aggregate × ℤ) → List Aggregate
told totals = map (λ total. total.0) totals

-- a total with one row more
abbrev pub with_row : List Datum → ℤ → Aggregate × ℤ → Aggregate × ℤ
with_row row diff total = (total.0, int_wrap w128 (total.1 +ℤ int_wrap w128 (diff *ℤ adds total.0 row)))

-- a total is that of the rows of a key, the sum that it stands for is within the bound, and the rows stand in the
-- order that it takes
pub record IsTotalOf (bag : Counts) (orders : Orders) (key : List Datum) (total : Aggregate × ℤ) : Type 0 where
  pub is : total.1 ≡ int_wrap w128 (weigh (adds total.0) (entries bag))
  pub summable : IsSummable (entries bag) total.0
  pub order : (place : ℕ) → ranks place total.0 ≡ true → IsOrder place bag (order_of orders (place, key))

-- so are all
pub record AreTotalsOf (bag : Counts) (orders : Orders) (key : List Datum) (totals : List (Aggregate × ℤ)) : Type 0 where
  pub light : IsLight (entries bag)
  pub each : Each (IsTotalOf bag orders key) totals

-- a value is what an aggregate tells of whatever rows its total is
pub record Tells (orders : Orders) (key : List Datum) (total : Aggregate × ℤ) (value : Datum) : Type 0 where
  pub tells : (bag : Counts) → IsBag bag → IsLight (entries bag) → IsTotalOf bag orders key total
      → value ≡ aggregate_of (entries bag) total.0

-- a row is a key, and behind it what the aggregates tell of whatever rows their totals are
pub record TellsAll (orders : Orders) (key : List Datum) (totals : List (Aggregate × ℤ)) (values : List Datum) : Type 0 where
  pub tells : (bag : Counts) → IsBag bag → AreTotalsOf bag orders key totals
      → values ≡ key ++ map (aggregate_of (entries bag)) (told totals)

-- some keys, each with the totals of its group
abbrev pub KeyTotals : Type 0
KeyTotals = List (List Datum × List (Aggregate × ℤ))

-- the totals of a key: those over no row where it isn't there
abbrev pub totals_of : List Aggregate → KeyTotals → List Datum → List (Aggregate × ℤ)
totals_of aggregates totals key = unwrap_or (lookup (row_eq key) totals) (totals_over aggregates [])

-- each key has the totals over its rows
pub record AreTotals (aggregates : List Aggregate) (groups : Keyed) (totals : KeyTotals) : Type 0 where
  pub each : (key : List Datum) → totals_of aggregates totals key ≡ totals_over aggregates (entries (rows_of groups key))

-- the totals of a key were put where it had none, if they are those of its rows
pub record ArePut (groups : Keyed) (key : List Datum) (numbers : List (Aggregate × ℤ)) (old new : KeyTotals) : Type 0 where
  pub put : (aggregates : List Aggregate) → totals_of aggregates old key ≡ totals_over aggregates []
      → numbers ≡ totals_over aggregates (entries (rows_of groups key))
      → (other : List Datum) → totals_of aggregates new other ≡ (if row_eq key other then numbers else totals_of aggregates old other)

-- the rows that are taken are kept by their keys, and each key has their totals and their orders
pub record AreKeptGroups (places : List ℕ) (aggregates : List Aggregate) (groups : Keyed) (totals : KeyTotals)
    (orders : Orders) (ws : Weighted) : Type 0 where
  pub rows : AreGroups places aggregates groups ws
  pub totals_are : AreTotals aggregates groups totals
  pub orders_are : AreOrders aggregates groups orders
