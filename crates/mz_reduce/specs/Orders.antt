-- What is kept of groups in order: their rows, by the values that a MIN or a MAX takes.
use Rattle.std.specs.Prelude.{◌≡◌, ℕ, Bool, true, false, ◌&&◌, nat_eq, List, [], ◌∷◌, Option, None, Some, if◌then◌else◌}
use Rattle.std.specs.BTreeSet.{BTreeSet}
use Rattle.std.specs.FinMap.{entries}
use Rattle.std.specs.List.{list_any}
use Rattle.std.specs.Map.{lookup}
use Rattle.mz_value.specs.Row.{row_eq}
use Rattle.mz_value.specs.declared.datum.Datum.{Datum}
use Rattle.mz_bag.specs.Bag.{Counts, count_in, IsBag}
use Rattle.mz_plan.specs.Aggregate.{column, greatest, least}
use Rattle.mz_plan.specs.Value.{value_at}
use Rattle.mz_plan.specs.declared.aggregate.Aggregate.{Aggregate}
use Rattle.mz_plan.specs.declared.aggregate.Aggregate.TheVariants.{Count, Sum, Min, Max}
use Rattle.mz_keyed.specs.Keyed.{Keyed, rows_of}
use Rattle.mz_reduce.specs.Counting.{is_there}

-- ---- which places

-- an aggregate ranks the values of a place: MIN and MAX do
abbrev pub ranks : ℕ → Aggregate → Bool
ranks place Count = false
ranks place (Sum other) = false
ranks place (Min other) = nat_eq other place
ranks place (Max other) = nat_eq other place

-- one of the aggregates does
abbrev pub are_ranked : ℕ → List Aggregate → Bool
are_ranked place aggregates = list_any (ranks place) aggregates

-- ---- one order

-- a row behind its value at a place
abbrev pub fronted : ℕ → List Datum → List Datum
fronted place row = value_at row place ∷ row

-- what stands behind the first value
abbrev pub behind : List Datum → List Datum
behind [] = []
behind (value ∷ row) = row

-- a row is among others
abbrev pub is_among : List Datum → List (List Datum) → Bool
is_among row rows = list_any (row_eq row) rows

-- these are the rows of a bag, each behind its value at a place
pub record IsOrder (place : ℕ) (bag : Counts) (rows : List (List Datum)) : Type 0 where
  pub each : (row : List Datum) → is_among (fronted place row) rows ≡ is_there (count_in bag row)
  pub front : (row : List Datum) → is_among row rows ≡ true → row ≡ fronted place (behind row)

-- a value is what MIN tells of whatever rows these are
pub record TellsLeast (place : ℕ) (rows : List (List Datum)) (value : Datum) : Type 0 where
  pub tells : (bag : Counts) → IsBag bag → IsOrder place bag rows → value ≡ least (column place (entries bag))

-- a value is what MAX tells of whatever rows these are
pub record TellsGreatest (place : ℕ) (rows : List (List Datum)) (value : Datum) : Type 0 where
  pub tells : (bag : Counts) → IsBag bag → IsOrder place bag rows → value ≡ greatest (column place (entries bag))

-- ---- all orders

-- some places and keys, each with rows in order
abbrev pub Orders : Type 0
Orders = List ((ℕ × List Datum) × BTreeSet (List Datum))

-- a place and a key are these
abbrev pub same_spot : ℕ × List Datum → ℕ × List Datum → Bool
same_spot one other = nat_eq one.0 other.0 && row_eq one.1 other.1

-- the rows of an order, none where there is no order
abbrev pub rows_in : Option (BTreeSet (List Datum)) → List (List Datum)
rows_in None = []
rows_in (Some order) = order.keys

-- the rows that stand in order for a place and a key
abbrev pub order_of : Orders → ℕ × List Datum → List (List Datum)
order_of orders spot = rows_in (lookup (same_spot spot) orders)

-- each key has its rows in the order of each place that is ranked
pub record AreOrders (aggregates : List Aggregate) (groups : Keyed) (orders : Orders) : Type 0 where
  pub each : (place : ℕ) (key : List Datum) → are_ranked place aggregates ≡ true
      → IsOrder place (rows_of groups key) (order_of orders (place, key))

-- a row stands for its key now in the order of each of some places, or in none of them. All other rows stand as
-- they did
pub record IsTurned (places : ℕ → Bool) (key row : List Datum) (is : Bool) (old new : Orders) : Type 0 where
  pub each : (place : ℕ) (other q : List Datum) → is_among q (order_of new (place, other))
      ≡ (if places place && (row_eq key other && row_eq (fronted place row) q) then is else is_among q (order_of old (place, other)))
