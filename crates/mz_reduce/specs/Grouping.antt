-- What groups are kept by, and how they go through a change.
use Rattle.std.specs.Prelude.{◌≡◌, ℕ, ℤ, pos, negsuc, nat_abs, nat_le, ◌≤◌, ◌^◌, Bool, true, false, not, ◌&&◌, List, [], ◌∷◌, ◌++◌, map, filter, flat_map, length}
use Rattle.std.specs.FinMap.{entries}
use Rattle.std.specs.List.{list_all, list_any, IsDistinct, AllByRecursion as Each}
use Rattle.std.specs.Ordering.{int_eq}
use Rattle.mz_value.specs.Row.{row_eq}
use Rattle.mz_value.specs.declared.datum.Datum.{Datum}
use Rattle.mz_bag.specs.Bag.{IsBag}
use Rattle.mz_bag.specs.Mass.{IsLight}
use Rattle.mz_bag.specs.Weighted.{Weighted}
use Rattle.mz_plan.specs.Aggregate.{aggregate_of}
use Rattle.mz_plan.specs.Bound.{IsSummable}
use Rattle.mz_plan.specs.Operators.{filtered, grouped}
use Rattle.mz_plan.specs.Value.{cells, number_of, value_at}
use Rattle.mz_plan.specs.declared.aggregate.Aggregate.{Aggregate}
use Rattle.mz_plan.specs.declared.aggregate.Aggregate.TheVariants.{Count, Sum, Min, Max}
use Rattle.mz_keyed.specs.Keyed.{Keyed, rows_of, AreKept, IsAdded}

-- ---- which rows are taken

-- where an aggregate takes the sum of a column, a row's number there is no larger than that of an INT
abbrev pub sums_int : List Datum → Aggregate → Bool
sums_int row Count = true
sums_int row (Sum place) = nat_le (nat_abs (number_of (value_at row place))) (2 ^ 31)
sums_int row (Min place) = true
sums_int row (Max place) = true

abbrev pub sums_ints : List Aggregate → List Datum → Bool
sums_ints aggregates row = list_all (sums_int row) aggregates

-- the groups of the rows that are so. Where each SUM takes INTs alone, as in a plan that is well formed, these
-- are all rows
abbrev pub grouped_ints : List ℕ → List Aggregate → Weighted → Weighted
grouped_ints places aggregates ws = grouped places aggregates (filtered (sums_ints aggregates) ws)

-- such a row has come or gone
abbrev pub is_taken : List Aggregate → List Datum × ℤ → Bool
is_taken aggregates w = not (int_eq w.1 (pos 0)) && sums_ints aggregates w.0

abbrev pub taken : List Aggregate → Weighted → Weighted
taken aggregates ws = filter (is_taken aggregates) ws

-- ---- what is kept

-- the rows that are taken are kept by their keys
abbrev pub AreGroups : List ℕ → List Aggregate → Keyed → Weighted → Type 0
AreGroups places aggregates groups ws = AreKept places groups (filtered (sums_ints aggregates) ws)

-- the row of a group, with a weight: its key, and behind it the aggregates. There is none where the group has
-- no rows
abbrev pub shown : List Aggregate → List Datum → ℤ → Weighted → Weighted
shown aggregates key weight [] = []
shown aggregates key weight (entry ∷ group) = (key ++ map (aggregate_of (entry ∷ group)) aggregates, weight) ∷ []

-- the rows of the groups of some keys, each with the weight
abbrev pub all_shown : List Aggregate → Keyed → ℤ → List (List Datum) → Weighted
all_shown aggregates groups weight keys = flat_map (λ key. shown aggregates key weight (entries (rows_of groups key))) keys

-- what the aggregates count and add up over some rows is within the bound
pub record AreBounded (aggregates : List Aggregate) (ws : Weighted) : Type 0 where
  pub light : IsLight ws
  pub sums : Each (IsSummable ws) aggregates

-- ---- a change

-- a key is among those that were touched, or came behind them, and its group's row was taken back
pub record IsTouched (aggregates : List Aggregate) (groups : Keyed) (key : List Datum)
    (touched more : List (List Datum)) (old new : Weighted) : Type 0 where
  pub again : list_any (row_eq key) touched ≡ true → (more ≡ touched) × (new ≡ old)
  pub first : list_any (row_eq key) touched ≡ false → (more ≡ touched ++ key ∷ [])
      × (new ≡ old ++ shown aggregates key (negsuc 0) (entries (rows_of groups key)))
      × IsBag (rows_of groups key)

-- a row came in: its key is touched, and it is kept
pub record IsRowIn (places : List ℕ) (aggregates : List Aggregate) (groups now : Keyed) (row : List Datum) (diff : ℤ)
    (touched more : List (List Datum)) (old new : Weighted) : Type 0 where
  pub touched_key : IsTouched aggregates groups (cells places row) touched more old new
  pub added : IsAdded (cells places row) row diff groups now

-- rows came in: their keys are touched, the groups of all others are as they were, and the rows that the groups of
-- these keys had are taken back
pub record AreIn (places : List ℕ) (aggregates : List Aggregate) (groups now : Keyed) (rows : Weighted)
    (touched : List (List Datum)) (out : Weighted) : Type 0 where
  pub keeps : (ws : Weighted) → AreKept places groups ws → AreKept places now (ws ++ rows)
  pub rest : (key : List Datum) → list_any (row_eq key) touched ≡ false → rows_of now key ≡ rows_of groups key
  pub long : Each (λ key. length key ≡ length places) touched
  pub bags : Each (λ key. IsBag (rows_of groups key)) touched
  pub few : length touched ≤ length rows
  pub made : out ≡ all_shown aggregates groups (negsuc 0) touched

-- rows came in, and the groups of their keys have their new rows
pub record AreRegrouped (places : List ℕ) (aggregates : List Aggregate) (groups now : Keyed) (rows : Weighted)
    (out : Weighted) : Type 0 where
  pub touched : List (List Datum)
  pub back : Weighted
  pub came : AreIn places aggregates groups now rows touched back
  pub once : IsDistinct row_eq touched
  pub bags : Each (λ key. IsBag (rows_of now key)) touched
  pub made : out ≡ back ++ all_shown aggregates now (pos 1) touched

-- there is room for rows that are still to come
pub record HasRoom (places : List ℕ) (aggregates : List Aggregate) (groups : Keyed) (rest : Weighted) : Type 0 where
  pub ws : Weighted
  pub kept : AreKept places groups ws
  pub bounded : AreBounded aggregates (ws ++ rest)

-- some of the rows came in, and there is room for those that are left
pub record IsOn (places : List ℕ) (aggregates : List Aggregate) (groups now : Keyed) (all rest : Weighted)
    (touched : List (List Datum)) (out : Weighted) : Type 0 where
  pub done : Weighted
  pub whole : done ++ rest ≡ all
  pub came : AreIn places aggregates groups now done touched out
  pub room : HasRoom places aggregates now rest
