-- The row of a group has the types of its keys and of its aggregates.
use Rattle.std.proofs.Common.{◌≡◌, ◌≢◌, ◌∙◌, ℕ, cond, ℤ, pos, List, [], ◌∷◌, ◌++◌, map, Contains, filter_map, refl, sym, ap, subst}
use Rattle.std.proofs.lemmas.List.Elements.{All-contains, All-from_recursion}
use Rattle.std.specs.List.{AllByRecursion as Each, cons_option}
use Rattle.mz_value.specs.RowOrder.{row_eq-Decides}
use Rattle.mz_value.specs.declared.datum.Datum.{Datum}
use Rattle.mz_value.specs.declared.datum.Datum.TheVariants as datum
use Rattle.mz_bag.proofs.BagLaws.{count-entries, count_in-bag_of}
use Rattle.mz_bag.specs.Weighted.{Weighted, bag_of, count}
use Rattle.mz_statement.specs.declared.column.ColumnType.{ColumnType}
use Rattle.mz_statement.specs.declared.column.ColumnType.TheVariants as kind
use Rattle.mz_plan.specs.Aggregate.{aggregate_of, column, greatest, least}
use Rattle.mz_plan.specs.Operators.{filtered, group_at, group_keys, group_row, grouped, has_key}
use Rattle.mz_plan.specs.PlanTypes.{aggregate_type, types_at}
use Rattle.mz_plan.specs.RowTypes.{AreOf}
use Rattle.mz_plan.specs.Value.{cells, value_at}
use Rattle.mz_plan.specs.WellFormed.{AggregateFits, PlacesFit}
use Rattle.mz_plan.specs.declared.aggregate.Aggregate.{Aggregate}
use Rattle.mz_plan.specs.declared.aggregate.Aggregate.TheVariants.{Count, Sum, Min, Max}
use Rattle.mz_plan_laws.proofs.Extremes.{greatest_is, least_is}
use Rattle.mz_plan_laws.proofs.GroupLaws.{Bearer, group_has}
use Rattle.mz_plan_laws.proofs.Weighing.{count_filtered}
use Rattle.mz_plan_laws.proofs.TypedValues.{both_of, cells_of, each_entry, each_in, each_kept, each_map, each_weaker, row_there, some_there, value_of}

-- ---- MIN and MAX

-- what holds of each of some values holds of one of them
member : (P : Datum → Type 0) (values : List Datum) → Each P values → (value : Datum) → Contains values value → P value
member P values h value among = All-contains P values value (All-from_recursion P values h) among

-- what holds of each of some values, of which there is one, holds of the least
least_of : (P : Datum → Type 0) (value : Datum) (values : List Datum) → Each P (value ∷ values) → P (least (value ∷ values))
least_of P value values h = member P (value ∷ values) h (least (value ∷ values)) (least_is value values).0

-- and of the greatest
greatest_of : (P : Datum → Type 0) (value : Datum) (values : List Datum) → Each P (value ∷ values) → P (greatest (value ∷ values))
greatest_of P value values h = member P (value ∷ values) h (greatest (value ∷ values)) (greatest_is value values).0

-- ---- aggregates

-- over some rows of these types an aggregate is of its type
aggregate_typed : (related : ColumnType → Datum → Type 0) → ((n : ℤ) → related kind.Wide (datum.Wide n)) → (types : List ColumnType)
    (w : List Datum × ℤ) (ws : Weighted) → Each (λ v. AreOf related types v.0) (w ∷ ws) → (aggregate : Aggregate)
    → AggregateFits types aggregate → (more : List ColumnType) (others : List Datum) → AreOf related more others
    → AreOf related (cons_option (aggregate_type types aggregate) more) (aggregate_of (w ∷ ws) aggregate ∷ others)
aggregate_typed related wide types w ws h Count fits more others rest = (wide _, rest)
aggregate_typed related wide types w ws h (Sum place) fits more others rest = (wide _, rest)
aggregate_typed related wide types w ws h (Min place) fits more others rest =
    let found = some_there types place fits in
    subst (λ o. AreOf related (cons_option o more) (aggregate_of (w ∷ ws) (Min place) ∷ others)) (sym found.1) (
      least_of (related found.0) (value_at w.0 place) (column place ws)
          (each_map (related found.0) (λ v. value_at v.0 place) (w ∷ ws)
          (each_weaker (λ v. AreOf related types v.0) (λ v. related found.0 (value_at v.0 place))
          (λ v typed. value_of related types v.0 typed place found.0 found.1) (w ∷ ws) h)),
      rest,
    )
aggregate_typed related wide types w ws h (Max place) fits more others rest =
    let found = some_there types place fits in
    subst (λ o. AreOf related (cons_option o more) (aggregate_of (w ∷ ws) (Max place) ∷ others)) (sym found.1) (
      greatest_of (related found.0) (value_at w.0 place) (column place ws)
          (each_map (related found.0) (λ v. value_at v.0 place) (w ∷ ws)
          (each_weaker (λ v. AreOf related types v.0) (λ v. related found.0 (value_at v.0 place))
          (λ v typed. value_of related types v.0 typed place found.0 found.1) (w ∷ ws) h)),
      rest,
    )

-- and so are all aggregates
aggregates_typed : (related : ColumnType → Datum → Type 0) → ((n : ℤ) → related kind.Wide (datum.Wide n)) → (types : List ColumnType)
    (w : List Datum × ℤ) (ws : Weighted) → Each (λ v. AreOf related types v.0) (w ∷ ws) → (aggregates : List Aggregate)
    → Each (AggregateFits types) aggregates
    → AreOf related (filter_map (aggregate_type types) aggregates) (map (aggregate_of (w ∷ ws)) aggregates)
aggregates_typed related wide types w ws h [] fits = tt
aggregates_typed related wide types w ws h (aggregate ∷ aggregates) fits =
    aggregate_typed related wide types w ws h aggregate fits.0 _ _ (aggregates_typed related wide types w ws h aggregates fits.1)

-- so they are over a list in which a row is there
some_typed : (related : ColumnType → Datum → Type 0) → ((n : ℤ) → related kind.Wide (datum.Wide n)) → (types : List ColumnType)
    (ws : Weighted) → Each (λ v. AreOf related types v.0) ws → (row : List Datum) → count row ws ≢ pos 0 → (aggregates : List Aggregate)
    → Each (AggregateFits types) aggregates
    → AreOf related (filter_map (aggregate_type types) aggregates) (map (aggregate_of ws) aggregates)
some_typed related wide types [] h row is aggregates fits = absurd (is refl)
some_typed related wide types (w ∷ ws) h row is aggregates fits = aggregates_typed related wide types w ws h aggregates fits

-- ---- groups

-- a row with the key that is there is in the group
in_group : (places : List ℕ) (key row : List Datum) (ws : Weighted) → cells places row ≡ key
    → count row (group_at places key ws) ≡ count row ws
in_group places key row ws same =
    count-entries (bag_of (filtered (has_key places key) ws)) row ∙ count_in-bag_of (filtered (has_key places key) ws) row
    ∙ count_filtered (has_key places key) row ws ∙ ap (λ c. cond c (count row ws) (pos 0)) ((row_eq-Decides (cells places row) key).1 same)

-- the row of a group
group_typed : (related : ColumnType → Datum → Type 0) → ((n : ℤ) → related kind.Wide (datum.Wide n)) → (types : List ColumnType)
    (places : List ℕ) → PlacesFit types places → (aggregates : List Aggregate) → Each (AggregateFits types) aggregates
    → (ws : Weighted) → Each (λ v. AreOf related types v.0) ws → (key : List Datum) → Bearer places key ws
    → AreOf related (types_at places types ++ filter_map (aggregate_type types) aggregates) (group_row places aggregates ws key)
group_typed related wide types places fit aggregates fits ws h key (row, is, same) =
    both_of related (types_at places types) key (filter_map (aggregate_type types) aggregates)
    (map (aggregate_of (group_at places key ws)) aggregates)
    (subst (AreOf related (types_at places types)) same
    (cells_of related types row (row_there (AreOf related types) ws h row is) places fit))
    (some_typed related wide types (group_at places key ws)
    (each_entry (AreOf related types) (filtered (has_key places key) ws)
    (each_kept (λ v. AreOf related types v.0) (λ v. has_key places key v.0) ws h))
    row (λ z. is (sym (in_group places key row ws same) ∙ z)) aggregates fits)

-- the rows of a grouping
pub grouped_typed : (related : ColumnType → Datum → Type 0) → ((n : ℤ) → related kind.Wide (datum.Wide n)) → (types : List ColumnType)
    (places : List ℕ) → PlacesFit types places → (aggregates : List Aggregate) → Each (AggregateFits types) aggregates
    → (ws : Weighted) → Each (λ v. AreOf related types v.0) ws
    → Each (λ v. AreOf related (types_at places types ++ filter_map (aggregate_type types) aggregates) v.0) (grouped places aggregates ws)
grouped_typed related wide types places fit aggregates fits ws h =
    each_map (λ v. AreOf related (types_at places types ++ filter_map (aggregate_type types) aggregates) v.0) (λ row. (row, pos 1))
    (map (group_row places aggregates ws) (group_keys places ws))
    (each_map (AreOf related (types_at places types ++ filter_map (aggregate_type types) aggregates)) (group_row places aggregates ws)
    (group_keys places ws)
    (each_in (λ key. AreOf related (types_at places types ++ filter_map (aggregate_type types) aggregates)
    (group_row places aggregates ws key))
    (group_keys places ws)
    (λ key e. group_typed related wide types places fit aggregates fits ws h key (group_has places key ws e))))
