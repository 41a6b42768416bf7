-- What an aggregate tells of the rows of a group.
use Rattle.std.specs.Prelude.{ℕ, ℤ, pos, ◌+ℤ◌, ◌*ℤ◌, List, [], ◌∷◌, Option, None, Some, map, fold, false, if◌then◌else◌}
use Rattle.std.specs.Ordering.{is_le, is_ge}
use Rattle.mz_value.specs.Datum.{datum_cmp}
use Rattle.mz_bag.specs.Weighted.{Weighted}
use Rattle.mz_value.specs.declared.datum.Datum.{Datum}
use Rattle.mz_value.specs.declared.datum.Datum.TheVariants.{Bool as Truth, Wide}
use Rattle.mz_plan.specs.Value.{value_at, number_of}
use Rattle.mz_plan.specs.declared.aggregate.Aggregate.{Aggregate}
use Rattle.mz_plan.specs.declared.aggregate.Aggregate.TheVariants.{Count, Sum, Min, Max}

-- the sum of what a function gives of each row, times the row's weight
abbrev pub weigh : (List Datum → ℤ) → Weighted → ℤ
weigh of_row [] = pos 0
weigh of_row (w ∷ ws) = w.1 *ℤ of_row w.0 +ℤ weigh of_row ws

-- the lesser of two values, by the order of values
abbrev pub lesser : Datum → Datum → Datum
lesser x y = if is_le (datum_cmp x y) then x else y

-- the greater of two values, by the order of values
abbrev pub greater : Datum → Datum → Datum
greater x y = if is_ge (datum_cmp x y) then x else y

-- the least of the values. There is always one, since no group is empty
abbrev pub least : List Datum → Datum
least [] = Truth false
least (value ∷ values) = fold lesser value values

-- the greatest of the values
abbrev pub greatest : List Datum → Datum
greatest [] = Truth false
greatest (value ∷ values) = fold greater value values

-- the values of a column
abbrev pub column : ℕ → Weighted → List Datum
column place ws = map (λ w. value_at w.0 place) ws

-- COUNT adds the counts of the rows, SUM the numbers of a column, each as often as its row is there,
-- and both give a WIDE. MIN and MAX give a value of the column as it is
abbrev pub aggregate_of : Weighted → Aggregate → Datum
aggregate_of group Count = Wide (weigh (λ row. pos 1) group)
aggregate_of group (Sum place) = Wide (weigh (λ row. number_of (value_at row place)) group)
aggregate_of group (Min place) = least (column place group)
aggregate_of group (Max place) = greatest (column place group)

-- what a row adds to a count, or to the sum of a column: 1, or its number at the place
abbrev pub number_at : Option ℕ → List Datum → ℤ
number_at None row = pos 1
number_at (Some place) row = number_of (value_at row place)
