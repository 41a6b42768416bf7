-- The values of a row, and how two values compare.
use Rattle.std.specs.Prelude.{ℕ, ℤ, pos, List, get_or, map, false}
use Rattle.std.specs.Ordering.{int_cmp}
use Rattle.std.specs.declared.cmp.Ordering.{Ordering}
use Rattle.mz_value.specs.Datum.{datum_cmp}
use Rattle.mz_value.specs.declared.datum.Datum.{Datum}
use Rattle.mz_value.specs.declared.datum.Datum.TheVariants.{Int, Text, Bool as Truth, Wide}

-- the value of a row at a place, counted from 0 at the left. FALSE where the row ends before it
abbrev pub value_at : List Datum → ℕ → Datum
value_at row place = get_or row place (Truth false)

-- the values of a row at these places, in their order
abbrev pub cells : List ℕ → List Datum → List Datum
cells places row = map (value_at row) places

-- the number of an INT or a WIDE, 0 for a value of another type
abbrev pub number_of : Datum → ℤ
number_of (Int number) = number
number_of (Text bytes) = pos 0
number_of (Truth truth) = pos 0
number_of (Wide number) = number

-- an INT and a WIDE compare by number, and all other values by the order of values
abbrev pub value_cmp : Datum → Datum → Ordering
value_cmp (Int x) (Wide y) = int_cmp x y
value_cmp (Wide x) (Int y) = int_cmp x y
value_cmp x y = datum_cmp x y
