-- The order of rows, and when two rows are one.
use Rattle.std.specs.Prelude.{Bool, List}
use Rattle.std.specs.Ordering.{eq_by_cmp}
use Rattle.std.specs.Cmp.Lexicographic.{slice_cmp}
use Rattle.std.specs.declared.cmp.Ordering.{Ordering}
use Rattle.mz_value.specs.declared.datum.Datum.{Datum}
use Rattle.mz_value.specs.Datum.{datum_cmp}

-- rows go column by column from the left, and a row that goes on stands after the one that ends
abbrev pub row_cmp : List Datum → List Datum → Ordering
row_cmp = slice_cmp datum_cmp

-- two rows are one where neither stands before the other
abbrev pub row_eq : List Datum → List Datum → Bool
row_eq = eq_by_cmp row_cmp
