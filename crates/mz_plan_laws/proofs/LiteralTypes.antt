-- Rows of literals have the types of their values, and rows of the same types one length.
use Rattle.std.proofs.Common.{◌≡◌, ◌∙◌, List, [], ◌∷◌, map, length, refl, sym, ap, subst}
use Rattle.std.proofs.lemmas.List.{length-map}
use Rattle.std.specs.List.{AllByRecursion as Each}
use Rattle.mz_value.specs.declared.datum.Datum.{Datum}
use Rattle.mz_value.specs.declared.datum.Datum.TheVariants as datum
use Rattle.mz_bag.specs.Weighted.{Weighted}
use Rattle.mz_statement.specs.Value.{IsLiteral}
use Rattle.mz_statement.specs.declared.column.ColumnType.{ColumnType}
use Rattle.mz_statement.specs.declared.column.ColumnType.TheVariants as kind
use Rattle.mz_plan.specs.RowTypes.{HaveTypes, IsOf, IsRowOf}
use Rattle.mz_plan.specs.Types.{type_of}

-- a value of a type has that type
type_is : (of_type : ColumnType) (value : Datum) → IsOf of_type value → type_of value ≡ of_type
type_is kind.Int (datum.Int number) h = refl
type_is kind.Text (datum.Text text) h = refl
type_is kind.Bool (datum.Bool truth) h = refl
type_is kind.Wide (datum.Wide number) h = refl
type_is of_type value h = absurd h

-- and a row the types of its values
pub types_of_row : (types : List ColumnType) (row : List Datum) → IsRowOf types row → map type_of row ≡ types
types_of_row [] [] h = refl
types_of_row (of_type ∷ types) (value ∷ row) h = λ i. type_is of_type value h.0 i ∷ types_of_row types row h.1 i
types_of_row [] (value ∷ row) h = absurd h
types_of_row (of_type ∷ types) [] h = absurd h

-- a literal is of its type
literal_is : (value : Datum) → IsLiteral value → IsOf (type_of value) value
literal_is (datum.Int number) h = h
literal_is (datum.Text text) h = tt
literal_is (datum.Bool truth) h = tt
literal_is (datum.Wide number) h = absurd h

-- a row of literals is of its types
row_is : (row : List Datum) → Each IsLiteral row → IsRowOf (map type_of row) row
row_is [] h = tt
row_is (value ∷ row) h = (literal_is value h.0, row_is row h.1)

-- and so of what these are
pub row_of_types : (types : List ColumnType) (row : List Datum) → Each IsLiteral row → map type_of row ≡ types → IsRowOf types row
row_of_types types row h same = subst (λ ts. IsRowOf ts row) same (row_is row h)

-- a row has as many values as there are types
row_long : (types : List ColumnType) (row : List Datum) → IsRowOf types row → length row ≡ length types
row_long types row h = sym (length-map row type_of) ∙ ap length (types_of_row types row h)

-- and so has each of a list
pub rows_long : (types : List ColumnType) (ws : Weighted) → HaveTypes types ws → Each (λ w. length w.0 ≡ length types) ws
rows_long types [] h = tt
rows_long types (w ∷ ws) h = (row_long types w.0 h.0, rows_long types ws h.1)
