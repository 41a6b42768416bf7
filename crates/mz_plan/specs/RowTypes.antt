-- When the rows of a list have the types of columns.
use Rattle.std.specs.Prelude.{ℕ, List, [], ◌∷◌, ⊤}
use Rattle.std.specs.List.{AllByRecursion as Each}
use Rattle.mz_value.specs.declared.datum.Datum.{Datum}
use Rattle.mz_value.specs.declared.datum.Datum.TheVariants as datum
use Rattle.mz_bag.specs.Weighted.{Weighted}
use Rattle.mz_statement.specs.Value.{IsInt}
use Rattle.mz_statement.specs.declared.column.ColumnType.{ColumnType}
use Rattle.mz_statement.specs.declared.column.ColumnType.TheVariants as kind
use Rattle.mz_plan.specs.Meaning.{Leaves}

-- a value is of a type. The number of an INT has 32 bits
abbrev pub IsOf : ColumnType → Datum → Type 0
IsOf kind.Int (datum.Int number) = IsInt number
IsOf kind.Text (datum.Text text) = ⊤
IsOf kind.Bool (datum.Bool truth) = ⊤
IsOf kind.Wide (datum.Wide number) = ⊤
IsOf of_type value = ⊥

-- a row has as many values as there are types, and each value and its type are related
abbrev pub AreOf : (ColumnType → Datum → Type 0) → List ColumnType → List Datum → Type 0
AreOf related [] [] = ⊤
AreOf related (of_type ∷ types) (value ∷ row) = related of_type value × AreOf related types row
AreOf related types row = ⊥

-- a row has a value of each type, in their order
abbrev pub IsRowOf : List ColumnType → List Datum → Type 0
IsRowOf types row = AreOf IsOf types row

-- each row of a list has a value of each type
abbrev pub HaveTypes : List ColumnType → Weighted → Type 0
HaveTypes types ws = Each (λ w. IsRowOf types w.0) ws

-- the rows of each item have the types that it is said to have
pub record AreTyped (types : ℕ → List ColumnType) (leaves : Leaves) : Type 0 where
  pub each : (item : ℕ) → HaveTypes (types item) (leaves item)
