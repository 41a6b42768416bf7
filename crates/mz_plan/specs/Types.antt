-- The types of values, of columns and of plans.
use Rattle.std.specs.Prelude.{Bool, true, false, List, map}
use Rattle.mz_value.specs.declared.datum.Datum.{Datum}
use Rattle.mz_value.specs.declared.datum.Datum.TheVariants as datum
use Rattle.mz_statement.specs.declared.column.Column.{Column}
use Rattle.mz_statement.specs.declared.column.ColumnType.{ColumnType}
use Rattle.mz_statement.specs.declared.column.ColumnType.TheVariants as kind
use Rattle.mz_plan.specs.Typed.{plan_columns}
use Rattle.mz_plan.specs.declared.item.Item.{Item}
use Rattle.mz_plan.specs.declared.plan.Plan.{Plan}

-- two types are one
abbrev pub same_type : ColumnType → ColumnType → Bool
same_type kind.Int kind.Int = true
same_type kind.Text kind.Text = true
same_type kind.Bool kind.Bool = true
same_type kind.Wide kind.Wide = true
same_type one other = false

-- the type of a value
abbrev pub type_of : Datum → ColumnType
type_of (datum.Int number) = kind.Int
type_of (datum.Text text) = kind.Text
type_of (datum.Bool truth) = kind.Bool
type_of (datum.Wide number) = kind.Wide

-- a literal may be compared with a column of its own type, and a number with a WIDE column too
abbrev pub may_compare : ColumnType → Datum → Bool
may_compare kind.Wide (datum.Int number) = true
may_compare of_type literal = same_type of_type (type_of literal)

-- the types of columns
abbrev pub types_of : List Column → List ColumnType
types_of columns = map (λ column. column.kind) columns

-- the types of a plan's columns
abbrev pub plan_types : List Item → Plan → List ColumnType
plan_types items plan = types_of (plan_columns items plan)
