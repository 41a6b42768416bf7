-- How a statement is printed: each rule gives the pieces of a value, and then others.
use Rattle.std.specs.Prelude.{ℕ, suc, Bool, true, false, ◌&&◌, ◌||◌, List, [], ◌∷◌, Option, Some, None, ℤ, pos, negsuc}
use Rattle.mz_value.specs.declared.datum.Datum.{Datum}
use Rattle.mz_value.specs.declared.datum.Datum.TheVariants as datum
use Rattle.mz_statement.specs.declared.column.Column.{Column}
use Rattle.mz_statement.specs.declared.column.ColumnType.{ColumnType}
use Rattle.mz_statement.specs.declared.column.ColumnType.TheVariants as kind
use Rattle.mz_statement.specs.declared.condition.Side.{Side}
use Rattle.mz_statement.specs.declared.condition.Side.TheVariants as side
use Rattle.mz_statement.specs.declared.condition.Test.{Test, All', Any', Not', Compare, Row_of-Test, more_of-Test, end_of-Test}
use Rattle.mz_statement.specs.declared.item.Expression.{Expression}
use Rattle.mz_statement.specs.declared.item.Expression.TheVariants as expression
use Rattle.mz_statement.specs.declared.item.SelectItem.{SelectItem}
use Rattle.mz_statement.specs.declared.query.Select.{Select}
use Rattle.mz_statement.specs.declared.reference.ColumnName.{ColumnName}
use Rattle.mz_statement.specs.declared.reference.ColumnPair.{ColumnPair}
use Rattle.mz_statement.specs.declared.reference.Join.{Join}
use Rattle.mz_statement.specs.declared.reference.Reference.{Reference}
use Rattle.mz_statement.specs.declared.statement.Keep.{Keep}
use Rattle.mz_statement.specs.declared.statement.Keep.TheVariants.{Lag, From, Stay}
use Rattle.mz_statement.specs.declared.statement.Statement.{Statement}
use Rattle.mz_statement.specs.declared.statement.Statement.TheVariants.{Query, CreateTable, CreateView, CreateIndex, DropTable, DropView, DropIndex, Insert, Delete, Start, Commit, ShowFrontiers, Retain, SetIsolation, SetCluster}
use Rattle.mz_statement.specs.Test.{is_all, is_any}
use Rattle.mz_grammar.specs.declared.key.Key.TheVariants as k
use Rattle.mz_grammar.specs.Grammar.{op_key}
use Rattle.mz_print.specs.declared.word.Unreserved.{Unreserved}
use Rattle.mz_print.specs.declared.word.Unreserved.TheVariants as word
use Rattle.mz_print.specs.Piece.{Piece, Fixed, Word, Name, Number, Text, text_of}

-- the pieces of an A, and then others
abbrev pub Printer : Type 0 → Type 0
Printer A = A → List Piece → List Piece

-- ---- lists

-- each with the piece before it
abbrev pub print_more : {A : Type 0} → Piece → Printer A → Printer (List A)
print_more between print [] ps = ps
print_more between print (x ∷ xs) ps = between ∷ print x (print_more between print xs ps)

-- with the piece between
abbrev pub print_listed : {A : Type 0} → Piece → Printer A → Printer (List A)
print_listed between print [] ps = ps
print_listed between print (x ∷ xs) ps = print x (print_more between print xs ps)

-- ---- names and columns

-- [AS name]
abbrev pub print_alias : Printer (Option (List ℕ))
print_alias None ps = ps
print_alias (Some name) ps = Fixed k.As ∷ Name name ∷ ps

-- [name .] name
abbrev pub print_qualified : Option (List ℕ) → Printer (List ℕ)
print_qualified None name ps = Name name ∷ ps
print_qualified (Some qualifier) name ps = Name qualifier ∷ Fixed k.Dot ∷ Name name ∷ ps

abbrev pub print_column : Printer ColumnName
print_column column ps = print_qualified column.qualifier column.name ps

-- ---- literals and comparisons

-- a whole number: negsuc n is -(n + 1)
abbrev pub print_whole : Printer ℤ
print_whole (pos n) ps = Number n ∷ ps
print_whole (negsuc n) ps = Fixed k.Minus ∷ Number (suc n) ∷ ps

abbrev pub print_literal : Printer Datum
print_literal (datum.Int z) ps = print_whole z ps
print_literal (datum.Text text) ps = Text text ∷ ps
print_literal (datum.Bool true) ps = Fixed k.True ∷ ps
print_literal (datum.Bool false) ps = Fixed k.False ∷ ps
print_literal (datum.Wide z) ps = print_whole z ps

abbrev pub print_side : Printer Side
print_side (side.Column column) ps = print_column column ps
print_side (side.Literal value) ps = print_literal value ps

-- ---- conditions

-- in parentheses, or without
abbrev pub closed_in : Bool → (List Piece → List Piece) → List Piece → List Piece
closed_in true print ps = Fixed k.Open ∷ print (Fixed k.Close ∷ ps)
closed_in false print ps = print ps

-- the word that joins tests
abbrev pub joining : Bool → Piece
joining true = Fixed k.And
joining false = Fixed k.Or

abbrev mutual
  -- parentheses stand round an OR that is under AND or NOT, round an AND that is under NOT, and nowhere else
  pub print_test : Test → List Piece → List Piece
  print_test (All' shape tests) ps = print_tests true tests ps
  print_test (Any' shape tests) ps = print_tests false tests ps
  print_test (Not' place (more_of-Test test end_of-Test)) ps =
      Fixed k.Not ∷ closed_in (is_all test || is_any test) (print_test test) ps
  print_test (Compare column op side) ps = print_column column (Fixed (op_key op) ∷ print_side side ps)

  -- tests that are joined by AND, or else by OR
  pub print_tests : {m : _} → Bool → Row_of-Test m → List Piece → List Piece
  print_tests by_and end_of-Test ps = ps
  print_tests by_and (more_of-Test test rest) ps =
      closed_in (by_and && is_any test) (print_test test) (print_other_tests by_and rest ps)

  -- others, each with the word before it
  pub print_other_tests : {m : _} → Bool → Row_of-Test m → List Piece → List Piece
  print_other_tests by_and end_of-Test ps = ps
  print_other_tests by_and (more_of-Test test rest) ps =
      joining by_and ∷ closed_in (by_and && is_any test) (print_test test) (print_other_tests by_and rest ps)

-- [WHERE condition]
abbrev pub print_where : Printer (Option Test)
print_where None ps = ps
print_where (Some test) ps = Fixed k.Where ∷ print_test test ps

-- ---- selects and queries

-- an aggregate of a column
abbrev pub print_call : Unreserved → Printer ColumnName
print_call word column ps = Word word ∷ Fixed k.Open ∷ print_column column (Fixed k.Close ∷ ps)

abbrev pub print_expression : Printer Expression
print_expression (expression.Column column) ps = print_column column ps
print_expression expression.Count ps = Word word.Count ∷ Fixed k.Open ∷ Fixed k.Star ∷ Fixed k.Close ∷ ps
print_expression (expression.Sum column) ps = print_call word.Sum column ps
print_expression (expression.Min column) ps = print_call word.Min column ps
print_expression (expression.Max column) ps = print_call word.Max column ps

abbrev pub print_item : Printer SelectItem
print_item item ps = print_expression item.expression (print_alias item.alias ps)

-- a star, or items
abbrev pub print_items : Printer (Option (List SelectItem))
print_items None ps = Fixed k.Star ∷ ps
print_items (Some items) ps = print_listed (Fixed k.Comma) print_item items ps

-- name [AS name]
abbrev pub print_reference : Printer Reference
print_reference reference ps = Name reference.name ∷ print_alias reference.alias ps

-- column = column
abbrev pub print_pair : Printer ColumnPair
print_pair pair ps = print_column pair.left (Fixed k.Equal ∷ print_column pair.right ps)

-- what stands behind JOIN
abbrev pub print_join : Printer Join
print_join join ps = print_reference join.reference (Fixed k.On ∷ print_listed (Fixed k.And) print_pair join.pairs ps)

-- [GROUP BY columns]
abbrev pub print_group : Printer (List ColumnName)
print_group [] ps = ps
print_group (column ∷ columns) ps = Fixed k.Group ∷ Fixed k.By ∷ print_listed (Fixed k.Comma) print_column (column ∷ columns) ps

-- [DISTINCT]
abbrev pub print_distinct : Printer Bool
print_distinct false ps = ps
print_distinct true ps = Fixed k.Distinct ∷ ps

-- what stands behind the items
abbrev pub print_source : Printer Select
print_source select ps =
    Fixed k.From ∷ print_reference select.first (print_more (Fixed k.Join) print_join select.joins
    (print_where select.test (print_group select.group ps)))

abbrev pub print_select : Printer Select
print_select select ps =
    Fixed k.Select ∷ print_distinct select.distinct (print_items select.items (print_source select ps))

-- ALL and a select
abbrev pub print_other_select : Printer Select
print_other_select select ps = Fixed k.All ∷ print_select select ps

-- selects with UNION ALL between
abbrev pub print_query : Printer (List Select)
print_query [] ps = ps
print_query (first ∷ others) ps = print_select first (print_more (Fixed k.Union) print_other_select others ps)

-- ---- statements

-- [AS OF number]
abbrev pub print_as_of : Printer (Option ℕ)
print_as_of None ps = ps
print_as_of (Some n) ps = Fixed k.As ∷ Fixed k.Of ∷ Number n ∷ ps

abbrev pub type_word : ColumnType → Unreserved
type_word kind.Int = word.Int
type_word kind.Text = word.Text
type_word kind.Bool = word.Bool
type_word kind.Wide = word.Wide

-- name type
abbrev pub print_definition : Printer Column
print_definition column ps = Name column.name ∷ Word (type_word column.kind) ∷ ps

-- literals in parentheses
abbrev pub print_tuple : Printer (List Datum)
print_tuple values ps = Fixed k.Open ∷ print_listed (Fixed k.Comma) print_literal values (Fixed k.Close ∷ ps)

-- LAG number, FROM number or STAY
abbrev pub print_keep : Printer Keep
print_keep (Lag n) ps = Word word.Lag ∷ Number n ∷ ps
print_keep (From n) ps = Fixed k.From ∷ Number n ∷ ps
print_keep Stay ps = Word word.Stay ∷ ps

abbrev pub isolation_word : Bool → Unreserved
isolation_word true = word.Strict
isolation_word false = word.Session

abbrev pub print_statement : Printer Statement
print_statement (Query query as_of) ps = print_query query (print_as_of as_of ps)
print_statement (CreateTable name columns) ps =
    Fixed k.Create ∷ Fixed k.Table ∷ Name name ∷ Fixed k.Open ∷ print_listed (Fixed k.Comma) print_definition columns (Fixed k.Close ∷ ps)
print_statement (CreateView name query) ps = Fixed k.Create ∷ Fixed k.View ∷ Name name ∷ Fixed k.As ∷ print_query query ps
print_statement (CreateIndex name on) ps = Fixed k.Create ∷ Fixed k.Index ∷ Name name ∷ Fixed k.On ∷ Name on ∷ ps
print_statement (DropTable name) ps = Fixed k.Drop ∷ Fixed k.Table ∷ Name name ∷ ps
print_statement (DropView name) ps = Fixed k.Drop ∷ Fixed k.View ∷ Name name ∷ ps
print_statement (DropIndex name) ps = Fixed k.Drop ∷ Fixed k.Index ∷ Name name ∷ ps
print_statement (Insert name rows) ps =
    Fixed k.Insert ∷ Fixed k.Into ∷ Name name ∷ Fixed k.Values ∷ print_listed (Fixed k.Comma) print_tuple rows ps
print_statement (Delete name test) ps = Fixed k.Delete ∷ Fixed k.From ∷ Name name ∷ print_where test ps
print_statement Start ps = Fixed k.Begin ∷ ps
print_statement Commit ps = Fixed k.Commit ∷ ps
print_statement ShowFrontiers ps = Fixed k.Show ∷ Word word.Frontiers ∷ ps
print_statement (Retain name keep) ps = Fixed k.Retain ∷ Name name ∷ print_keep keep ps
print_statement (SetIsolation strict) ps = Word word.Set ∷ Word word.Isolation ∷ Word (isolation_word strict) ∷ ps
print_statement (SetCluster name) ps = Word word.Set ∷ Word word.Cluster ∷ Name name ∷ ps

-- the text of a statement
abbrev pub print_of : Statement → List ℕ
print_of statement = text_of (print_statement statement [])
