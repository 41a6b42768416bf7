-- Each piece that is printed is read again as what it stands for.
use Rattle.std.proofs.Common.{ℕ, ◌<◌, ◌^◌, Bool, true, false, ◌&&◌, ◌||◌, List, [], ◌∷◌, Option, Some, None, IfSome, pos, negsuc, arith}
use Rattle.std.specs.List.{AllByRecursion as Each}
use Rattle.mz_value.specs.declared.datum.Datum.TheVariants as datum
use Rattle.mz_statement.specs.declared.condition.Side.TheVariants as side
use Rattle.mz_statement.specs.declared.condition.Test.{All', Any', Not', Compare, Row_of-Test, more_of-Test, end_of-Test}
use Rattle.mz_statement.specs.declared.item.Expression.TheVariants as expression
use Rattle.mz_statement.specs.declared.statement.Keep.TheVariants.{Lag, From, Stay}
use Rattle.mz_statement.specs.declared.statement.Statement.{Statement}
use Rattle.mz_statement.specs.declared.statement.Statement.TheVariants.{Query, CreateTable, CreateView, CreateIndex, DropTable, DropView, DropIndex, Insert, Delete, Start, Commit, ShowFrontiers, Retain, SetIsolation, SetCluster}
use Rattle.mz_statement.specs.Item.{IsExpression, IsItem}
use Rattle.mz_statement.specs.Query.{AreItems, IsSelect, IsQuery}
use Rattle.mz_statement.specs.Reference.{IsReference, IsColumnName, IsColumnPair, IsJoin}
use Rattle.mz_statement.specs.Statement.{IsColumn, IsTime, IsKeep, IsStatement}
use Rattle.mz_statement.specs.Test.{is_all, is_any, IsSide, Compares, AllCompare, IsTest}
use Rattle.mz_statement.specs.Value.{IsInt, IsLiteral, IsTuple}
use Rattle.mz_statement.specs.Word.{IsName, IsMaybeName}
use Rattle.mz_grammar.specs.declared.key.Key.TheVariants as k
use Rattle.mz_print.specs.Piece.{Piece, Fixed}
use Rattle.mz_print.specs.Print.{Printer, print_more, print_listed, print_alias, print_qualified, print_column, print_whole, print_literal, print_side, closed_in, joining, print_test, print_tests, print_other_tests, print_where, print_expression, print_item, print_items, print_reference, print_pair, print_join, print_group, print_distinct, print_source, print_select, print_other_select, print_query, print_as_of, print_definition, print_tuple, print_keep, print_statement}
use Rattle.mz_print.proofs.PieceFacts.{IsPiece}

-- pieces that are ones
abbrev Are : List Piece → Type 0
Are ps = Each IsPiece ps

-- what is printed of each value that can be spelled, before pieces that are ones
abbrev Pieces : {A : Type 0} → Printer A → (A → Type 0) → Type 0
Pieces print Can = (x : _) → Can x → (ps : List Piece) → Are ps → Are (print x ps)

-- ---- lists

-- others, each behind a piece
more_pieces : {A : Type 0} (between : Piece) → IsPiece between → (print : Printer A) (Can : A → Type 0) → Pieces print Can
    → Pieces (print_more between print) (Each Can)
more_pieces between is print Can one [] can ps are = are
more_pieces between is print Can one (x ∷ xs) can ps are = (is, one x can.0 _ (more_pieces between is print Can one xs can.1 ps are))

-- with the piece between
listed_pieces : {A : Type 0} (between : Piece) → IsPiece between → (print : Printer A) (Can : A → Type 0) → Pieces print Can
    → Pieces (print_listed between print) (Each Can)
listed_pieces between is print Can one [] can ps are = are
listed_pieces between is print Can one (x ∷ xs) can ps are = one x can.0 _ (more_pieces between is print Can one xs can.1 ps are)

-- ---- names and columns

-- an alias
alias_pieces : Pieces print_alias IsMaybeName
alias_pieces None can ps are = are
alias_pieces (Some name) can ps are = (tt, (can, are))

-- a name with a qualifier or without
qualified_pieces : (qualifier : Option (List ℕ)) → IsMaybeName qualifier → Pieces (print_qualified qualifier) IsName
qualified_pieces None first name can ps are = (can, are)
qualified_pieces (Some qualifier) first name can ps are = (first, (tt, (can, are)))

-- a column
column_pieces : Pieces print_column IsColumnName
column_pieces column can ps are = qualified_pieces column.qualifier can.qualifier column.name can.name ps are

-- ---- literals and comparisons

-- a whole number
whole_pieces : Pieces print_whole IsInt
whole_pieces (pos n) can ps are = (omega arith, are)
whole_pieces (negsuc n) can ps are = (tt, (omega arith, are))

-- a literal
literal_pieces : Pieces print_literal IsLiteral
literal_pieces (datum.Int z) can ps are = whole_pieces z can ps are
literal_pieces (datum.Text text) can ps are = (can.line, are)
literal_pieces (datum.Bool true) can ps are = (tt, are)
literal_pieces (datum.Bool false) can ps are = (tt, are)
literal_pieces (datum.Wide z) can ps are = absurd can

-- the right side of a comparison
side_pieces : Pieces print_side IsSide
side_pieces (side.Column column) can ps are = column_pieces column can ps are
side_pieces (side.Literal value) can ps are = literal_pieces value can ps are

-- ---- conditions

-- in parentheses or without
closed_pieces : (is_closed : Bool) (print : List Piece → List Piece) → ((ps : List Piece) → Are ps → Are (print ps)) → (ps : List Piece)
    → Are ps → Are (closed_in is_closed print ps)
closed_pieces true print one ps are = (tt, one _ (tt, are))
closed_pieces false print one ps are = one ps are

-- the word between
joining_piece : (by_and : Bool) → IsPiece (joining by_and)
joining_piece true = tt
joining_piece false = tt

mutual
  -- a test
  test_pieces : Pieces print_test Compares
  test_pieces (All' shape tests) can ps are = tests_pieces true tests can ps are
  test_pieces (Any' shape tests) can ps are = tests_pieces false tests can ps are
  test_pieces (Not' place (more_of-Test test end_of-Test)) can ps are =
      (tt, closed_pieces (is_all test || is_any test) (print_test test) (test_pieces test can) ps are)
  test_pieces (Compare column op side) can ps are = column_pieces column can.0 _ (tt, side_pieces side can.1 ps are)

  -- tests that are joined
  tests_pieces : {m : _} (by_and : Bool) (tests : Row_of-Test m) → AllCompare tests → (ps : List Piece) → Are ps
      → Are (print_tests by_and tests ps)
  tests_pieces by_and end_of-Test can ps are = are
  tests_pieces by_and (more_of-Test test rest) can ps are =
      closed_pieces (by_and && is_any test) (print_test test) (test_pieces test can.0) _ (other_tests_pieces by_and rest can.1 ps are)

  -- others
  other_tests_pieces : {m : _} (by_and : Bool) (tests : Row_of-Test m) → AllCompare tests → (ps : List Piece) → Are ps
      → Are (print_other_tests by_and tests ps)
  other_tests_pieces by_and end_of-Test can ps are = are
  other_tests_pieces by_and (more_of-Test test rest) can ps are = (
    joining_piece by_and,
    closed_pieces (by_and && is_any test) (print_test test) (test_pieces test can.0) _ (other_tests_pieces by_and rest can.1 ps are),
  )

-- a WHERE, where there is one
where_pieces : Pieces print_where (λ condition. IfSome condition IsTest)
where_pieces None can ps are = are
where_pieces (Some test) can ps are = (tt, test_pieces test can.compares ps are)

-- ---- selects and queries

-- an expression
expression_pieces : Pieces print_expression IsExpression
expression_pieces (expression.Column column) can ps are = column_pieces column can ps are
expression_pieces expression.Count can ps are = (tt, (tt, (tt, (tt, are))))
expression_pieces (expression.Sum column) can ps are = (tt, (tt, column_pieces column can _ (tt, are)))
expression_pieces (expression.Min column) can ps are = (tt, (tt, column_pieces column can _ (tt, are)))
expression_pieces (expression.Max column) can ps are = (tt, (tt, column_pieces column can _ (tt, are)))

-- an item
item_pieces : Pieces print_item IsItem
item_pieces item can ps are = expression_pieces item.expression can.expression _ (alias_pieces item.alias can.alias ps are)

-- a star or items
items_pieces : Pieces print_items (λ items. IfSome items AreItems)
items_pieces None can ps are = (tt, are)
items_pieces (Some items) can ps are = listed_pieces (Fixed k.Comma) tt print_item IsItem item_pieces items can.each ps are

-- a reference
reference_pieces : Pieces print_reference IsReference
reference_pieces reference can ps are = (can.name, alias_pieces reference.alias can.alias ps are)

-- a pair of columns
pair_pieces : Pieces print_pair IsColumnPair
pair_pieces pair can ps are = column_pieces pair.left can.left _ (tt, column_pieces pair.right can.right ps are)

-- a join
join_pieces : Pieces print_join IsJoin
join_pieces join can ps are =
    let pairs = listed_pieces (Fixed k.And) tt print_pair IsColumnPair pair_pieces join.pairs can.pairs ps are in
    reference_pieces join.reference can.reference _ (tt, pairs)

-- a GROUP BY, where there is one
group_pieces : Pieces print_group (Each IsColumnName)
group_pieces [] can ps are = are
group_pieces (column ∷ columns) can ps are =
    (tt, (tt, listed_pieces (Fixed k.Comma) tt print_column IsColumnName column_pieces (column ∷ columns) can ps are))

-- a DISTINCT, where there is one
distinct_pieces : (distinct : Bool) (ps : List Piece) → Are ps → Are (print_distinct distinct ps)
distinct_pieces false ps are = are
distinct_pieces true ps are = (tt, are)

-- what stands behind the items
source_pieces : Pieces print_source IsSelect
source_pieces select can ps are = (
  tt,
  reference_pieces select.first can.first _ (more_pieces (Fixed k.Join) tt print_join IsJoin join_pieces select.joins can.joins _
      (where_pieces select.test can.test _ (group_pieces select.group can.group ps are))),
)

-- a select
select_pieces : Pieces print_select IsSelect
select_pieces select can ps are =
    (tt, distinct_pieces select.distinct _ (items_pieces select.items can.items _ (source_pieces select can ps are)))

-- a select behind UNION ALL
other_pieces : Pieces print_other_select IsSelect
other_pieces select can ps are = (tt, select_pieces select can ps are)

-- a query
query_pieces : Pieces print_query IsQuery
query_pieces [] can ps are = are
query_pieces (first ∷ others) can ps are =
    let each = can.each in
    select_pieces first each.0 _ (more_pieces (Fixed k.Union) tt print_other_select IsSelect other_pieces others each.1 ps are)

-- ---- statements

-- a time is a number of 64 bits
time_piece : (n : ℕ) → IsTime n → n < 2 ^ 64
time_piece n can = omega arith

-- an AS OF, where there is one
as_of_pieces : Pieces print_as_of (λ as_of. IfSome as_of IsTime)
as_of_pieces None can ps are = are
as_of_pieces (Some n) can ps are = (tt, (tt, (time_piece n can, are)))

-- a column of a table
definition_pieces : Pieces print_definition IsColumn
definition_pieces column can ps are = (can.name, (tt, are))

-- a row
tuple_pieces : Pieces print_tuple IsTuple
tuple_pieces values can ps are =
    (tt, listed_pieces (Fixed k.Comma) tt print_literal IsLiteral literal_pieces values can.literals _ (tt, are))

-- a policy
keep_pieces : Pieces print_keep IsKeep
keep_pieces (Lag n) can ps are = let high = can.high in (tt, (omega arith, are))
keep_pieces (From n) can ps are = (tt, (time_piece n can, are))
keep_pieces Stay can ps are = (tt, are)

-- a statement
statement_pieces : Pieces print_statement IsStatement
statement_pieces (Query query as_of) can ps are = query_pieces query can.0 _ (as_of_pieces as_of can.1 ps are)
statement_pieces (CreateTable name columns) can ps are =
    (tt, (tt, (can.0, (tt, listed_pieces (Fixed k.Comma) tt print_definition IsColumn definition_pieces columns can.1.each _ (tt, are)))))
statement_pieces (CreateView name query) can ps are = (tt, (tt, (can.0, (tt, query_pieces query can.1 ps are))))
statement_pieces (CreateIndex name on) can ps are = (tt, (tt, (can.0, (tt, (can.1, are)))))
statement_pieces (DropTable name) can ps are = (tt, (tt, (can, are)))
statement_pieces (DropView name) can ps are = (tt, (tt, (can, are)))
statement_pieces (DropIndex name) can ps are = (tt, (tt, (can, are)))
statement_pieces (Insert name rows) can ps are =
    (tt, (tt, (can.0, (tt, listed_pieces (Fixed k.Comma) tt print_tuple IsTuple tuple_pieces rows can.1.each ps are))))
statement_pieces (Delete name test) can ps are = (tt, (tt, (can.0, where_pieces test can.1 ps are)))
statement_pieces Start can ps are = (tt, are)
statement_pieces Commit can ps are = (tt, are)
statement_pieces ShowFrontiers can ps are = (tt, (tt, are))
statement_pieces (Retain name keep) can ps are = (tt, (can.0, keep_pieces keep can.1 ps are))
statement_pieces (SetIsolation strict) can ps are = absurd can
statement_pieces (SetCluster name) can ps are = absurd can

-- each piece of a statement that the grammar can spell is one
pub pieces : (statement : Statement) → IsStatement statement → Each IsPiece (print_statement statement [])
pieces statement can = statement_pieces statement can [] tt
