-- What is printed is spelled by the grammar.
use Rattle.std.proofs.Common.{◌≡◌, ℕ, zero, suc, ◌+◌, ◌≤◌, ◌<◌, ◌≢◌, Bool, true, false, ◌||◌, List, [], ◌∷◌, length, map, Option, Some, None, IfSome, pos, negsuc, inl, inr, refl, sym, ap, subst, ◌∙◌, arith}
use Rattle.std.specs.List.{AllByRecursion as Each}
use Rattle.std.proofs.lemmas.Bool.{leb-true}
use Rattle.mz_value.specs.declared.datum.Datum.TheVariants as datum
use Rattle.mz_lex.proofs.ReachLemmas.{both}
use Rattle.mz_statement.specs.declared.column.ColumnType.{ColumnType}
use Rattle.mz_statement.specs.declared.column.ColumnType.TheVariants as kind
use Rattle.mz_statement.specs.declared.condition.Op.{Op}
use Rattle.mz_statement.specs.declared.condition.Side.{Side}
use Rattle.mz_statement.specs.declared.condition.Side.TheVariants as side
use Rattle.mz_statement.specs.declared.condition.Test.{Test}
use Rattle.mz_statement.specs.declared.condition.Test.TheVariants as test
use Rattle.mz_statement.specs.declared.item.Expression.{Expression}
use Rattle.mz_statement.specs.declared.item.Expression.TheVariants as expression
use Rattle.mz_statement.specs.declared.item.SelectItem.{SelectItem}
use Rattle.mz_statement.specs.declared.reference.ColumnName.{ColumnName}
use Rattle.mz_statement.specs.declared.reference.ColumnPair.{ColumnPair}
use Rattle.mz_statement.specs.declared.reference.Reference.{Reference}
use Rattle.mz_statement.specs.declared.statement.Keep.TheVariants.{Lag, From, Stay}
use Rattle.mz_statement.specs.declared.statement.Statement.{Statement}
use Rattle.mz_statement.specs.declared.statement.Statement.TheVariants.{Query, CreateTable, CreateView, CreateIndex, DropTable, DropView, DropIndex, Insert, Delete, Start, Commit, ShowFrontiers, Retain, SetIsolation, SetCluster}
use Rattle.mz_statement.specs.Item as item
use Rattle.mz_statement.specs.Query as query
use Rattle.mz_statement.specs.Reference as reference
use Rattle.mz_statement.specs.Statement as statement
use Rattle.mz_statement.specs.Test.{is_all, is_any, is_normal, is_member, is_joined, depth, closed_depth, deepest_of, Compares, IsTest}
use Rattle.mz_statement.specs.Test as condition
use Rattle.mz_statement.specs.Value as value
use Rattle.mz_statement.proofs.TestRules.{is_all_of_all, is_any_of_all, is_any_of_any, is_all_of_any, is_any_of_not, depth_of_not, normal_of_all, normal_of_any, normal_of_not, compares_of_all, compares_of_any, compares_of_not}
use Rattle.mz_grammar.specs.declared.key.Key.{Key}
use Rattle.mz_grammar.specs.declared.key.Key.TheVariants as k
use Rattle.mz_grammar.specs.declared.token.Tok.{Tok}
use Rattle.mz_grammar.specs.Grammar.{Rule, IsMore, IsListed, SpellsAlias, SpellsQualified, SpellsColumn, SpellsLiteral, SpellsSide, op_key, SpellsComparison, SpellsConjunction, SpellsDisjunction, SpellsAtom, SpellsCondition, SpellsWhere, SpellsExpression, SpellsItem, SpellsItems, SpellsReference, SpellsPair, SpellsJoin, SpellsGroup, SpellsDistinct, SpellsSource, SpellsSelect, SpellsOther, SpellsQuery, SpellsAsOf, SpellsType, SpellsDefinition, SpellsTuple, SpellsKeep, SpellsStatement, Spells}
use Rattle.mz_print.specs.Piece as piece
use Rattle.mz_print.specs.Piece.{Piece, Fixed, stands_for}
use Rattle.mz_print.specs.Print.{Printer, print_more, print_listed, print_alias, print_qualified, print_column, print_literal, print_side, closed_in, print_test, print_where, print_expression, print_item, print_items, print_reference, print_pair, print_join, print_group, print_distinct, print_source, print_select, print_other_select, print_query, print_as_of, print_definition, type_word, print_tuple, print_keep, print_statement}
use Rattle.mz_print.proofs.PrintRules.{print_member, print_of_all, print_of_any, print_of_not}
use Rattle.mz_grammar.proofs.Forms.{by_form, all_of_members, any_of_members}
use Rattle.mz_grammar.proofs.Shape.{is_list, IsClosedWithin, IsWithin, IsMemberWithin, all_members, any_members, not_single}

-- the tokens of pieces
abbrev toks : List Piece → List Tok
toks ps = map stands_for ps

-- what is printed of each value that can be spelled is a spelling of it
abbrev Spelled : {A : Type 0} → Rule A → Printer A → (A → Type 0) → Type 0
Spelled Is print Can = (x : _) → Can x → (ps : List Piece) → Is x (toks (print x ps)) (toks ps)

-- ---- lists

-- others, each behind the key
more_spelled : {A : Type 0} (key : Key) (Is : Rule A) (print : Printer A) (Can : A → Type 0) → Spelled Is print Can
    → Spelled (IsMore key Is) (print_more (Fixed key) print) (Each Can)
more_spelled key Is print Can one [] can ps = refl
more_spelled key Is print Can one (x ∷ xs) can ps =
    (_, _, refl, one x can.0 (print_more (Fixed key) print xs ps), more_spelled key Is print Can one xs can.1 ps)

-- one or more with the key between
listed_spelled : {A : Type 0} (key : Key) (Is : Rule A) (print : Printer A) (Can : A → Type 0) → Spelled Is print Can
    → (xs : List A) → Each Can xs → 0 < length xs → (ps : List Piece)
    → IsListed key Is xs (toks (print_listed (Fixed key) print xs ps)) (toks ps)
listed_spelled key Is print Can one [] can some ps = absurd (omega arith)
listed_spelled key Is print Can one (x ∷ xs) can some ps =
    (_, one x can.0 (print_more (Fixed key) print xs ps), more_spelled key Is print Can one xs can.1 ps)

-- ---- names and columns

-- an alias
alias_spelled : (alias : Option (List ℕ)) (ps : List Piece) → SpellsAlias alias (toks (print_alias alias ps)) (toks ps)
alias_spelled None ps = refl
alias_spelled (Some name) ps = refl

-- a name with a qualifier or without
qualified_spelled : (qualifier : Option (List ℕ)) (name : List ℕ) (ps : List Piece)
    → SpellsQualified qualifier name (toks (print_qualified qualifier name ps)) (toks ps)
qualified_spelled None name ps = refl
qualified_spelled (Some qualifier) name ps = refl

-- a column
column_spelled : (column : ColumnName) (ps : List Piece) → SpellsColumn column (toks (print_column column ps)) (toks ps)
column_spelled column ps = qualified_spelled column.qualifier column.name ps

-- ---- literals and comparisons

-- a literal
literal_spelled : Spelled SpellsLiteral print_literal value.IsLiteral
literal_spelled (datum.Int (pos n)) can ps = (n, inl (can, refl, refl))
literal_spelled (datum.Int (negsuc n)) can ps = (suc n, inr (omega arith, refl, refl))
literal_spelled (datum.Text text) can ps = (can.short, refl)
literal_spelled (datum.Bool true) can ps = refl
literal_spelled (datum.Bool false) can ps = refl
literal_spelled (datum.Wide z) can ps = absurd can

-- the right side of a comparison
side_spelled : Spelled SpellsSide print_side condition.IsSide
side_spelled (side.Column column) can ps = column_spelled column ps
side_spelled (side.Literal value) can ps = literal_spelled value can ps

-- a comparison
comparison_spelled : (column : ColumnName) (op : Op) (side : Side) → condition.IsSide side → (ps : List Piece)
    → SpellsComparison (test.Compare column op side) (toks (print_test (test.Compare column op side) ps)) (toks ps)
comparison_spelled column op side can ps =
    let first = column_spelled column (Fixed (op_key op) ∷ print_side side ps) in
    (column, op, side, toks (print_side side ps), refl, first, side_spelled side can ps)

-- ---- conditions

-- the test can be spelled at such a depth, with parentheses round a list
abbrev CanClosed : ℕ → Test → Type 0
CanClosed most whole = IsClosedWithin most whole × Compares whole

-- and without
abbrev CanOpen : ℕ → Test → Type 0
CanOpen most whole = IsWithin false most whole × Compares whole

-- as a member of a list that is joined by AND, or else by OR
abbrev CanJoin : Bool → ℕ → Test → Type 0
CanJoin by_and most whole = IsMemberWithin by_and most whole × Compares whole

-- what holds of each, of both kinds
each_both : {A : Type 0} (P Q : A → Type 0) (xs : List A) → Each P xs → Each Q xs → Each (λ x. P x × Q x) xs
each_both P Q [] first second = tt
each_both P Q (x ∷ xs) first second = ((first.0, second.0), each_both P Q xs first.1 second.1)

-- the tests of an AND are its members
all_join : (most : ℕ) (tests : List Test) → CanOpen most (test.All tests) → Each (CanJoin true most) tests
all_join most tests (within, compares) =
    each_both _ _ tests (all_members most tests within.normal within.shallow) (subst (λ T. T) (compares_of_all tests) compares)

-- and those of an OR
any_join : (most : ℕ) (tests : List Test) → CanOpen most (test.Any tests) → Each (CanJoin false most) tests
any_join most tests (within, compares) =
    each_both _ _ tests (any_members most tests within.normal within.shallow) (subst (λ T. T) (compares_of_any tests) compares)

-- each is of another kind than the list
others : (by_and : Bool) (most : ℕ) (tests : List Test) → Each (CanJoin by_and most) tests
    → Each (λ one. is_joined by_and one ≡ false) tests
others by_and most [] each = tt
others by_and most (one ∷ tests) each = let member = each.0.0 in (member.other, others by_and most tests each.1)

-- a test with parentheses round a list
abbrev print_closed : Printer Test
print_closed whole ps = closed_in (is_list whole) (print_test whole) ps

-- such tests are atoms of this depth
abbrev AtomsSpelled : ℕ → Type 0
AtomsSpelled most = Spelled (SpellsAtom most) print_closed (CanClosed most)

-- a member of an AND
member_spelled : (most : ℕ) → AtomsSpelled most → Spelled (SpellsAtom most) (print_member true) (CanJoin true most)
member_spelled most atom one (member, compares) ps =
    let shallow = subst (λ b. closed_depth (b || is_any one) (depth one) ≤ most) (sym member.other) member.shallow in
    subst (λ b. SpellsAtom most one (toks (closed_in (b || is_any one) (print_test one) ps)) (toks ps)) member.other
    (atom one (record { normal = member.normal; shallow = shallow }, compares) ps)

-- what is no list
alone_spelled : (most : ℕ) → AtomsSpelled most
    → Spelled (SpellsConjunction (SpellsAtom most)) print_test (λ whole. CanOpen most whole × (is_list whole ≡ false))
alone_spelled most atom whole ((within, compares), single) ps =
    let shallow = subst (λ b. closed_depth b (depth whole) ≤ most) (sym single) within.shallow in
    let one = atom whole (record { normal = within.normal; shallow = shallow }, compares) ps in
    (whole ∷ [], refl, (toks ps, subst (λ b. SpellsAtom most whole (toks (closed_in b (print_test whole) ps)) (toks ps)) single one, refl))

-- what is no OR, as a conjunction of atoms
abbrev Conjoined : ℕ → Test → Type 0
Conjoined most whole = is_any whole ≡ false → CanOpen most whole → (ps : List Piece)
    → SpellsConjunction (SpellsAtom most) whole (toks (print_test whole ps)) (toks ps)

-- an AND
all_spelled : (most : ℕ) → AtomsSpelled most → (tests : List Test) → Conjoined most (test.All tests)
all_spelled most atom tests single can ps =
    let two = (both _ _ (sym (normal_of_all tests) ∙ can.0.normal)).0 in
    let some = leb-true 2 (length tests) two in
    let each = all_join most tests can in
    let member = member_spelled most atom in
    let listed = listed_spelled k.And (SpellsAtom most) (print_member true) (CanJoin true most) member tests each (omega arith) ps in (
      tests,
      all_of_members tests two (others true most tests each),
      subst (λ qs. IsListed k.And (SpellsAtom most) tests (toks qs) (toks ps)) (sym (print_of_all tests ps)) listed,
    )

-- what is no OR
conjunction_spelled : (most : ℕ) → AtomsSpelled most → (whole : Test) → Conjoined most whole
conjunction_spelled most atom = by_form (Conjoined most)
    (λ tests. all_spelled most atom tests)
    (λ tests single can ps. let yes = is_any_of_any tests in absurd cc)
    (λ inner single can ps. alone_spelled most atom (test.Not inner) (can, not_single inner) ps)
    (λ column op side single can ps. alone_spelled most atom (test.Compare column op side) (can, refl) ps)

-- a test as a disjunction of such conjunctions
abbrev Disjoined : ℕ → Test → Type 0
Disjoined most whole = CanOpen most whole → (ps : List Piece) → SpellsDisjunction (SpellsAtom most) whole (toks (print_test whole ps)) (toks ps)

-- what is no OR, alone in a disjunction
one_spelled : (most : ℕ) → AtomsSpelled most → (whole : Test) → is_any whole ≡ false → Disjoined most whole
one_spelled most atom whole single can ps = (whole ∷ [], refl, (toks ps, conjunction_spelled most atom whole single can ps, refl))

-- a member of an OR
part_spelled : (most : ℕ) → AtomsSpelled most → Spelled (SpellsConjunction (SpellsAtom most)) (print_member false) (CanJoin false most)
part_spelled most atom one (member, compares) ps =
    conjunction_spelled most atom one member.other (record { normal = member.normal; shallow = member.shallow }, compares) ps

-- an OR
any_spelled : (most : ℕ) → AtomsSpelled most → (tests : List Test) → Disjoined most (test.Any tests)
any_spelled most atom tests can ps =
    let two = (both _ _ (sym (normal_of_any tests) ∙ can.0.normal)).0 in
    let some = leb-true 2 (length tests) two in
    let each = any_join most tests can in
    let Inner : Rule Test = SpellsConjunction (SpellsAtom most) in
    let part = part_spelled most atom in
    let listed = listed_spelled k.Or Inner (print_member false) (CanJoin false most) part tests each (omega arith) ps in (
      tests,
      any_of_members tests two (others false most tests each),
      subst (λ qs. IsListed k.Or Inner tests (toks qs) (toks ps)) (sym (print_of_any tests ps)) listed,
    )

-- a test without parentheses
disjunction_spelled : (most : ℕ) → AtomsSpelled most → (whole : Test) → Disjoined most whole
disjunction_spelled most atom = by_form (Disjoined most)
    (λ tests can ps. one_spelled most atom (test.All tests) (is_any_of_all tests) can ps)
    (λ tests can ps. any_spelled most atom tests can ps)
    (λ inner can ps. one_spelled most atom (test.Not inner) (is_any_of_not inner) can ps)
    (λ column op side can ps. one_spelled most atom (test.Compare column op side) refl can ps)

-- an atom of this depth
abbrev Atomic : ℕ → Test → Type 0
Atomic most whole = CanClosed most whole → (ps : List Piece) → SpellsAtom most whole (toks (print_closed whole ps)) (toks ps)

-- a list in parentheses
closed_spelled : (most : ℕ) → AtomsSpelled most → (whole : Test) → is_list whole ≡ true → Atomic (suc most) whole
closed_spelled most atom whole list (within, compares) ps =
    let lower : depth whole + 1 ≤ suc most = subst (λ b. closed_depth b (depth whole) ≤ suc most) list within.shallow in
    let can : IsWithin false most whole = record { normal = within.normal; shallow = omega arith } in
    let inside = disjunction_spelled most atom whole (can, compares) (Fixed k.Close ∷ ps) in
    subst (λ b. SpellsAtom (suc most) whole (toks (closed_in b (print_test whole) ps)) (toks ps)) (sym list) (inr (inr (_, refl, inside)))

-- and not where none may be opened
none_open : (whole : Test) → is_list whole ≡ true → Atomic zero whole
none_open whole list (within, compares) ps =
    let lower : depth whole + 1 ≤ zero = subst (λ b. closed_depth b (depth whole) ≤ zero) list within.shallow in absurd (omega arith)

-- how deep the test is that a NOT takes
under_not : (most : ℕ) (inner : Test) → IsClosedWithin most (test.Not inner) → closed_depth (is_list inner) (depth inner) + 1 ≤ most
under_not most inner within =
    let shallow = subst (λ b. closed_depth b (depth (test.Not inner)) ≤ most) (not_single inner) within.shallow in
    subst (λ n. n ≤ most) (depth_of_not inner) shallow

-- the pieces of a NOT
not_pieces : (inner : Test) (ps : List Piece) → print_closed (test.Not inner) ps ≡ Fixed k.Not ∷ print_closed inner ps
not_pieces inner ps =
    subst (λ b. closed_in b (print_test (test.Not inner)) ps ≡ Fixed k.Not ∷ print_closed inner ps) (sym (not_single inner))
    (print_of_not inner ps)

-- a NOT of an atom
negated_spelled : (most : ℕ) → AtomsSpelled most → (inner : Test) → Atomic (suc most) (test.Not inner)
negated_spelled most atom inner (within, compares) ps =
    let lower = under_not (suc most) inner within in
    let can : IsClosedWithin most inner = record { normal = sym (normal_of_not inner) ∙ within.normal; shallow = omega arith } in
    inr (inl (inner, _, refl, ap toks (not_pieces inner ps), atom inner (can, subst (λ T. T) (compares_of_not inner) compares) ps))

-- an AND is a list
all_list : (tests : List Test) → is_list (test.All tests) ≡ true
all_list tests = λ i. is_all_of_all tests i || is_any_of_all tests i

-- and so is an OR
any_list : (tests : List Test) → is_list (test.Any tests) ≡ true
any_list tests = λ i. is_all_of_any tests i || is_any_of_any tests i

-- a test with parentheses round a list
atom_spelled : (most : ℕ) → AtomsSpelled most
atom_spelled zero = by_form (Atomic zero)
    (λ tests. none_open (test.All tests) (all_list tests))
    (λ tests. none_open (test.Any tests) (any_list tests))
    (λ inner can ps. let lower = under_not zero inner can.0 in absurd (omega arith))
    (λ column op side can ps. comparison_spelled column op side can.1.1 ps)
atom_spelled (suc most) = by_form (Atomic (suc most))
    (λ tests. closed_spelled most (atom_spelled most) (test.All tests) (all_list tests))
    (λ tests. closed_spelled most (atom_spelled most) (test.Any tests) (any_list tests))
    (λ inner. negated_spelled most (atom_spelled most) inner)
    (λ column op side can ps. inl (comparison_spelled column op side can.1.1 ps))

-- a condition
condition_spelled : Spelled SpellsCondition print_test IsTest
condition_spelled whole can ps =
    disjunction_spelled 64 (atom_spelled 64) whole (record { normal = can.normal; shallow = can.shallow }, can.compares) ps

-- a WHERE, where there is one
where_spelled : Spelled SpellsWhere print_where (λ condition. IfSome condition IsTest)
where_spelled None can ps = refl
where_spelled (Some whole) can ps = (_, refl, condition_spelled whole can ps)

-- ---- selects and queries

-- an expression
expression_spelled : (expression : Expression) (ps : List Piece) → SpellsExpression expression (toks (print_expression expression ps)) (toks ps)
expression_spelled (expression.Column column) ps = column_spelled column ps
expression_spelled expression.Count ps = refl
expression_spelled (expression.Sum column) ps = (_, refl, column_spelled column (Fixed k.Close ∷ ps))
expression_spelled (expression.Min column) ps = (_, refl, column_spelled column (Fixed k.Close ∷ ps))
expression_spelled (expression.Max column) ps = (_, refl, column_spelled column (Fixed k.Close ∷ ps))

-- an item
item_spelled : (item : SelectItem) (ps : List Piece) → SpellsItem item (toks (print_item item ps)) (toks ps)
item_spelled item ps =
    (toks (print_alias item.alias ps), expression_spelled item.expression (print_alias item.alias ps), alias_spelled item.alias ps)

-- a star or items
items_spelled : Spelled SpellsItems print_items (λ items. IfSome items query.AreItems)
items_spelled None can ps = refl
items_spelled (Some items) can ps =
    listed_spelled k.Comma SpellsItem print_item item.IsItem (λ one is qs. item_spelled one qs) items can.each can.some ps

-- a reference
reference_spelled : (reference : Reference) (ps : List Piece) → SpellsReference reference (toks (print_reference reference ps)) (toks ps)
reference_spelled reference ps = (_, refl, alias_spelled reference.alias ps)

-- a pair of columns
pair_spelled : (pair : ColumnPair) (ps : List Piece) → SpellsPair pair (toks (print_pair pair ps)) (toks ps)
pair_spelled pair ps =
    (toks (print_column pair.right ps), column_spelled pair.left (Fixed k.Equal ∷ print_column pair.right ps), column_spelled pair.right ps)

-- a join
join_spelled : Spelled SpellsJoin print_join reference.IsJoin
join_spelled join can ps = (
  toks (print_listed (Fixed k.And) print_pair join.pairs ps),
  reference_spelled join.reference (Fixed k.On ∷ print_listed (Fixed k.And) print_pair join.pairs ps),
  listed_spelled k.And SpellsPair print_pair reference.IsColumnPair (λ one is qs. pair_spelled one qs) join.pairs can.pairs can.some ps,
)

-- a GROUP BY, where there is one
group_spelled : Spelled SpellsGroup print_group (Each reference.IsColumnName)
group_spelled [] can ps = refl
group_spelled (column ∷ columns) can ps =
    let named : Spelled SpellsColumn print_column reference.IsColumnName = λ one is qs. column_spelled one qs in
    (_, refl, listed_spelled k.Comma SpellsColumn print_column reference.IsColumnName named (column ∷ columns) can (omega arith) ps)

-- a DISTINCT, where there is one
distinct_spelled : (distinct : Bool) (ps : List Piece) → SpellsDistinct distinct (toks (print_distinct distinct ps)) (toks ps)
distinct_spelled false ps = refl
distinct_spelled true ps = refl

-- what stands behind the items
source_spelled : Spelled SpellsSource print_source query.IsSelect
source_spelled select can ps =
    let grouped = print_group select.group ps in
    let kept = print_where select.test grouped in
    let joined = print_more (Fixed k.Join) print_join select.joins kept in (
      _,
      toks joined,
      toks kept,
      toks grouped,
      refl,
      reference_spelled select.first joined,
      more_spelled k.Join SpellsJoin print_join reference.IsJoin join_spelled select.joins can.joins kept,
      where_spelled select.test can.test grouped,
      group_spelled select.group can.group ps,
    )

-- a select
select_spelled : Spelled SpellsSelect print_select query.IsSelect
select_spelled select can ps = (
  _,
  toks (print_items select.items (print_source select ps)),
  toks (print_source select ps),
  refl,
  distinct_spelled select.distinct (print_items select.items (print_source select ps)),
  items_spelled select.items can.items (print_source select ps),
  source_spelled select can ps,
)

-- a select behind UNION ALL
other_spelled : Spelled SpellsOther print_other_select query.IsSelect
other_spelled select can ps = (_, refl, select_spelled select can ps)

-- a query
query_spelled : Spelled SpellsQuery print_query query.IsQuery
query_spelled [] can ps = let some = can.some in absurd (omega arith)
query_spelled (first ∷ others) can ps =
    let each = can.each in (
      toks (print_more (Fixed k.Union) print_other_select others ps),
      select_spelled first each.0 (print_more (Fixed k.Union) print_other_select others ps),
      more_spelled k.Union SpellsOther print_other_select query.IsSelect other_spelled others each.1 ps,
    )

-- ---- statements

-- an AS OF, where there is one
as_of_spelled : Spelled SpellsAsOf print_as_of (λ as_of. IfSome as_of statement.IsTime)
as_of_spelled None can ps = refl
as_of_spelled (Some n) can ps = (_, refl, (can, refl))

-- a type
type_spelled : (type : ColumnType) → type ≢ kind.Wide → (ps : List Piece) → SpellsType type (toks (piece.Word (type_word type) ∷ ps)) (toks ps)
type_spelled kind.Int can ps = refl
type_spelled kind.Text can ps = refl
type_spelled kind.Bool can ps = refl
type_spelled kind.Wide can ps = absurd (can refl)

-- a column of a table
definition_spelled : Spelled SpellsDefinition print_definition statement.IsColumn
definition_spelled column can ps = (_, refl, type_spelled column.kind can.kind ps)

-- a row
tuple_spelled : Spelled SpellsTuple print_tuple value.IsTuple
tuple_spelled values can ps =
    let close = Fixed k.Close ∷ ps in
    (_, refl, listed_spelled k.Comma SpellsLiteral print_literal value.IsLiteral literal_spelled values can.literals can.some close)

-- a policy
keep_spelled : Spelled SpellsKeep print_keep statement.IsKeep
keep_spelled (Lag n) can ps = (can.low, can.high, refl)
keep_spelled (From n) can ps = (_, refl, (can, refl))
keep_spelled Stay can ps = refl

-- a statement
statement_spelled : Spelled SpellsStatement print_statement statement.IsStatement
statement_spelled (Query query as_of) can ps =
    (toks (print_as_of as_of ps), query_spelled query can.0 (print_as_of as_of ps), as_of_spelled as_of can.1 ps)
statement_spelled (CreateTable name columns) can ps =
    let are = can.1 in
    let close = Fixed k.Close ∷ ps in
    (_, refl, listed_spelled k.Comma SpellsDefinition print_definition statement.IsColumn definition_spelled columns are.each are.some close)
statement_spelled (CreateView name query) can ps = (_, refl, query_spelled query can.1 ps)
statement_spelled (CreateIndex name on) can ps = refl
statement_spelled (DropTable name) can ps = refl
statement_spelled (DropView name) can ps = refl
statement_spelled (DropIndex name) can ps = refl
statement_spelled (Insert name rows) can ps =
    (_, refl, listed_spelled k.Comma SpellsTuple print_tuple value.IsTuple tuple_spelled rows can.1.each can.1.some ps)
statement_spelled (Delete name test) can ps = (_, refl, where_spelled test can.1 ps)
statement_spelled Start can ps = refl
statement_spelled Commit can ps = refl
statement_spelled ShowFrontiers can ps = refl
statement_spelled (Retain name keep) can ps = (_, refl, keep_spelled keep can.1 ps)
statement_spelled (SetIsolation strict) can ps = absurd can
statement_spelled (SetCluster name) can ps = absurd can

-- what is printed of a statement that the grammar can spell is a spelling of it
pub spelled : (one : Statement) → statement.IsStatement one → Spells (map stands_for (print_statement one [])) one
spelled one can = inl (statement_spelled one can [])
