-- What the grammar spells is a statement of its type: each rule gives what the type asks of its value.
use Rattle.std.proofs.Common.{◌≡◌, ◌≢◌, ℕ, zero, suc, ◌+◌, ◌≤◌, ◌<◌, Bool, true, false, List, [], ◌∷◌, length, Option, Some, None, IfSome, pos, neg_ℤ, inl, inr, refl, sym, subst, arith}
use Rattle.std.specs.List.{AllByRecursion as Each, flat_map}
use Rattle.mz_value.specs.declared.datum.Datum.TheVariants as datum
use Rattle.mz_statement.specs.declared.column.ColumnType.TheVariants as kind
use Rattle.mz_statement.specs.declared.condition.Side.TheVariants as side
use Rattle.mz_statement.specs.declared.condition.Test.{Test}
use Rattle.mz_statement.specs.declared.condition.Test.TheVariants as test
use Rattle.mz_statement.specs.declared.item.Expression.TheVariants as expression
use Rattle.mz_statement.specs.declared.statement.Keep.TheVariants.{Lag, From, Stay}
use Rattle.mz_statement.specs.declared.statement.Statement.{Statement}
use Rattle.mz_statement.specs.declared.statement.Statement.TheVariants.{Query, CreateTable, CreateView, CreateIndex, DropTable, DropView, DropIndex, Insert, Delete, Start, Commit, ShowFrontiers, Retain, SetIsolation, SetCluster}
use Rattle.mz_statement.specs.Item as item
use Rattle.mz_statement.specs.Query as query
use Rattle.mz_statement.specs.Reference as reference
use Rattle.mz_statement.specs.Statement as statement
use Rattle.mz_statement.specs.Test as condition
use Rattle.mz_statement.specs.Test.{is_all, is_any, Compares, IsTest, greatest_depth}
use Rattle.mz_statement.specs.Value as value
use Rattle.mz_statement.specs.Value.{greatest_int}
use Rattle.mz_statement.specs.Word as word
use Rattle.mz_statement.specs.Word.{IsMaybeName}
use Rattle.mz_statement.proofs.TestRules.{is_all_of_any, is_all_of_not, is_any_of_all, is_any_of_not, compares_of_all, compares_of_any, compares_of_not}
use Rattle.mz_grammar.specs.declared.key.Key.{Key}
use Rattle.mz_grammar.specs.declared.key.Key.TheVariants as k
use Rattle.mz_grammar.specs.declared.token.Tok.{Tok}
use Rattle.mz_grammar.specs.declared.token.Tok.TheVariants.{Key as K}
use Rattle.mz_grammar.specs.Joined.{conjuncts, disjuncts, all_of, any_of}
use Rattle.mz_grammar.specs.Grammar.{Rule, IsMore, IsListed, SpellsAlias, SpellsQualified, SpellsColumn, SpellsWhole, SpellsLiteral, SpellsSide, op_key, SpellsComparison, SpellsConjunction, SpellsDisjunction, SpellsAtom, SpellsCondition, SpellsWhere, SpellsExpression, SpellsCall, SpellsItem, SpellsItems, SpellsReference, SpellsPair, SpellsJoin, SpellsGroup, SpellsDistinct, SpellsSelect, SpellsOther, SpellsQuery, SpellsAsOf, SpellsType, SpellsDefinition, SpellsTuple, SpellsKeep, SpellsStatement, Spells, IsSpelling}
use Rattle.mz_grammar.proofs.Forms.{by_form, conjuncts_of_all, conjuncts_alone, disjuncts_of_any, disjuncts_alone}
use Rattle.mz_grammar.proofs.Shape.{each_append, condition_within}
use Rattle.mz_grammar.proofs.TokenFacts.{AreToks, cut_fits}

-- what the rule spells is so, and what stands behind it are tokens again
abbrev Fits : {A : Type 0} → Rule A → (A → Type 0) → Type 0
Fits Is Can = (x : _) (ts rest : List Tok) → Is x ts rest → AreToks ts → Can x × AreToks rest

-- tokens that are equal to others
are : {ts us : List Tok} → ts ≡ us → AreToks ts → AreToks us
are e toks = subst AreToks e toks

-- ---- lists

-- others, each behind the key
more_fits : {A : Type 0} (key : Key) (Is : Rule A) (Can : A → Type 0) → Fits Is Can → Fits (IsMore key Is) (Each Can)
more_fits key Is Can one [] ts rest e toks = (tt, are e toks)
more_fits key Is Can one (x ∷ xs) ts rest (us, vs, e, spelled, others) toks =
    let first = one x us vs spelled (are e toks).1 in
    let behind = more_fits key Is Can one xs vs rest others first.1 in
    ((first.0, behind.0), behind.1)

-- one or more with the key between
listed_fits : {A : Type 0} (key : Key) (Is : Rule A) (Can : A → Type 0) → Fits Is Can
    → Fits (IsListed key Is) (λ xs. Each Can xs × (0 < length xs))
listed_fits key Is Can one [] ts rest never toks = absurd never
listed_fits key Is Can one (x ∷ xs) ts rest (us, spelled, others) toks =
    let first = one x ts us spelled toks in
    let behind = more_fits key Is Can one xs us rest others first.1 in
    (((first.0, behind.0), omega arith), behind.1)

-- ---- names and columns

-- an alias
alias_fits : Fits SpellsAlias IsMaybeName
alias_fits None ts rest e toks = (tt, are e toks)
alias_fits (Some name) ts rest e toks = let behind = are e toks in (behind.1.0, behind.1.1)

-- a name with a qualifier or without
qualified_fits : (qualifier : Option (List ℕ)) (name : List ℕ) (ts rest : List Tok) → SpellsQualified qualifier name ts rest → AreToks ts
    → IsMaybeName qualifier × word.IsName name × AreToks rest
qualified_fits None name ts rest e toks = let behind = are e toks in (tt, behind.0, behind.1)
qualified_fits (Some qualifier) name ts rest e toks = let behind = are e toks in (behind.0, behind.1.1.0, behind.1.1.1)

-- a column
column_fits : Fits SpellsColumn reference.IsColumnName
column_fits column ts rest spelled toks =
    let parts = qualified_fits column.qualifier column.name ts rest spelled toks in
    (record { qualifier = parts.0; name = parts.1 }, parts.2)

-- ---- literals and comparisons

-- a number that is negated
negated_fits : (n : ℕ) → n ≤ greatest_int + 1 → value.IsInt (neg_ℤ (pos n))
negated_fits zero low = omega arith
negated_fits (suc n) low = omega arith

-- a whole number
whole_fits : Fits SpellsWhole value.IsInt
whole_fits z ts rest (n, inl (low, is, e)) toks = (subst value.IsInt (sym is) low, (are e toks).1)
whole_fits z ts rest (n, inr (low, is, e)) toks = (subst value.IsInt (sym is) (negated_fits n low), (are e toks).1.1)

-- a literal
literal_fits : Fits SpellsLiteral value.IsLiteral
literal_fits (datum.Int z) ts rest spelled toks = whole_fits z ts rest spelled toks
literal_fits (datum.Text text) ts rest (short, e) toks = let behind = are e toks in (record { short = short; line = behind.0 }, behind.1)
literal_fits (datum.Bool true) ts rest e toks = (tt, (are e toks).1)
literal_fits (datum.Bool false) ts rest e toks = (tt, (are e toks).1)
literal_fits (datum.Wide z) ts rest never toks = absurd never

-- the right side of a comparison
side_fits : Fits SpellsSide condition.IsSide
side_fits (side.Column column) ts rest spelled toks = column_fits column ts rest spelled toks
side_fits (side.Literal value) ts rest spelled toks = literal_fits value ts rest spelled toks

-- a comparison
comparison_fits : Fits SpellsComparison Compares
comparison_fits x ts rest (column, op, side, us, is, left, right) toks =
    let first = column_fits column ts (K (op_key op) ∷ us) left toks in
    let second = side_fits side us rest right first.1.1 in
    (subst Compares (sym is) (first.0, second.0), second.1)

-- ---- conditions

-- what holds of the members of each holds of all
each_member : {A B : Type 0} (f : A → List B) (P : A → Type 0) (Q : B → Type 0) → ((x : A) → P x → Each Q (f x)) → (xs : List A)
    → Each P xs → Each Q (flat_map f xs)
each_member f P Q one [] each = tt
each_member f P Q one (x ∷ xs) each = each_append Q (f x) (flat_map f xs) (one x each.0) (each_member f P Q one xs each.1)

-- a test that is alone
alone_compares : (f : Test → List Test) (whole : Test) → f whole ≡ whole ∷ [] → Compares whole → Each Compares (f whole)
alone_compares f whole alone can = subst (Each Compares) (sym alone) (can, tt)

-- the members that a test gives to an AND
conjuncts_compare : (whole : Test) → Compares whole → Each Compares (conjuncts whole)
conjuncts_compare = by_form (λ whole. Compares whole → Each Compares (conjuncts whole))
    (λ tests can. subst (Each Compares) (sym (conjuncts_of_all tests)) (subst (λ T. T) (compares_of_all tests) can))
    (λ tests can. alone_compares conjuncts (test.Any tests) (conjuncts_alone (test.Any tests) (is_all_of_any tests)) can)
    (λ inner can. alone_compares conjuncts (test.Not inner) (conjuncts_alone (test.Not inner) (is_all_of_not inner)) can)
    (λ column op side can. alone_compares conjuncts (test.Compare column op side) (conjuncts_alone (test.Compare column op side) refl) can)

-- tests that are joined by AND
all_compare : (first : Test) (others : List Test) → Each Compares (first ∷ others) → Compares (all_of (first ∷ others))
all_compare first [] each = each.0
all_compare first (second ∷ others) each =
    let whole = first ∷ second ∷ others in
    subst (λ T. T) (sym (compares_of_all (flat_map conjuncts whole))) (each_member conjuncts Compares Compares conjuncts_compare whole each)

-- the members that a test gives to an OR
disjuncts_compare : (whole : Test) → Compares whole → Each Compares (disjuncts whole)
disjuncts_compare = by_form (λ whole. Compares whole → Each Compares (disjuncts whole))
    (λ tests can. alone_compares disjuncts (test.All tests) (disjuncts_alone (test.All tests) (is_any_of_all tests)) can)
    (λ tests can. subst (Each Compares) (sym (disjuncts_of_any tests)) (subst (λ T. T) (compares_of_any tests) can))
    (λ inner can. alone_compares disjuncts (test.Not inner) (disjuncts_alone (test.Not inner) (is_any_of_not inner)) can)
    (λ column op side can. alone_compares disjuncts (test.Compare column op side) (disjuncts_alone (test.Compare column op side) refl) can)

-- tests that are joined by OR
any_compare : (first : Test) (others : List Test) → Each Compares (first ∷ others) → Compares (any_of (first ∷ others))
any_compare first [] each = each.0
any_compare first (second ∷ others) each =
    let whole = first ∷ second ∷ others in
    subst (λ T. T) (sym (compares_of_any (flat_map disjuncts whole))) (each_member disjuncts Compares Compares disjuncts_compare whole each)

-- atoms joined by AND
conjunction_fits : (Is : Rule Test) → Fits Is Compares → Fits (SpellsConjunction Is) Compares
conjunction_fits Is one x ts rest ([], is, listed) toks = absurd listed
conjunction_fits Is one x ts rest (y ∷ ys, is, listed) toks =
    let tests = listed_fits k.And Is Compares one (y ∷ ys) ts rest listed toks in
    (subst Compares (sym is) (all_compare y ys tests.0.0), tests.1)

-- and these joined by OR
disjunction_fits : (Is : Rule Test) → Fits Is Compares → Fits (SpellsDisjunction Is) Compares
disjunction_fits Is one x ts rest ([], is, listed) toks = absurd listed
disjunction_fits Is one x ts rest (y ∷ ys, is, listed) toks =
    let tests = listed_fits k.Or (SpellsConjunction Is) Compares (conjunction_fits Is one) (y ∷ ys) ts rest listed toks in
    (subst Compares (sym is) (any_compare y ys tests.0.0), tests.1)

-- with so many NOTs and parentheses that may still be opened
atom_fits : (depth : ℕ) → Fits (SpellsAtom depth) Compares
atom_fits zero x ts rest spelled toks = comparison_fits x ts rest spelled toks
atom_fits (suc depth) x ts rest (inl spelled) toks = comparison_fits x ts rest spelled toks
atom_fits (suc depth) x ts rest (inr (inl (inner, us, is, e, spelled))) toks =
    let found = atom_fits depth inner us rest spelled (are e toks).1 in
    (subst Compares (sym is) (subst (λ T. T) (sym (compares_of_not inner)) found.0), found.1)
atom_fits (suc depth) x ts rest (inr (inr (us, e, spelled))) toks =
    let found = disjunction_fits (SpellsAtom depth) (atom_fits depth) x us (K k.Close ∷ rest) spelled (are e toks).1 in
    (found.0, found.1.1)

-- a condition
condition_fits : Fits SpellsCondition IsTest
condition_fits x ts rest spelled toks =
    let within = condition_within x ts rest spelled in
    let found = disjunction_fits (SpellsAtom greatest_depth) (atom_fits greatest_depth) x ts rest spelled toks in
    (record { normal = within.normal; compares = found.0; shallow = within.shallow }, found.1)

-- a WHERE, where there is one
where_fits : Fits SpellsWhere (λ test. IfSome test IsTest)
where_fits None ts rest e toks = (tt, are e toks)
where_fits (Some x) ts rest (us, e, spelled) toks = condition_fits x us rest spelled (are e toks).1

-- ---- selects and queries

-- an aggregate of a column
call_fits : (call : List ℕ) → Fits (SpellsCall call) reference.IsColumnName
call_fits call column ts rest (us, e, spelled) toks =
    let found = column_fits column us (K k.Close ∷ rest) spelled (are e toks).1.1 in
    (found.0, found.1.1)

-- an expression
expression_fits : Fits SpellsExpression item.IsExpression
expression_fits (expression.Column column) ts rest spelled toks = column_fits column ts rest spelled toks
expression_fits expression.Count ts rest e toks = (tt, (are e toks).1.1.1.1)
expression_fits (expression.Sum column) ts rest spelled toks = call_fits _ column ts rest spelled toks
expression_fits (expression.Min column) ts rest spelled toks = call_fits _ column ts rest spelled toks
expression_fits (expression.Max column) ts rest spelled toks = call_fits _ column ts rest spelled toks

-- an item
item_fits : Fits SpellsItem item.IsItem
item_fits item ts rest (us, spelled, alias) toks =
    let first = expression_fits item.expression ts us spelled toks in
    let second = alias_fits item.alias us rest alias first.1 in
    (record { expression = first.0; alias = second.0 }, second.1)

-- a star or items
items_fit : Fits SpellsItems (λ items. IfSome items query.AreItems)
items_fit None ts rest e toks = (tt, (are e toks).1)
items_fit (Some items) ts rest listed toks =
    let found = listed_fits k.Comma SpellsItem item.IsItem item_fits items ts rest listed toks in
    (record { each = found.0.0; some = found.0.1 }, found.1)

-- a reference
reference_fits : Fits SpellsReference reference.IsReference
reference_fits reference ts rest (us, e, alias) toks =
    let first = are e toks in
    let second = alias_fits reference.alias us rest alias first.1 in
    (record { name = first.0; alias = second.0 }, second.1)

-- a pair of columns
pair_fits : Fits SpellsPair reference.IsColumnPair
pair_fits pair ts rest (us, left, right) toks =
    let first = column_fits pair.left ts (K k.Equal ∷ us) left toks in
    let second = column_fits pair.right us rest right first.1.1 in
    (record { left = first.0; right = second.0 }, second.1)

-- a join
join_fits : Fits SpellsJoin reference.IsJoin
join_fits join ts rest (us, spelled, listed) toks =
    let first = reference_fits join.reference ts (K k.On ∷ us) spelled toks in
    let second = listed_fits k.And SpellsPair reference.IsColumnPair pair_fits join.pairs us rest listed first.1.1 in
    (record { reference = first.0; pairs = second.0.0; some = second.0.1 }, second.1)

-- a GROUP BY, where there is one
group_fits : Fits SpellsGroup (Each reference.IsColumnName)
group_fits [] ts rest e toks = (tt, are e toks)
group_fits (column ∷ columns) ts rest (us, e, listed) toks =
    let found = listed_fits k.Comma SpellsColumn reference.IsColumnName column_fits (column ∷ columns) us rest listed (are e toks).1.1 in
    (found.0.0, found.1)

-- a DISTINCT, where there is one
distinct_fits : (distinct : Bool) (ts rest : List Tok) → SpellsDistinct distinct ts rest → AreToks ts → AreToks rest
distinct_fits false ts rest e toks = are e toks
distinct_fits true ts rest e toks = (are e toks).1

-- a select
select_fits : Fits SpellsSelect query.IsSelect
select_fits select ts rest (a, b, c, e, distinct, items, (f, g, h, i, is, first, joins, test, group)) toks =
    let chosen = items_fit select.items b c items (distinct_fits select.distinct a b distinct (are e toks).1) in
    let one = reference_fits select.first f g first (are is chosen.1).1 in
    let others = more_fits k.Join SpellsJoin reference.IsJoin join_fits select.joins g h joins one.1 in
    let kept = where_fits select.test h i test others.1 in
    let grouped = group_fits select.group i rest group kept.1 in
    (record { items = chosen.0; first = one.0; joins = others.0; test = kept.0; group = grouped.0 }, grouped.1)

-- a select behind UNION ALL
other_fits : Fits SpellsOther query.IsSelect
other_fits select ts rest (us, e, spelled) toks = select_fits select us rest spelled (are e toks).1

-- a query
query_fits : Fits SpellsQuery query.IsQuery
query_fits [] ts rest never toks = absurd never
query_fits (first ∷ others) ts rest (us, spelled, more) toks =
    let one = select_fits first ts us spelled toks in
    let behind = more_fits k.Union SpellsOther query.IsSelect other_fits others us rest more one.1 in
    (record { each = (one.0, behind.0); some = omega arith }, behind.1)

-- ---- statements

-- an AS OF, where there is one
as_of_fits : Fits SpellsAsOf (λ as_of. IfSome as_of statement.IsTime)
as_of_fits None ts rest e toks = (tt, are e toks)
as_of_fits (Some n) ts rest (us, e, (low, is)) toks = (low, (are is (are e toks).1.1).1)

-- a type
type_fits : Fits SpellsType (λ one. one ≢ kind.Wide)
type_fits kind.Int ts rest e toks = (λ same. absurd cc, (are e toks).1)
type_fits kind.Text ts rest e toks = (λ same. absurd cc, (are e toks).1)
type_fits kind.Bool ts rest e toks = (λ same. absurd cc, (are e toks).1)
type_fits kind.Wide ts rest never toks = absurd never

-- a column of a table
definition_fits : Fits SpellsDefinition statement.IsColumn
definition_fits column ts rest (us, e, spelled) toks =
    let first = are e toks in
    let second = type_fits column.kind us rest spelled first.1 in
    (record { name = first.0; kind = second.0 }, second.1)

-- a row
tuple_fits : Fits SpellsTuple value.IsTuple
tuple_fits values ts rest (us, e, listed) toks =
    let found = listed_fits k.Comma SpellsLiteral value.IsLiteral literal_fits values us (K k.Close ∷ rest) listed (are e toks).1 in
    (record { literals = found.0.0; some = found.0.1 }, found.1.1)

-- a policy
keep_fits : Fits SpellsKeep statement.IsKeep
keep_fits (Lag n) ts rest (low, high, e) toks = (record { low = low; high = high }, (are e toks).1.1)
keep_fits (From n) ts rest (us, e, (low, is)) toks = (low, (are is (are e toks).1).1)
keep_fits Stay ts rest e toks = (tt, (are e toks).1)

-- a statement
statement_fits : Fits SpellsStatement statement.IsStatement
statement_fits (Query query as_of) ts rest (us, spelled, time) toks =
    let first = query_fits query ts us spelled toks in
    let second = as_of_fits as_of us rest time first.1 in
    ((first.0, second.0), second.1)
statement_fits (CreateTable name columns) ts rest (us, e, listed) toks =
    let behind = (are e toks).1.1 in
    let found = listed_fits k.Comma SpellsDefinition statement.IsColumn definition_fits columns us (K k.Close ∷ rest) listed behind.1.1 in
    ((behind.0, record { each = found.0.0; some = found.0.1 }), found.1.1)
statement_fits (CreateView name query) ts rest (us, e, spelled) toks =
    let behind = (are e toks).1.1 in
    let found = query_fits query us rest spelled behind.1.1 in
    ((behind.0, found.0), found.1)
statement_fits (CreateIndex name relation) ts rest e toks = let behind = (are e toks).1.1 in ((behind.0, behind.1.1.0), behind.1.1.1)
statement_fits (DropTable name) ts rest e toks = (are e toks).1.1
statement_fits (DropView name) ts rest e toks = (are e toks).1.1
statement_fits (DropIndex name) ts rest e toks = (are e toks).1.1
statement_fits (Insert name rows) ts rest (us, e, listed) toks =
    let behind = (are e toks).1.1 in
    let found = listed_fits k.Comma SpellsTuple value.IsTuple tuple_fits rows us rest listed behind.1.1 in
    ((behind.0, record { each = found.0.0; some = found.0.1 }), found.1)
statement_fits (Delete name test) ts rest (us, e, spelled) toks =
    let behind = (are e toks).1.1 in
    let found = where_fits test us rest spelled behind.1 in
    ((behind.0, found.0), found.1)
statement_fits Start ts rest e toks = (tt, (are e toks).1)
statement_fits Commit ts rest e toks = (tt, (are e toks).1)
statement_fits ShowFrontiers ts rest e toks = (tt, (are e toks).1.1)
statement_fits (Retain name keep) ts rest (us, e, spelled) toks =
    let behind = (are e toks).1 in
    let found = keep_fits keep us rest spelled behind.1 in
    ((behind.0, found.0), found.1)
statement_fits (SetIsolation strict) ts rest e toks = elim e [ ]
statement_fits (SetCluster name) ts rest e toks = elim e [ ]

-- a statement that such tokens spell
pub spelled_fits : (one : Statement) (ts : List Tok) → Spells ts one → AreToks ts → statement.IsStatement one
spelled_fits one ts (inl spelled) toks = (statement_fits one ts [] spelled toks).0
spelled_fits one ts (inr spelled) toks = (statement_fits one ts (K k.Semicolon ∷ []) spelled toks).0

-- a statement that a text spells
pub text_fits : (text : List ℕ) (one : Statement) → IsSpelling text one → statement.IsStatement one
text_fits text one (tokens, cut, spelled) = spelled_fits one _ spelled (cut_fits text tokens cut)
