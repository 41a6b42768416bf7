-- What a rule spells is no longer behind it than before it, so lists have at most as many members as tokens.
use Rattle.std.proofs.Common.{ℕ, zero, suc, ◌≤◌, List, [], ◌∷◌, length, Option, Some, None, inl, inr, ap, arith, true, false}
use Rattle.mz_value.specs.declared.datum.Datum.TheVariants.{Int, Text, Bool as Truth, Wide}
use Rattle.mz_statement.specs.declared.column.ColumnType.TheVariants as kind
use Rattle.mz_statement.specs.declared.condition.Side.TheVariants as side
use Rattle.mz_statement.specs.declared.condition.Test.{Test}
use Rattle.mz_statement.specs.declared.item.Expression.TheVariants as expr
use Rattle.mz_grammar.specs.declared.key.Key.{Key}
use Rattle.mz_grammar.specs.declared.key.Key.TheVariants as k
use Rattle.mz_grammar.specs.declared.token.Tok.{Tok}
use Rattle.mz_grammar.specs.Grammar.{Rule, IsMore, IsListed, SpellsAlias, SpellsQualified, SpellsColumn, SpellsLiteral, SpellsSide, SpellsComparison, SpellsConjunction, SpellsDisjunction, SpellsAtom, SpellsWhere, SpellsExpression, SpellsItem, SpellsItems, SpellsReference, SpellsPair, SpellsJoin, SpellsGroup, SpellsDistinct, SpellsSource, SpellsSelect, SpellsOther, SpellsType, SpellsDefinition, SpellsTuple}
use Rattle.mz_statement.specs.Test.{greatest_depth}

-- there are at most as many tokens behind it as before it
abbrev pub Shrinks : {A : Type 0} → Rule A → Type 0
Shrinks Is = (x : _) (ts rest : List Tok) → Is x ts rest → length rest ≤ length ts

pub more_shrinks : {A : Type 0} (key : Key) (Is : Rule A) → Shrinks Is → Shrinks (IsMore key Is)
more_shrinks key Is one [] ts rest e = let long = ap length e in omega arith
more_shrinks key Is one (x ∷ xs) ts rest (us, vs, e, spelled, more) =
    let long = ap length e in
    let here = one x us vs spelled in
    let others = more_shrinks key Is one xs vs rest more in
    omega arith

-- each of the others has its key at least
pub more_count : {A : Type 0} (key : Key) (Is : Rule A) → Shrinks Is → (xs : List A) (ts rest : List Tok) → IsMore key Is xs ts rest → length xs ≤ length ts
more_count key Is one [] ts rest e = omega arith
more_count key Is one (x ∷ xs) ts rest (us, vs, e, spelled, more) =
    let long = ap length e in
    let here = one x us vs spelled in
    let others = more_count key Is one xs vs rest more in
    omega arith

listed_shrinks : {A : Type 0} (key : Key) (Is : Rule A) → Shrinks Is → Shrinks (IsListed key Is)
listed_shrinks key Is one [] ts rest never = absurd never
listed_shrinks key Is one (x ∷ xs) ts rest (us, spelled, more) =
    let here = one x ts us spelled in
    let others = more_shrinks key Is one xs us rest more in
    omega arith

alias_shrinks : Shrinks SpellsAlias
alias_shrinks None ts rest e = let long = ap length e in omega arith
alias_shrinks (Some name) ts rest e = let long = ap length e in omega arith

qualified_shrinks : (qualifier : Option (List ℕ)) → Shrinks (SpellsQualified qualifier)
qualified_shrinks None name ts rest e = let long = ap length e in omega arith
qualified_shrinks (Some qualifier) name ts rest e = let long = ap length e in omega arith

pub column_shrinks : Shrinks SpellsColumn
column_shrinks column ts rest spelled = qualified_shrinks column.qualifier column.name ts rest spelled

pub literal_shrinks : Shrinks SpellsLiteral
literal_shrinks (Int z) ts rest (n, inl (le, is, e)) = let long = ap length e in omega arith
literal_shrinks (Int z) ts rest (n, inr (le, is, e)) = let long = ap length e in omega arith
literal_shrinks (Text text) ts rest (le, e) = let long = ap length e in omega arith
literal_shrinks (Truth true) ts rest e = let long = ap length e in omega arith
literal_shrinks (Truth false) ts rest e = let long = ap length e in omega arith
literal_shrinks (Wide z) ts rest never = absurd never

side_shrinks : Shrinks SpellsSide
side_shrinks (side.Column column) ts rest spelled = column_shrinks column ts rest spelled
side_shrinks (side.Literal value) ts rest spelled = literal_shrinks value ts rest spelled

comparison_shrinks : Shrinks SpellsComparison
comparison_shrinks x ts rest (column, op, side, us, is, left, right) =
    let here = column_shrinks column ts _ left in
    let there = side_shrinks side us rest right in
    omega arith

pub conjunction_shrinks : (Is : Rule Test) → Shrinks Is → Shrinks (SpellsConjunction Is)
conjunction_shrinks Is one x ts rest (tests, is, listed) = listed_shrinks k.And Is one tests ts rest listed

disjunction_shrinks : (Is : Rule Test) → Shrinks Is → Shrinks (SpellsDisjunction Is)
disjunction_shrinks Is one x ts rest (tests, is, listed) = listed_shrinks k.Or (SpellsConjunction Is) (conjunction_shrinks Is one) tests ts rest listed

pub atom_shrinks : (depth : ℕ) → Shrinks (SpellsAtom depth)
atom_shrinks zero x ts rest spelled = comparison_shrinks x ts rest spelled
atom_shrinks (suc depth) x ts rest (inl spelled) = comparison_shrinks x ts rest spelled
atom_shrinks (suc depth) x ts rest (inr (inl (inner, us, is, e, spelled))) =
    let long = ap length e in
    let here = atom_shrinks depth inner us rest spelled in
    omega arith
atom_shrinks (suc depth) x ts rest (inr (inr (us, e, spelled))) =
    let long = ap length e in
    let here = disjunction_shrinks (SpellsAtom depth) (atom_shrinks depth) x us _ spelled in
    omega arith

where_shrinks : Shrinks SpellsWhere
where_shrinks None ts rest e = let long = ap length e in omega arith
where_shrinks (Some test) ts rest (us, e, spelled) =
    let long = ap length e in
    let here = disjunction_shrinks (SpellsAtom greatest_depth) (atom_shrinks greatest_depth) test us rest spelled in
    omega arith

expression_shrinks : Shrinks SpellsExpression
expression_shrinks (expr.Column column) ts rest spelled = column_shrinks column ts rest spelled
expression_shrinks expr.Count ts rest e = let long = ap length e in omega arith
expression_shrinks (expr.Sum column) ts rest (us, e, spelled) = let long = ap length e in let here = column_shrinks column us _ spelled in omega arith
expression_shrinks (expr.Min column) ts rest (us, e, spelled) = let long = ap length e in let here = column_shrinks column us _ spelled in omega arith
expression_shrinks (expr.Max column) ts rest (us, e, spelled) = let long = ap length e in let here = column_shrinks column us _ spelled in omega arith

pub item_shrinks : Shrinks SpellsItem
item_shrinks item ts rest (us, spelled, alias) =
    let here = expression_shrinks item.expression ts us spelled in
    let there = alias_shrinks item.alias us rest alias in
    omega arith

items_shrinks : Shrinks SpellsItems
items_shrinks None ts rest e = let long = ap length e in omega arith
items_shrinks (Some items) ts rest spelled = listed_shrinks k.Comma SpellsItem item_shrinks items ts rest spelled

reference_shrinks : Shrinks SpellsReference
reference_shrinks reference ts rest (us, e, alias) =
    let long = ap length e in
    let here = alias_shrinks reference.alias us rest alias in
    omega arith

pub pair_shrinks : Shrinks SpellsPair
pair_shrinks pair ts rest (us, left, right) =
    let here = column_shrinks pair.left ts _ left in
    let there = column_shrinks pair.right us rest right in
    omega arith

pub join_shrinks : Shrinks SpellsJoin
join_shrinks join ts rest (us, reference, pairs) =
    let here = reference_shrinks join.reference ts _ reference in
    let there = listed_shrinks k.And SpellsPair pair_shrinks join.pairs us rest pairs in
    omega arith

group_shrinks : Shrinks SpellsGroup
group_shrinks [] ts rest e = let long = ap length e in omega arith
group_shrinks (column ∷ columns) ts rest (us, e, spelled) =
    let long = ap length e in
    let here = listed_shrinks k.Comma SpellsColumn column_shrinks (column ∷ columns) us rest spelled in
    omega arith

distinct_shrinks : Shrinks SpellsDistinct
distinct_shrinks false ts rest e = let long = ap length e in omega arith
distinct_shrinks true ts rest e = let long = ap length e in omega arith

source_shrinks : Shrinks SpellsSource
source_shrinks select ts rest (a, b, c, d, e, reference, joins, test, group) =
    let long = ap length e in
    let one = reference_shrinks select.first a b reference in
    let two = more_shrinks k.Join SpellsJoin join_shrinks select.joins b c joins in
    let three = where_shrinks select.test c d test in
    let four = group_shrinks select.group d rest group in
    omega arith

select_shrinks : Shrinks SpellsSelect
select_shrinks select ts rest (a, b, c, e, distinct, items, source) =
    let long = ap length e in
    let one = distinct_shrinks select.distinct a b distinct in
    let two = items_shrinks select.items b c items in
    let three = source_shrinks select c rest source in
    omega arith

pub other_shrinks : Shrinks SpellsOther
other_shrinks select ts rest (us, e, spelled) =
    let long = ap length e in
    let here = select_shrinks select us rest spelled in
    omega arith

type_shrinks : Shrinks SpellsType
type_shrinks kind.Int ts rest e = let long = ap length e in omega arith
type_shrinks kind.Text ts rest e = let long = ap length e in omega arith
type_shrinks kind.Bool ts rest e = let long = ap length e in omega arith
type_shrinks kind.Wide ts rest never = absurd never

pub definition_shrinks : Shrinks SpellsDefinition
definition_shrinks column ts rest (us, e, spelled) =
    let long = ap length e in
    let here = type_shrinks column.kind us rest spelled in
    omega arith

pub tuple_shrinks : Shrinks SpellsTuple
tuple_shrinks values ts rest (us, e, spelled) =
    let long = ap length e in
    let here = listed_shrinks k.Comma SpellsLiteral literal_shrinks values us _ spelled in
    omega arith
