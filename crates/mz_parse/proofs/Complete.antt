-- What is spelled so is read.
use Rattle.std.proofs.Common.{◌≡◌, ℕ, ◌+◌, zero, suc, ◌≤◌, Bool, true, false, ◌&&◌, List, [], ◌∷◌, length, Option, Some, None, Ok, inl, inr, refl, sym, ap, subst, ◌∙◌, ◌⊎◌, arith}
use Rattle.std.specs.Prelude.{pos, neg_ℤ}
use Rattle.std.proofs.lemmas.Bool.{le-leb, lt-ltb}
use denote.Enum.Bare.{true_same}
use Rattle.mz_grammar.specs.contracts.key.Key.{the_type}
use Rattle.mz_value.specs.declared.datum.Datum.{Datum}
use Rattle.mz_value.specs.declared.datum.Datum.TheVariants.{Int, Text, Bool as Truth, Wide}
use Rattle.mz_statement.specs.declared.column.ColumnType.{ColumnType}
use Rattle.mz_statement.specs.declared.column.ColumnType.TheVariants as kind
use Rattle.mz_statement.specs.declared.condition.Op.{Op}
use Rattle.mz_statement.specs.declared.condition.Op.TheVariants.{Eq, Ne, Lt, Le, Gt, Ge}
use Rattle.mz_statement.specs.declared.condition.Side.TheVariants as side
use Rattle.mz_statement.specs.declared.condition.Test.{Test}
use Rattle.mz_statement.specs.declared.item.Expression.{Expression}
use Rattle.mz_statement.specs.declared.item.Expression.TheVariants as expr
use Rattle.mz_statement.specs.declared.item.SelectItem.{SelectItem}
use Rattle.mz_statement.specs.declared.query.Select.{Select}
use Rattle.mz_statement.specs.declared.reference.ColumnName.{ColumnName}
use Rattle.mz_statement.specs.declared.reference.Join.{Join}
use Rattle.mz_statement.specs.declared.statement.Keep.{Keep}
use Rattle.mz_statement.specs.declared.statement.Keep.TheVariants as keeps
use Rattle.mz_statement.specs.declared.statement.Statement.{Statement}
use Rattle.mz_statement.specs.declared.statement.Statement.TheVariants as statement
use Rattle.mz_grammar.specs.declared.key.Key.{Key}
use Rattle.mz_grammar.specs.declared.key.Key.TheVariants as k
use Rattle.mz_grammar.specs.declared.token.Tok.{Tok}
use Rattle.mz_grammar.specs.declared.token.Tok.TheVariants.{Key as K, Number, Text as T}
use Rattle.mz_grammar.specs.Token.{next}
use Rattle.mz_parse.specs.Reading.{Read, more, more_from, listed, alias_from, alias_at, begins_as_of, column_from, column_at, literal_at, within, value_at, side_at, op_at, comparison_at, conjunction_at, disjunction_at, atom_from, atom_at, condition_at, reference_from, reference_at, pair_at, join_at, list_from, joins_at, grouped_at, group_at, where_from, where_at, expression_from, expression_at, item_at, items_from, items_at, distinct_from, distinct_at, select_from, select_at, all_select_at, query_at, time_at, as_of_from, as_of_at, type_at, definition_at, tuple_at, keep_at, top_query_at, statement_at, whole_at}
use Rattle.mz_grammar.specs.Grammar.{Rule, IsMore, IsListed, SpellsAlias, SpellsQualified, SpellsColumn, SpellsLiteral, SpellsSide, op_key, SpellsComparison, SpellsConjunction, SpellsDisjunction, SpellsAtom, SpellsCondition, SpellsWhere, SpellsExpression, SpellsItem, SpellsItems, SpellsReference, SpellsPair, SpellsJoin, SpellsGroup, SpellsDistinct, SpellsSource, SpellsSelect, SpellsOther, SpellsQuery, SpellsTime, SpellsAsOf, SpellsType, SpellsDefinition, SpellsTuple, SpellsKeep, SpellsStatement, Spells}
use Rattle.mz_parse.proofs.Shorter.{Shrinks, more_count, column_shrinks, literal_shrinks, conjunction_shrinks, atom_shrinks, item_shrinks, pair_shrinks, join_shrinks, other_shrinks, definition_shrinks, tuple_shrinks}
use Rattle.mz_statement.specs.Value.{greatest_int, longest_text}
use Rattle.mz_statement.specs.Test.{greatest_depth}
use Rattle.mz_statement.specs.Statement.{lags, times}

-- what was read
abbrev ok : {A : Type 0} → List Tok → A → Read A
ok us x = Ok (x, us)

-- what the rule spells is read, where what is behind it stops
abbrev Complete : {A : Type 0} → (List Tok → Read A) → Rule A → (List Tok → Type 0) → Type 0
Complete r Is Stops = (x : _) (ts rest : List Tok) → Is x ts rest → Stops rest → r ts ≡ Ok (x, rest)

-- the key doesn't stand first
abbrev No : Key → List Tok → Type 0
No key ts = next key ts ≡ None

-- a key behind which something stands
next_self : (key : Key) (us : List Tok) → next key (K key ∷ us) ≡ Some us
next_self key us = rw (true_same the_type key key refl) refl

-- ---- lists

more_starts : {A : Type 0} (P : List Tok → Type 0) (key : Key) (Is : Rule A) (xs : List A) (ts rest : List Tok) → IsMore key Is xs ts rest → P rest → ((us : List Tok) → P (K key ∷ us)) → P ts
more_starts P key Is [] ts rest e stop again = subst P (sym e) stop
more_starts P key Is (x ∷ xs) ts rest (us, vs, e, spelled, more) stop again = subst P (sym e) (again us)

more_complete : {A : Type 0} (key : Key) (r : List Tok → Read A) (Is : Rule A) (Stops : List Tok → Type 0) → ((us : List Tok) → Stops (K key ∷ us)) → Complete r Is Stops
    → (n : ℕ) (xs : List A) → length xs ≤ n → (ts rest : List Tok) → IsMore key Is xs ts rest → Stops rest → No key rest → more n key r ts ≡ Ok (xs, rest)
more_complete key r Is Stops again one zero [] fits ts rest e stop none = ap (λ l. ok l []) e
more_complete key r Is Stops again one zero (x ∷ xs) fits ts rest spelled stop none = absurd (omega arith)
more_complete key r Is Stops again one (suc n) [] fits ts rest e stop none = ap (more (suc n) key r) e ∙ ap (more_from r (more n key r) rest) none
more_complete key r Is Stops again one (suc n) (x ∷ xs) fits ts rest (us, vs, e, spelled, others) stop none =
    let read = one x us vs spelled (more_starts Stops key Is xs vs rest others stop again) in
    let behind = more_complete key r Is Stops again one n xs (omega arith) vs rest others stop none in
    ap (more (suc n) key r) e ∙ ap (more_from r (more n key r) (K key ∷ us)) (next_self key us) ∙ rw (read, behind) refl

listed_complete : {A : Type 0} (key : Key) (r : List Tok → Read A) (Is : Rule A) (Stops : List Tok → Type 0) → ((us : List Tok) → Stops (K key ∷ us)) → Shrinks Is → Complete r Is Stops
    → (xs : List A) (ts rest : List Tok) → IsListed key Is xs ts rest → Stops rest → No key rest → listed key r ts ≡ Ok (xs, rest)
listed_complete key r Is Stops again shrinks one [] ts rest never stop none = absurd never
listed_complete key r Is Stops again shrinks one (x ∷ xs) ts rest (us, spelled, others) stop none =
    let read = one x ts us spelled (more_starts Stops key Is xs us rest others stop again) in
    let behind = more_complete key r Is Stops again one (length us) xs (more_count key Is shrinks xs us rest others) us rest others stop none in
    rw (read, behind) refl

list_complete : {A : Type 0} (key : Key) (r : List Tok → Read A) (Is : Rule A) (Stops : List Tok → Type 0) → ((us : List Tok) → Stops (K key ∷ us)) → Shrinks Is → Complete r Is Stops
    → (xs : List A) (ts rest : List Tok) → IsMore key Is xs ts rest → Stops rest → No key rest → list_from (listed key r) ts (next key ts) ≡ Ok (xs, rest)
list_complete key r Is Stops again shrinks one [] ts rest e stop none = ap (λ l. list_from (listed key r) l (next key l)) e ∙ ap (list_from (listed key r) rest) none
list_complete key r Is Stops again shrinks one (x ∷ xs) ts rest (us, vs, e, spelled, others) stop none =
    ap (λ l. list_from (listed key r) l (next key l)) e ∙ ap (list_from (listed key r) (K key ∷ us)) (next_self key us)
    ∙ listed_complete key r Is Stops again shrinks one (x ∷ xs) us rest (vs, spelled, others) stop none

-- ---- names and columns

alias_complete : Complete alias_at SpellsAlias (No k.As)
alias_complete None ts rest e stop = ap alias_at e ∙ ap (alias_from rest) stop
alias_complete (Some name) ts rest e stop = ap alias_at e

alias_starts : (P : List Tok → Type 0) (alias : Option (List ℕ)) (ts rest : List Tok) → SpellsAlias alias ts rest → P rest → ((us : List Tok) → P (K k.As ∷ us)) → P ts
alias_starts P None ts rest e stop again = subst P (sym e) stop
alias_starts P (Some name) ts rest e stop again = subst P (sym e) (again _)

qualified_complete : (qualifier : Option (List ℕ)) (name : List ℕ) (ts rest : List Tok) → SpellsQualified qualifier name ts rest → No k.Dot rest → column_at ts ≡ Ok (record { qualifier = qualifier; name = name }, rest)
qualified_complete None name ts rest e stop = ap column_at e ∙ ap (column_from name rest) stop
qualified_complete (Some qualifier) name ts rest e stop = ap column_at e

column_complete : Complete column_at SpellsColumn (No k.Dot)
column_complete column ts rest spelled stop = qualified_complete column.qualifier column.name ts rest spelled stop

-- a column begins with no key
qualified_starts : (key : Key) (qualifier : Option (List ℕ)) (name : List ℕ) (ts rest : List Tok) → SpellsQualified qualifier name ts rest → No key ts
qualified_starts key None name ts rest e = ap (next key) e
qualified_starts key (Some qualifier) name ts rest e = ap (next key) e

-- ---- literals and comparisons

literal_complete : (value : Datum) (ts rest : List Tok) → SpellsLiteral value ts rest → literal_at ts ≡ Ok (value, rest)
literal_complete (Int z) ts rest (n, inl (le, is, e)) =
    ap literal_at e ∙ ap (λ b. within b (Number n ∷ rest) (Int (pos n)) rest) (le-leb n greatest_int le) ∙ ap (λ y. ok rest (Int y)) (sym is)
literal_complete (Int z) ts rest (n, inr (le, is, e)) =
    ap literal_at e ∙ ap (λ b. within b (Number n ∷ rest) (Int (neg_ℤ (pos n))) rest) (le-leb n (greatest_int + 1) le) ∙ ap (λ y. ok rest (Int y)) (sym is)
literal_complete (Text text) ts rest (le, e) = ap literal_at e ∙ ap (λ b. within b (T text ∷ rest) (Text text) rest) (le-leb (length text) longest_text le)
literal_complete (Truth true) ts rest e = ap literal_at e
literal_complete (Truth false) ts rest e = ap literal_at e
literal_complete (Wide z) ts rest never = absurd never

-- a literal begins with no name
literal_side : (value : Datum) (ts rest : List Tok) → SpellsLiteral value ts rest → side_at ts ≡ value_at ts
literal_side (Int z) ts rest (n, inl (le, is, e)) = ap side_at e ∙ sym (ap value_at e)
literal_side (Int z) ts rest (n, inr (le, is, e)) = ap side_at e ∙ sym (ap value_at e)
literal_side (Text text) ts rest (le, e) = ap side_at e ∙ sym (ap value_at e)
literal_side (Truth true) ts rest e = ap side_at e ∙ sym (ap value_at e)
literal_side (Truth false) ts rest e = ap side_at e ∙ sym (ap value_at e)
literal_side (Wide z) ts rest never = absurd never

column_side : (qualifier : Option (List ℕ)) (name : List ℕ) (ts rest : List Tok) → SpellsQualified qualifier name ts rest → No k.Dot rest → side_at ts ≡ Ok (side.Column (record { qualifier = qualifier; name = name }), rest)
column_side None name ts rest e stop = ap side_at e ∙ rw stop refl
column_side (Some qualifier) name ts rest e stop = ap side_at e

side_complete : Complete side_at SpellsSide (No k.Dot)
side_complete (side.Column column) ts rest spelled stop = column_side column.qualifier column.name ts rest spelled stop
side_complete (side.Literal value) ts rest spelled stop = literal_side value ts rest spelled ∙ rw (literal_complete value ts rest spelled) refl

op_complete : (op : Op) (us : List Tok) → op_at (K (op_key op) ∷ us) ≡ Ok (op, us)
op_complete Eq us = refl
op_complete Ne us = refl
op_complete Lt us = refl
op_complete Le us = refl
op_complete Gt us = refl
op_complete Ge us = refl

op_stops : (op : Op) (us : List Tok) → No k.Dot (K (op_key op) ∷ us)
op_stops Eq us = refl
op_stops Ne us = refl
op_stops Lt us = refl
op_stops Le us = refl
op_stops Gt us = refl
op_stops Ge us = refl

comparison_complete : Complete comparison_at SpellsComparison (No k.Dot)
comparison_complete x ts rest (column, op, side, us, is, left, right) stop =
    rw (column_complete column ts (K (op_key op) ∷ us) left (op_stops op us), op_complete op us, side_complete side us rest right stop) (ap (ok rest) (sym is))

comparison_starts : (key : Key) (x : Test) (ts rest : List Tok) → SpellsComparison x ts rest → No key ts
comparison_starts key x ts rest (column, op, side, us, is, left, right) = qualified_starts key column.qualifier column.name ts _ left

-- ---- conditions

abbrev StopsAnd : List Tok → Type 0
StopsAnd l = No k.And l × No k.Dot l

abbrev StopsOr : List Tok → Type 0
StopsOr l = No k.Or l × No k.And l × No k.Dot l

conjunction_complete : (r : List Tok → Read Test) (Is : Rule Test) → Shrinks Is → Complete r Is (No k.Dot) → Complete (conjunction_at r) (SpellsConjunction Is) StopsAnd
conjunction_complete r Is shrinks one x ts rest (tests, is, listed) stop =
    rw (listed_complete k.And r Is (No k.Dot) (λ us. refl) shrinks one tests ts rest listed stop.1 stop.0) (ap (ok rest) (sym is))

disjunction_complete : (r : List Tok → Read Test) (Is : Rule Test) → Shrinks Is → Complete r Is (No k.Dot) → Complete (disjunction_at r) (SpellsDisjunction Is) StopsOr
disjunction_complete r Is shrinks one x ts rest (tests, is, listed) stop =
    rw (listed_complete k.Or (conjunction_at r) (SpellsConjunction Is) StopsAnd (λ us. (refl, refl)) (conjunction_shrinks Is shrinks) (conjunction_complete r Is shrinks one) tests ts rest listed (stop.1, stop.2) stop.0)
    (ap (ok rest) (sym is))

atom_complete : (depth : ℕ) → Complete (atom_at depth) (SpellsAtom depth) (No k.Dot)
atom_complete zero x ts rest spelled stop = comparison_complete x ts rest spelled stop
atom_complete (suc depth) x ts rest (inl spelled) stop =
    (λ i. atom_from (atom_at depth) ts (comparison_starts k.Not x ts rest spelled i) (comparison_starts k.Open x ts rest spelled i)) ∙ comparison_complete x ts rest spelled stop
atom_complete (suc depth) x ts rest (inr (inl (inner, us, is, e, spelled))) stop =
    ap (atom_at (suc depth)) e ∙ rw (atom_complete depth inner us rest spelled stop) (ap (ok rest) (sym is))
atom_complete (suc depth) x ts rest (inr (inr (us, e, spelled))) stop =
    ap (atom_at (suc depth)) e ∙ rw (disjunction_complete (atom_at depth) (SpellsAtom depth) (atom_shrinks depth) (atom_complete depth) x us (K k.Close ∷ rest) spelled (refl, refl, refl)) refl

condition_complete : Complete condition_at SpellsCondition StopsOr
condition_complete = disjunction_complete (atom_at greatest_depth) (SpellsAtom greatest_depth) (atom_shrinks greatest_depth) (atom_complete greatest_depth)

where_complete : (test : Option Test) (ts rest : List Tok) → SpellsWhere test ts rest → No k.Where rest → StopsOr rest → where_at ts ≡ Ok (test, rest)
where_complete None ts rest e none stop = ap where_at e ∙ ap (where_from rest) none
where_complete (Some test) ts rest (us, e, spelled) none stop = ap where_at e ∙ rw (condition_complete test us rest spelled stop) refl

where_starts : (P : List Tok → Type 0) (test : Option Test) (ts rest : List Tok) → SpellsWhere test ts rest → P rest → ((us : List Tok) → P (K k.Where ∷ us)) → P ts
where_starts P None ts rest e stop again = subst P (sym e) stop
where_starts P (Some test) ts rest (us, e, spelled) stop again = subst P (sym e) (again us)

-- ---- selects and queries

-- no alias stands first, or it is AS OF where the query may end
abbrev Ended : Bool → List Tok → Type 0
Ended may_end l = ((may_end && begins_as_of l) ≡ true) ⊎ (((may_end && begins_as_of l) ≡ false) × No k.As l)

and_false : (b : Bool) → (b && false) ≡ false
and_false true = refl
and_false false = refl

reference_alias : (may_end : Bool) (name : List ℕ) (alias : Option (List ℕ)) (us rest : List Tok) → SpellsAlias alias us rest → Ended may_end rest → reference_from name us (may_end && begins_as_of us) ≡ Ok (record { name = name; alias = alias }, rest)
reference_alias may_end name None us rest e (inl ends) = ap (λ l. reference_from name l (may_end && begins_as_of l)) e ∙ ap (reference_from name rest) ends
reference_alias may_end name None us rest e (inr (goes_on, none)) =
    ap (λ l. reference_from name l (may_end && begins_as_of l)) e ∙ ap (reference_from name rest) goes_on ∙ rw none refl
reference_alias true name (Some alias) us rest e ended = ap (λ l. reference_from name l (begins_as_of l)) e
reference_alias false name (Some alias) us rest e ended = ap (λ l. reference_from name l false) e

reference_complete : (may_end : Bool) → Complete (reference_at may_end) SpellsReference (Ended may_end)
reference_complete may_end reference ts rest (us, e, alias) ended = ap (reference_at may_end) e ∙ reference_alias may_end reference.name reference.alias us rest alias ended

pair_complete : Complete pair_at SpellsPair (No k.Dot)
pair_complete pair ts rest (us, left, right) stop =
    rw (column_complete pair.left ts (K k.Equal ∷ us) left refl, column_complete pair.right us rest right stop) refl

join_complete : Complete join_at SpellsJoin StopsAnd
join_complete join ts rest (us, reference, pairs) stop =
    rw (reference_complete false join.reference ts (K k.On ∷ us) reference (inr (refl, refl)), listed_complete k.And pair_at SpellsPair (No k.Dot) (λ l. refl) pair_shrinks pair_complete join.pairs us rest pairs stop.1 stop.0) refl

joins_complete : (joins : List Join) (ts rest : List Tok) → IsMore k.Join SpellsJoin joins ts rest → StopsAnd rest → No k.Join rest → joins_at ts ≡ Ok (joins, rest)
joins_complete joins ts rest spelled stop none = list_complete k.Join join_at SpellsJoin StopsAnd (λ us. (refl, refl)) join_shrinks join_complete joins ts rest spelled stop none

group_complete : (columns : List ColumnName) (ts rest : List Tok) → SpellsGroup columns ts rest → No k.Group rest → No k.Comma rest → No k.Dot rest → group_at ts ≡ Ok (columns, rest)
group_complete [] ts rest e none comma stop = ap group_at e ∙ ap (list_from grouped_at rest) none
group_complete (column ∷ columns) ts rest (us, e, listed) none comma stop =
    ap group_at e ∙ listed_complete k.Comma column_at SpellsColumn (No k.Dot) (λ l. refl) column_shrinks column_complete (column ∷ columns) us rest listed stop comma

group_starts : (P : List Tok → Type 0) (columns : List ColumnName) (ts rest : List Tok) → SpellsGroup columns ts rest → P rest → ((us : List Tok) → P (K k.Group ∷ us)) → P ts
group_starts P [] ts rest e stop again = subst P (sym e) stop
group_starts P (column ∷ columns) ts rest (us, e, listed) stop again = subst P (sym e) (again _)

abbrev StopsExpression : List Tok → Type 0
StopsExpression l = No k.Open l × No k.Dot l

column_expression : (qualifier : Option (List ℕ)) (name : List ℕ) (ts rest : List Tok) → SpellsQualified qualifier name ts rest → StopsExpression rest → expression_at ts ≡ Ok (expr.Column (record { qualifier = qualifier; name = name }), rest)
column_expression None name ts rest e stop = ap expression_at e ∙ ap (expression_from name rest) stop.0 ∙ rw stop.1 refl
column_expression (Some qualifier) name ts rest e stop = ap expression_at e

expression_complete : Complete expression_at SpellsExpression StopsExpression
expression_complete (expr.Column column) ts rest spelled stop = column_expression column.qualifier column.name ts rest spelled stop
expression_complete expr.Count ts rest e stop = ap expression_at e
expression_complete (expr.Sum column) ts rest (us, e, spelled) stop = ap expression_at e ∙ rw (column_complete column us (K k.Close ∷ rest) spelled refl) refl
expression_complete (expr.Min column) ts rest (us, e, spelled) stop = ap expression_at e ∙ rw (column_complete column us (K k.Close ∷ rest) spelled refl) refl
expression_complete (expr.Max column) ts rest (us, e, spelled) stop = ap expression_at e ∙ rw (column_complete column us (K k.Close ∷ rest) spelled refl) refl

expression_starts : (key : Key) (x : Expression) (ts rest : List Tok) → SpellsExpression x ts rest → No key ts
expression_starts key (expr.Column column) ts rest spelled = qualified_starts key column.qualifier column.name ts rest spelled
expression_starts key expr.Count ts rest e = ap (next key) e
expression_starts key (expr.Sum column) ts rest (us, e, spelled) = ap (next key) e
expression_starts key (expr.Min column) ts rest (us, e, spelled) = ap (next key) e
expression_starts key (expr.Max column) ts rest (us, e, spelled) = ap (next key) e

abbrev StopsItem : List Tok → Type 0
StopsItem l = No k.As l × No k.Open l × No k.Dot l

item_complete : Complete item_at SpellsItem StopsItem
item_complete item ts rest (us, spelled, alias) stop =
    rw (expression_complete item.expression ts us spelled (alias_starts StopsExpression item.alias us rest alias (stop.1, stop.2) (λ l. (refl, refl))), alias_complete item.alias us rest alias stop.0) refl

items_complete : (items : Option (List SelectItem)) (ts rest us : List Tok) → SpellsItems items ts rest → rest ≡ K k.From ∷ us → items_at ts ≡ Ok (items, rest)
items_complete None ts rest us e from = ap items_at e
items_complete (Some []) ts rest us never from = absurd never
items_complete (Some (item ∷ items)) ts rest us (vs, (ws, first, alias), others) from =
    let stop : StopsItem rest = subst StopsItem (sym from) (refl, refl, refl) in
    let none : No k.Comma rest = subst (No k.Comma) (sym from) refl in
    ap (items_from ts) (expression_starts k.Star item.expression ts ws first)
    ∙ rw (listed_complete k.Comma item_at SpellsItem StopsItem (λ l. (refl, refl, refl)) item_shrinks item_complete (item ∷ items) ts rest (vs, (ws, first, alias), others) stop none) refl

-- items begin with no DISTINCT
items_starts : (items : Option (List SelectItem)) (ts rest : List Tok) → SpellsItems items ts rest → No k.Distinct ts
items_starts None ts rest e = ap (next k.Distinct) e
items_starts (Some []) ts rest never = absurd never
items_starts (Some (item ∷ items)) ts rest (vs, (ws, first, alias), others) = expression_starts k.Distinct item.expression ts ws first

-- nothing that goes on with a select stands first
abbrev Ends : Bool → List Tok → Type 0
Ends may_end l = Ended may_end l × No k.Join l × No k.Where l × No k.Group l × No k.Comma l × No k.Or l × No k.And l × No k.Dot l

-- the same where a GROUP BY may stand first
abbrev EndsGroup : Bool → List Tok → Type 0
EndsGroup may_end l = Ended may_end l × No k.Join l × No k.Where l × No k.Or l × No k.And l × No k.Dot l

-- and where a WHERE may
abbrev EndsWhere : Bool → List Tok → Type 0
EndsWhere may_end l = Ended may_end l × No k.Join l × No k.And l × No k.Dot l

source_complete : (may_end : Bool) (select : Select) (ts rest : List Tok) → SpellsSource select ts rest → Ends may_end rest → select_from may_end select.distinct select.items ts ≡ Ok (select, rest)
source_complete may_end select ts rest (a, b, c, d, e, reference, joins, test, group) ends =
    let at_group = group_starts (EndsGroup may_end) select.group d rest group (ends.0, ends.1, ends.2, ends.5, ends.6, ends.7) (λ l. (inr (and_false may_end, refl), refl, refl, refl, refl, refl)) in
    let at_where = where_starts (EndsWhere may_end) select.test c d test (at_group.0, at_group.1, at_group.4, at_group.5) (λ l. (inr (and_false may_end, refl), refl, refl, refl)) in
    let at_joins = more_starts (Ended may_end) k.Join SpellsJoin select.joins b c joins at_where.0 (λ l. inr (and_false may_end, refl)) in
    ap (select_from may_end select.distinct select.items) e
    ∙ rw (
      reference_complete may_end select.first a b reference at_joins,
      joins_complete select.joins b c joins (at_where.2, at_where.3) at_where.1,
      where_complete select.test c d test at_group.2 (at_group.3, at_group.4, at_group.5),
      group_complete select.group d rest group ends.3 ends.4 ends.7,
    ) refl

distinct_complete : (distinct : Bool) (ts rest : List Tok) → SpellsDistinct distinct ts rest → No k.Distinct rest → distinct_at ts ≡ (distinct, rest)
distinct_complete false ts rest e none = ap distinct_at e ∙ ap (distinct_from rest) none
distinct_complete true ts rest e none = ap distinct_at e

select_complete : (may_end : Bool) → Complete (select_at may_end) SpellsSelect (Ends may_end)
select_complete may_end select ts rest (a, b, c, e, distinct, items, source) ends =
    ap (select_at may_end) e
    ∙ rw (distinct_complete select.distinct a b distinct (items_starts select.items b c items), items_complete select.items b c source.0 items source.4, source_complete may_end select c rest source ends) refl

other_complete : (may_end : Bool) → Complete (all_select_at may_end) SpellsOther (Ends may_end)
other_complete may_end select ts rest (us, e, spelled) ends = ap (all_select_at may_end) e ∙ select_complete may_end select us rest spelled ends

ends_union : (may_end : Bool) (us : List Tok) → Ends may_end (K k.Union ∷ us)
ends_union may_end us = (inr (and_false may_end, refl), refl, refl, refl, refl, refl, refl, refl)

query_complete : (may_end : Bool) (query : List Select) (ts rest : List Tok) → SpellsQuery query ts rest → Ends may_end rest → No k.Union rest → query_at may_end ts ≡ Ok (query, rest)
query_complete may_end [] ts rest never ends none = absurd never
query_complete may_end (first ∷ others) ts rest (us, spelled, more) ends none =
    rw (
      select_complete may_end first ts us spelled (more_starts (Ends may_end) k.Union SpellsOther others us rest more ends (ends_union may_end)),
      list_complete k.Union (all_select_at may_end) SpellsOther (Ends may_end) (ends_union may_end) other_shrinks (other_complete may_end) others us rest more ends none,
    ) refl

-- a query begins with SELECT
query_starts : (query : List Select) (ts rest : List Tok) → SpellsQuery query ts rest → statement_at ts ≡ top_query_at ts
query_starts [] ts rest never = absurd never
query_starts (first ∷ others) ts rest (us, (a, b, c, e, distinct, items, source), others_spelled) = ap statement_at e ∙ sym (ap top_query_at e)

-- ---- statements

time_complete : (n : ℕ) (ts rest : List Tok) → SpellsTime n ts rest → time_at ts ≡ Ok (n, rest)
time_complete n ts rest (lt, e) = ap time_at e ∙ ap (λ b. within b (Number n ∷ rest) n rest) (lt-ltb n times lt)

as_of_complete : (as_of : Option ℕ) (ts rest : List Tok) → SpellsAsOf as_of ts rest → No k.As rest → as_of_at ts ≡ Ok (as_of, rest)
as_of_complete None ts rest e none = ap as_of_at e ∙ ap (as_of_from rest) none
as_of_complete (Some n) ts rest (us, e, time) none = ap as_of_at e ∙ rw (time_complete n us rest time) refl

as_of_starts : (P : List Tok → Type 0) (as_of : Option ℕ) (ts rest : List Tok) → SpellsAsOf as_of ts rest → P rest → ((us : List Tok) → P (K k.As ∷ K k.Of ∷ us)) → P ts
as_of_starts P None ts rest e stop again = subst P (sym e) stop
as_of_starts P (Some n) ts rest (us, e, time) stop again = subst P (sym e) (again us)

type_complete : (kind : ColumnType) (ts rest : List Tok) → SpellsType kind ts rest → type_at ts ≡ Ok (kind, rest)
type_complete kind.Int ts rest e = ap type_at e
type_complete kind.Text ts rest e = ap type_at e
type_complete kind.Bool ts rest e = ap type_at e
type_complete kind.Wide ts rest never = absurd never

abbrev Anything : List Tok → Type 0
Anything l = Unit {0}

definition_complete : Complete definition_at SpellsDefinition Anything
definition_complete column ts rest (us, e, kind) stop = ap definition_at e ∙ rw (type_complete column.kind us rest kind) refl

tuple_complete : Complete tuple_at SpellsTuple Anything
tuple_complete values ts rest (us, e, listed) stop =
    ap tuple_at e ∙ rw (listed_complete k.Comma literal_at SpellsLiteral Anything (λ l. tt) literal_shrinks (λ v l m spelled any. literal_complete v l m spelled) values us (K k.Close ∷ rest) listed tt refl) refl

keep_complete : (keep : Keep) (ts rest : List Tok) → SpellsKeep keep ts rest → keep_at ts ≡ Ok (keep, rest)
keep_complete (keeps.Lag n) ts rest (low, high, e) =
    ap keep_at e ∙ rw (le-leb 1 n low, lt-ltb n lags high) refl
keep_complete (keeps.From n) ts rest (us, e, time) = ap keep_at e ∙ rw (time_complete n us rest time) refl
keep_complete keeps.Stay ts rest e = ap keep_at e

-- nothing that goes on with a statement stands first
record Over (l : List Tok) : Type 0 where
  inner : Ends false l
  top : Ends true l
  union : No k.Union l
  as_of : No k.As l

statement_complete : (s : Statement) (ts rest : List Tok) → SpellsStatement s ts rest → Over rest → statement_at ts ≡ Ok (s, rest)
statement_complete (statement.Query query as_of) ts rest (us, spelled, time) over =
    let ends = as_of_starts (λ l. Ends true l × No k.Union l) as_of us rest time (over.top, over.union) (λ l. ((inl refl, refl, refl, refl, refl, refl, refl, refl), refl)) in
    query_starts query ts us spelled ∙ rw (query_complete true query ts us spelled ends.0 ends.1, as_of_complete as_of us rest time over.as_of) refl
statement_complete (statement.CreateTable name columns) ts rest (us, e, listed) over =
    ap statement_at e ∙ rw (listed_complete k.Comma definition_at SpellsDefinition Anything (λ l. tt) definition_shrinks definition_complete columns us (K k.Close ∷ rest) listed tt refl) refl
statement_complete (statement.CreateView name query) ts rest (us, e, spelled) over = ap statement_at e ∙ rw (query_complete false query us rest spelled over.inner over.union) refl
statement_complete (statement.CreateIndex name relation) ts rest e over = ap statement_at e
statement_complete (statement.DropTable name) ts rest e over = ap statement_at e
statement_complete (statement.DropView name) ts rest e over = ap statement_at e
statement_complete (statement.DropIndex name) ts rest e over = ap statement_at e
statement_complete (statement.Insert name rows) ts rest (us, e, listed) over =
    ap statement_at e ∙ rw (listed_complete k.Comma tuple_at SpellsTuple Anything (λ l. tt) tuple_shrinks tuple_complete rows us rest listed tt over.top.4) refl
statement_complete (statement.Delete name test) ts rest (us, e, spelled) over =
    ap statement_at e ∙ rw (where_complete test us rest spelled over.top.2 (over.top.5, over.top.6, over.top.7)) refl
statement_complete statement.Start ts rest e over = ap statement_at e
statement_complete statement.Commit ts rest e over = ap statement_at e
statement_complete statement.ShowFrontiers ts rest e over = ap statement_at e
statement_complete (statement.Retain name keep) ts rest (us, e, spelled) over = ap statement_at e ∙ rw (keep_complete keep us rest spelled) refl
statement_complete (statement.SetIsolation strict) ts rest e over = elim e [ ]
statement_complete (statement.SetCluster name) ts rest e over = elim e [ ]

over_nothing : Over []
over_nothing = record {
  inner = (inr (refl, refl), refl, refl, refl, refl, refl, refl, refl);
  top = (inr (refl, refl), refl, refl, refl, refl, refl, refl, refl);
  union = refl;
  as_of = refl;
}

over_semicolon : Over (K k.Semicolon ∷ [])
over_semicolon = record {
  inner = (inr (refl, refl), refl, refl, refl, refl, refl, refl, refl);
  top = (inr (refl, refl), refl, refl, refl, refl, refl, refl, refl);
  union = refl;
  as_of = refl;
}

-- what is spelled so is read whole
pub whole_complete : (ts : List Tok) (s : Statement) → Spells ts s → whole_at ts ≡ Ok s
whole_complete ts s (inl spelled) = rw (statement_complete s ts [] spelled over_nothing) refl
whole_complete ts s (inr spelled) = rw (statement_complete s ts (K k.Semicolon ∷ []) spelled over_semicolon) refl
