-- What is read is spelled so.
use Rattle.std.proofs.Common.{◌≡◌, ℕ, ◌+◌, zero, suc, ◌≤◌, ◌<◌, Bool, true, false, ◌&&◌, ◌||◌, if◌then◌else◌, List, [], ◌∷◌, length, Option, Some, None, Ok, inl, inr, refl, sym, ap, subst, ◌∙◌}
use Rattle.std.specs.Prelude.{codes, bytes_eq, nat_le, nat_lt, pos, neg_ℤ}
use Rattle.std.proofs.lemmas.Bool.{leb-true, ltb-true}
use Rattle.std.proofs.lemmas.Slice.Eq.{bytes_eq-Decides}
use Rattle.mz_value.specs.declared.datum.Datum.{Datum}
use Rattle.mz_value.specs.declared.datum.Datum.TheVariants.{Int, Text, Bool as Truth}
use Rattle.mz_statement.specs.declared.column.ColumnType.{ColumnType}
use Rattle.mz_statement.specs.declared.column.ColumnType.TheVariants as kind
use Rattle.mz_statement.specs.declared.condition.Op.{Op}
use Rattle.mz_statement.specs.declared.condition.Op.TheVariants.{Eq, Ne, Lt, Le, Gt, Ge}
use Rattle.mz_statement.specs.declared.condition.Side.{Side}
use Rattle.mz_statement.specs.declared.condition.Test.{Test}
use Rattle.mz_statement.specs.declared.item.Expression.{Expression}
use Rattle.mz_statement.specs.declared.item.Expression.TheVariants as expr
use Rattle.mz_statement.specs.declared.item.SelectItem.{SelectItem}
use Rattle.mz_statement.specs.declared.query.Select.{Select}
use Rattle.mz_statement.specs.declared.reference.ColumnName.{ColumnName}
use Rattle.mz_statement.specs.declared.reference.Reference.{Reference}
use Rattle.mz_statement.specs.declared.statement.Keep.{Keep}
use Rattle.mz_statement.specs.declared.statement.Keep.TheVariants as keeps
use Rattle.mz_statement.specs.declared.statement.Statement.{Statement}
use Rattle.mz_statement.specs.declared.statement.Statement.TheVariants as statement
use Rattle.mz_grammar.specs.declared.key.Key.{Key}
use Rattle.mz_grammar.specs.declared.key.Key.TheVariants as k
use Rattle.mz_grammar.specs.declared.token.Tok.{Tok}
use Rattle.mz_grammar.specs.declared.token.Tok.TheVariants.{Key as K, Name as N, Number, Text as T}
use Rattle.mz_grammar.specs.Token.{next}
use Rattle.mz_parse.specs.Reading.{Read, stuck, more, more_from, listed, name_at, alias_from, alias_at, begins_as_of, column_from, column_at, negative_at, plain_at, literal_from, literal_at, value_at, side_at, op_of, op_from, op_at, comparison_at, conjunction_at, disjunction_at, atom_from, atom_at, condition_at, reference_from, reference_at, pair_at, join_at, list_from, joins_at, grouped_at, group_at, where_from, where_at, is_aggregate, aggregate, counted_at, aggregated_at, expression_from, expression_at, item_at, items_from, items_at, distinct_from, distinct_at, select_from, select_at, all_select_at, unions_at, query_at, time_at, lag_at, as_of_from, as_of_at, type_of, type_from, type_at, definition_at, create_table_at, create_view_at, create_index_at, create_at, drop_at, tuple_at, insert_at, delete_at, show_from, show_at, keep_named, keep_from, keep_at, retain_at, top_query_at, statement_at, past_semicolon, nothing_behind, whole_at, key_at}
use Rattle.mz_grammar.specs.Grammar.{Rule, IsMore, IsListed, SpellsName, SpellsAlias, SpellsColumn, SpellsLiteral, SpellsSide, op_key, SpellsComparison, SpellsConjunction, SpellsDisjunction, SpellsAtom, SpellsCondition, SpellsWhere, SpellsExpression, SpellsItem, SpellsItems, SpellsReference, SpellsPair, SpellsJoin, SpellsGroup, SpellsDistinct, SpellsSource, SpellsSelect, SpellsOther, SpellsQuery, SpellsTime, SpellsAsOf, SpellsType, SpellsDefinition, SpellsTuple, SpellsKeep, SpellsStatement, Spells}
use Rattle.mz_parse.proofs.Steps.{bind_ok, ok_is, next_is, key_at_is, within_is, both_is, both}
use Rattle.mz_statement.specs.Value.{greatest_int, longest_text}
use Rattle.mz_statement.specs.Test.{greatest_depth}
use Rattle.mz_statement.specs.Statement.{lags, times}

-- what the reader reads is spelled by the rule
abbrev pub Sound : {A : Type 0} → (List Tok → Read A) → Rule A → Type 0
Sound r Is = (ts : List Tok) (x : _) (us : List Tok) → r ts ≡ Ok (x, us) → Is x ts us

more_from_sound : {A : Type 0} (key : Key) (r : List Tok → Read A) (Is : Rule A) (others : List Tok → Read (List A)) → Sound r Is → Sound others (IsMore key Is) → (ts : List Tok) (found : Option (List Tok)) → next key ts ≡ found
    → (xs : List A) (us : List Tok) → more_from r others ts found ≡ Ok (xs, us) → IsMore key Is xs ts us
more_from_sound key r Is others one all ts None is xs us e = subst (λ z. IsMore key Is z.0 ts z.1) (ok_is ([], ts) (xs, us) e) refl
more_from_sound key r Is others one all ts (Some vs) is xs us e =
    let x = bind_ok (r vs) _ (xs, us) e in
    let more = bind_ok (others x.0.1) _ (xs, us) x.2 in
    subst (λ z. IsMore key Is z.0 ts z.1) (ok_is _ (xs, us) more.2) (vs, x.0.1, next_is key ts vs is, one vs x.0.0 x.0.1 x.1, all x.0.1 more.0.0 more.0.1 more.1)

pub more_sound : {A : Type 0} (key : Key) (r : List Tok → Read A) (Is : Rule A) → Sound r Is → (n : ℕ) → Sound (more n key r) (IsMore key Is)
more_sound key r Is one zero ts xs us e = subst (λ z. IsMore key Is z.0 ts z.1) (ok_is ([], ts) (xs, us) e) refl
more_sound key r Is one (suc n) ts xs us e = more_from_sound key r Is (more n key r) one (more_sound key r Is one n) ts (next key ts) refl xs us e

pub listed_sound : {A : Type 0} (key : Key) (r : List Tok → Read A) (Is : Rule A) → Sound r Is → Sound (listed key r) (IsListed key Is)
listed_sound key r Is one ts xs us e =
    let x = bind_ok (r ts) _ (xs, us) e in
    let more = bind_ok (more (length x.0.1) key r x.0.1) _ (xs, us) x.2 in
    subst (λ z. IsListed key Is z.0 ts z.1) (ok_is _ (xs, us) more.2) (x.0.1, one ts x.0.0 x.0.1 x.1, more_sound key r Is one (length x.0.1) x.0.1 more.0.0 more.0.1 more.1)

-- ---- names and columns

pub name_sound : Sound name_at SpellsName
name_sound [] name us e = absurd cc
name_sound (N first ∷ ts) name us e = subst (λ z. SpellsName z.0 (N first ∷ ts) z.1) (ok_is (first, ts) (name, us) e) refl
name_sound (K key ∷ ts) name us e = absurd cc
name_sound (Number n ∷ ts) name us e = absurd cc
name_sound (T text ∷ ts) name us e = absurd cc

alias_from_sound : (ts : List Tok) (found : Option (List Tok)) → next k.As ts ≡ found → (alias : Option (List ℕ)) (us : List Tok) → alias_from ts found ≡ Ok (alias, us) → SpellsAlias alias ts us
alias_from_sound ts None is alias us e = subst (λ z. SpellsAlias z.0 ts z.1) (ok_is (None, ts) (alias, us) e) refl
alias_from_sound ts (Some vs) is alias us e =
    let n = bind_ok (name_at vs) _ (alias, us) e in
    subst (λ z. SpellsAlias z.0 ts z.1) (ok_is _ (alias, us) n.2) (next_is k.As ts vs is ∙ ap (λ l. K k.As ∷ l) (name_sound vs n.0.0 n.0.1 n.1))

pub alias_sound : Sound alias_at SpellsAlias
alias_sound ts alias us e = alias_from_sound ts (next k.As ts) refl alias us e

pub column_from_sound : (first : List ℕ) (ts : List Tok) (found : Option (List Tok)) → next k.Dot ts ≡ found → (column : ColumnName) (us : List Tok) → column_from first ts found ≡ Ok (column, us) → SpellsColumn column (N first ∷ ts) us
column_from_sound first ts None is column us e = subst (λ z. SpellsColumn z.0 (N first ∷ ts) z.1) (ok_is (record { qualifier = None; name = first }, ts) (column, us) e) refl
column_from_sound first ts (Some vs) is column us e =
    let n = bind_ok (name_at vs) _ (column, us) e in
    subst (λ z. SpellsColumn z.0 (N first ∷ ts) z.1) (ok_is _ (column, us) n.2) (ap (λ l. N first ∷ l) (next_is k.Dot ts vs is ∙ ap (λ l. K k.Dot ∷ l) (name_sound vs n.0.0 n.0.1 n.1)))

pub column_sound : Sound column_at SpellsColumn
column_sound ts column us e =
    let n = bind_ok (name_at ts) _ (column, us) e in
    subst (λ l. SpellsColumn column l us) (sym (name_sound ts n.0.0 n.0.1 n.1)) (column_from_sound n.0.0 n.0.1 (next k.Dot n.0.1) refl column us n.2)

-- ---- literals and comparisons

negative_sound : (ts us : List Tok) (value : Datum) (vs : List Tok) → ts ≡ K k.Minus ∷ us → negative_at us ≡ Ok (value, vs) → SpellsLiteral value ts vs
negative_sound ts [] value vs is e = absurd cc
negative_sound ts (Number n ∷ us) value vs is e =
    let w = within_is (nat_le n (greatest_int + 1)) (Number n ∷ us) (Int (neg_ℤ (pos n))) us value vs e in
    subst (λ z. SpellsLiteral z.0 ts z.1) (both_is _ _ _ _ w.1 w.2) (n, inr (leb-true n (greatest_int + 1) w.0, refl, is))
negative_sound ts (K key ∷ us) value vs is e = absurd cc
negative_sound ts (N name ∷ us) value vs is e = absurd cc
negative_sound ts (T text ∷ us) value vs is e = absurd cc

plain_sound : Sound plain_at SpellsLiteral
plain_sound (Number n ∷ ts) value us e =
    let w = within_is (nat_le n greatest_int) (Number n ∷ ts) (Int (pos n)) ts value us e in
    subst (λ z. SpellsLiteral z.0 (Number n ∷ ts) z.1) (both_is _ _ _ _ w.1 w.2) (n, inl (leb-true n greatest_int w.0, refl, refl))
plain_sound (T text ∷ ts) value us e =
    let w = within_is (nat_le (length text) longest_text) (T text ∷ ts) (Text text) ts value us e in
    subst (λ z. SpellsLiteral z.0 (T text ∷ ts) z.1) (both_is _ _ _ _ w.1 w.2) (leb-true (length text) longest_text w.0, refl)
plain_sound (K k.True ∷ ts) value us e = subst (λ z. SpellsLiteral z.0 (K k.True ∷ ts) z.1) (ok_is (Truth true, ts) (value, us) e) refl
plain_sound (K k.False ∷ ts) value us e = subst (λ z. SpellsLiteral z.0 (K k.False ∷ ts) z.1) (ok_is (Truth false, ts) (value, us) e) refl
plain_sound ts value us e = absurd cc

literal_from_sound : (ts : List Tok) (found : Option (List Tok)) → next k.Minus ts ≡ found → (value : Datum) (us : List Tok) → literal_from ts found ≡ Ok (value, us) → SpellsLiteral value ts us
literal_from_sound ts (Some vs) is value us e = negative_sound ts vs value us (next_is k.Minus ts vs is) e
literal_from_sound ts None is value us e = plain_sound ts value us e

pub literal_sound : Sound literal_at SpellsLiteral
literal_sound ts value us e = literal_from_sound ts (next k.Minus ts) refl value us e

value_sound : (ts : List Tok) (side : Side) (us : List Tok) → value_at ts ≡ Ok (side, us) → SpellsSide side ts us
value_sound ts side us e =
    let v = bind_ok (literal_at ts) _ (side, us) e in
    subst (λ z. SpellsSide z.0 ts z.1) (ok_is _ (side, us) v.2) (literal_sound ts v.0.0 v.0.1 v.1)

side_sound : Sound side_at SpellsSide
side_sound (N name ∷ ts) side us e =
    let c = bind_ok (column_at (N name ∷ ts)) _ (side, us) e in
    subst (λ z. SpellsSide z.0 (N name ∷ ts) z.1) (ok_is _ (side, us) c.2) (column_sound (N name ∷ ts) c.0.0 c.0.1 c.1)
side_sound [] side us e = value_sound [] side us e
side_sound (K key ∷ ts) side us e = value_sound (K key ∷ ts) side us e
side_sound (Number n ∷ ts) side us e = value_sound (Number n ∷ ts) side us e
side_sound (T text ∷ ts) side us e = value_sound (T text ∷ ts) side us e

op_of_is : (tok : Tok) (op : Op) → op_of tok ≡ Some op → tok ≡ K (op_key op)
op_of_is (K k.Equal) op e = let one : Eq ≡ op = cc in subst (λ o. K k.Equal ≡ K (op_key o)) one refl
op_of_is (K k.Unequal) op e = let one : Ne ≡ op = cc in subst (λ o. K k.Unequal ≡ K (op_key o)) one refl
op_of_is (K k.Less) op e = let one : Lt ≡ op = cc in subst (λ o. K k.Less ≡ K (op_key o)) one refl
op_of_is (K k.LessEqual) op e = let one : Le ≡ op = cc in subst (λ o. K k.LessEqual ≡ K (op_key o)) one refl
op_of_is (K k.Greater) op e = let one : Gt ≡ op = cc in subst (λ o. K k.Greater ≡ K (op_key o)) one refl
op_of_is (K k.GreaterEqual) op e = let one : Ge ≡ op = cc in subst (λ o. K k.GreaterEqual ≡ K (op_key o)) one refl
op_of_is tok op e = absurd cc

op_from_sound : (tok : Tok) (ts : List Tok) (found : Option Op) → op_of tok ≡ found → (op : Op) (us : List Tok) → op_from (tok ∷ ts) ts found ≡ Ok (op, us) → tok ∷ ts ≡ K (op_key op) ∷ us
op_from_sound tok ts (Some o) is op us e = subst (λ z. tok ∷ ts ≡ K (op_key z.0) ∷ z.1) (ok_is (o, ts) (op, us) e) (ap (λ u. u ∷ ts) (op_of_is tok o is))
op_from_sound tok ts None is op us e = absurd cc

op_sound : (ts : List Tok) (op : Op) (us : List Tok) → op_at ts ≡ Ok (op, us) → ts ≡ K (op_key op) ∷ us
op_sound [] op us e = absurd cc
op_sound (tok ∷ ts) op us e = op_from_sound tok ts (op_of tok) refl op us e

pub comparison_sound : Sound comparison_at SpellsComparison
comparison_sound ts test us e =
    let c = bind_ok (column_at ts) _ (test, us) e in
    let o = bind_ok (op_at c.0.1) _ (test, us) c.2 in
    let s = bind_ok (side_at o.0.1) _ (test, us) o.2 in
    subst (λ z. SpellsComparison z.0 ts z.1) (ok_is _ (test, us) s.2)
    (c.0.0, o.0.0, s.0.0, o.0.1, refl, subst (λ l. SpellsColumn c.0.0 ts l) (op_sound c.0.1 o.0.0 o.0.1 o.1) (column_sound ts c.0.0 c.0.1 c.1), side_sound o.0.1 s.0.0 s.0.1 s.1)

-- ---- conditions

pub conjunction_sound : (r : List Tok → Read Test) (Is : Rule Test) → Sound r Is → Sound (conjunction_at r) (SpellsConjunction Is)
conjunction_sound r Is one ts test us e =
    let xs = bind_ok (listed k.And r ts) _ (test, us) e in
    subst (λ z. SpellsConjunction Is z.0 ts z.1) (ok_is _ (test, us) xs.2) (xs.0.0, refl, listed_sound k.And r Is one ts xs.0.0 xs.0.1 xs.1)

disjunction_sound : (r : List Tok → Read Test) (Is : Rule Test) → Sound r Is → Sound (disjunction_at r) (SpellsDisjunction Is)
disjunction_sound r Is one ts test us e =
    let xs = bind_ok (listed k.Or (conjunction_at r) ts) _ (test, us) e in
    subst (λ z. SpellsDisjunction Is z.0 ts z.1) (ok_is _ (test, us) xs.2)
    (xs.0.0, refl, listed_sound k.Or (conjunction_at r) (SpellsConjunction Is) (conjunction_sound r Is one) ts xs.0.0 xs.0.1 xs.1)

atom_from_sound : (depth : ℕ) → Sound (atom_at depth) (SpellsAtom depth) → (ts : List Tok) (negated closed : Option (List Tok)) → next k.Not ts ≡ negated → next k.Open ts ≡ closed
    → (test : Test) (us : List Tok) → atom_from (atom_at depth) ts negated closed ≡ Ok (test, us) → SpellsAtom (suc depth) test ts us
atom_from_sound depth one ts (Some vs) closed is_not is_open test us e =
    let x = bind_ok (atom_at depth vs) _ (test, us) e in
    subst (λ z. SpellsAtom (suc depth) z.0 ts z.1) (ok_is _ (test, us) x.2) (inr (inl (x.0.0, vs, refl, next_is k.Not ts vs is_not, one vs x.0.0 x.0.1 x.1)))
atom_from_sound depth one ts None (Some vs) is_not is_open test us e =
    let x = bind_ok (disjunction_at (atom_at depth) vs) _ (test, us) e in
    let c = bind_ok (key_at k.Close x.0.1) _ (test, us) x.2 in
    let inside = disjunction_sound (atom_at depth) (SpellsAtom depth) one vs x.0.0 x.0.1 x.1 in
    subst (λ z. SpellsAtom (suc depth) z.0 ts z.1) (ok_is _ (test, us) c.2)
    (inr (inr (vs, next_is k.Open ts vs is_open, subst (λ l. SpellsDisjunction (SpellsAtom depth) x.0.0 vs l) (key_at_is k.Close x.0.1 c.0 c.1) inside)))
atom_from_sound depth one ts None None is_not is_open test us e = inl (comparison_sound ts test us e)

pub atom_sound : (depth : ℕ) → Sound (atom_at depth) (SpellsAtom depth)
atom_sound zero ts test us e = comparison_sound ts test us e
atom_sound (suc depth) ts test us e = atom_from_sound depth (atom_sound depth) ts (next k.Not ts) (next k.Open ts) refl refl test us e

pub condition_sound : Sound condition_at SpellsCondition
condition_sound = disjunction_sound (atom_at greatest_depth) (SpellsAtom greatest_depth) (atom_sound greatest_depth)

where_from_sound : (ts : List Tok) (found : Option (List Tok)) → next k.Where ts ≡ found → (test : Option Test) (us : List Tok) → where_from ts found ≡ Ok (test, us) → SpellsWhere test ts us
where_from_sound ts None is test us e = subst (λ z. SpellsWhere z.0 ts z.1) (ok_is (None, ts) (test, us) e) refl
where_from_sound ts (Some vs) is test us e =
    let c = bind_ok (condition_at vs) _ (test, us) e in
    subst (λ z. SpellsWhere z.0 ts z.1) (ok_is _ (test, us) c.2) (vs, next_is k.Where ts vs is, condition_sound vs c.0.0 c.0.1 c.1)

pub where_sound : Sound where_at SpellsWhere
where_sound ts test us e = where_from_sound ts (next k.Where ts) refl test us e

-- ---- selects and queries

reference_from_sound : (name : List ℕ) (ts : List Tok) (b : Bool) (reference : Reference) (us : List Tok)
    → reference_from name ts b ≡ Ok (reference, us) → SpellsReference reference (N name ∷ ts) us
reference_from_sound name ts true reference us e = subst (λ z. SpellsReference z.0 (N name ∷ ts) z.1) (ok_is (record { name = name; alias = None }, ts) (reference, us) e) (ts, refl, refl)
reference_from_sound name ts false reference us e =
    let a = bind_ok (alias_at ts) _ (reference, us) e in
    subst (λ z. SpellsReference z.0 (N name ∷ ts) z.1) (ok_is _ (reference, us) a.2) (ts, refl, alias_sound ts a.0.0 a.0.1 a.1)

reference_sound : (may_end : Bool) → Sound (reference_at may_end) SpellsReference
reference_sound may_end ts reference us e =
    let n = bind_ok (name_at ts) _ (reference, us) e in
    subst (λ l. SpellsReference reference l us) (sym (name_sound ts n.0.0 n.0.1 n.1)) (reference_from_sound n.0.0 n.0.1 (may_end && begins_as_of n.0.1) reference us n.2)

pub pair_sound : Sound pair_at SpellsPair
pair_sound ts pair us e =
    let l = bind_ok (column_at ts) _ (pair, us) e in
    let s = bind_ok (key_at k.Equal l.0.1) _ (pair, us) l.2 in
    let r = bind_ok (column_at s.0) _ (pair, us) s.2 in
    subst (λ z. SpellsPair z.0 ts z.1) (ok_is _ (pair, us) r.2)
    (s.0, subst (λ x. SpellsColumn l.0.0 ts x) (key_at_is k.Equal l.0.1 s.0 s.1) (column_sound ts l.0.0 l.0.1 l.1), column_sound s.0 r.0.0 r.0.1 r.1)

pub join_sound : Sound join_at SpellsJoin
join_sound ts join us e =
    let r = bind_ok (reference_at false ts) _ (join, us) e in
    let o = bind_ok (key_at k.On r.0.1) _ (join, us) r.2 in
    let ps = bind_ok (listed k.And pair_at o.0) _ (join, us) o.2 in
    subst (λ z. SpellsJoin z.0 ts z.1) (ok_is _ (join, us) ps.2)
    (o.0, subst (λ x. SpellsReference r.0.0 ts x) (key_at_is k.On r.0.1 o.0 o.1) (reference_sound false ts r.0.0 r.0.1 r.1), listed_sound k.And pair_at SpellsPair pair_sound o.0 ps.0.0 ps.0.1 ps.1)

-- a list behind its key is others behind the key
behind_key : {A : Type 0} (key : Key) (Is : Rule A) (ts us : List Tok) (xs : List A) (rest : List Tok) → ts ≡ K key ∷ us → IsListed key Is xs us rest → IsMore key Is xs ts rest
behind_key key Is ts us [] rest is listed = absurd listed
behind_key key Is ts us (x ∷ xs) rest is listed = (us, listed.0, is, listed.1, listed.2)

list_from_sound : {A : Type 0} (key : Key) (r : List Tok → Read A) (Is : Rule A) → Sound r Is → (ts : List Tok) (found : Option (List Tok)) → next key ts ≡ found
    → (xs : List A) (us : List Tok) → list_from (listed key r) ts found ≡ Ok (xs, us) → IsMore key Is xs ts us
list_from_sound key r Is one ts None is xs us e = subst (λ z. IsMore key Is z.0 ts z.1) (ok_is ([], ts) (xs, us) e) refl
list_from_sound key r Is one ts (Some vs) is xs us e = behind_key key Is ts vs xs us (next_is key ts vs is) (listed_sound key r Is one vs xs us e)

joins_sound : Sound joins_at (IsMore k.Join SpellsJoin)
joins_sound ts joins us e = list_from_sound k.Join join_at SpellsJoin join_sound ts (next k.Join ts) refl joins us e

grouped : (ts us vs : List Tok) (columns : List ColumnName) (rest : List Tok) → ts ≡ K k.Group ∷ us → us ≡ K k.By ∷ vs → IsListed k.Comma SpellsColumn columns vs rest → SpellsGroup columns ts rest
grouped ts us vs [] rest is by listed = absurd listed
grouped ts us vs (column ∷ columns) rest is by listed = (vs, is ∙ ap (λ l. K k.Group ∷ l) by, listed)

group_from_sound : (ts : List Tok) (found : Option (List Tok)) → next k.Group ts ≡ found → (columns : List ColumnName) (us : List Tok) → list_from grouped_at ts found ≡ Ok (columns, us) → SpellsGroup columns ts us
group_from_sound ts None is columns us e = subst (λ z. SpellsGroup z.0 ts z.1) (ok_is ([], ts) (columns, us) e) refl
group_from_sound ts (Some vs) is columns us e =
    let b = bind_ok (key_at k.By vs) _ (columns, us) e in
    grouped ts vs b.0 columns us (next_is k.Group ts vs is) (key_at_is k.By vs b.0 b.1) (listed_sound k.Comma column_at SpellsColumn column_sound b.0 columns us b.2)

group_sound : Sound group_at SpellsGroup
group_sound ts columns us e = group_from_sound ts (next k.Group ts) refl columns us e

-- a word that was tested is that word
word_is : (word text : List ℕ) → bytes_eq word text ≡ true → word ≡ text
word_is word text is = (bytes_eq-Decides word text).0 is

counted_sound : (ts us : List Tok) (found : Expression) → counted_at ts ≡ Ok (found, us) → SpellsExpression found (N (codes "count") ∷ K k.Open ∷ ts) us
counted_sound ts us found e =
    let s = bind_ok (key_at k.Star ts) _ (found, us) e in
    let c = bind_ok (key_at k.Close s.0) _ (found, us) s.2 in
    subst (λ z. SpellsExpression z.0 (N (codes "count") ∷ K k.Open ∷ ts) z.1) (ok_is (expr.Count, c.0) (found, us) c.2)
    (ap (λ l. N (codes "count") ∷ K k.Open ∷ l) (key_at_is k.Star ts s.0 s.1 ∙ ap (λ l. K k.Star ∷ l) (key_at_is k.Close s.0 c.0 c.1)))

-- a column in parentheses behind an aggregate's word
called : (word : List ℕ) (ts us : List Tok) (column : ColumnName) (s m : Bool) → bytes_eq word (codes "sum") ≡ s → bytes_eq word (codes "min") ≡ m → (s || (m || bytes_eq word (codes "max"))) ≡ true
    → SpellsColumn column ts (K k.Close ∷ us) → SpellsExpression (if s then expr.Sum column else (if m then expr.Min column else expr.Max column)) (N word ∷ K k.Open ∷ ts) us
called word ts us column true m sum min is inside = (ts, ap (λ w. N w ∷ K k.Open ∷ ts) (word_is word (codes "sum") sum), inside)
called word ts us column false true sum min is inside = (ts, ap (λ w. N w ∷ K k.Open ∷ ts) (word_is word (codes "min") min), inside)
called word ts us column false false sum min is inside = (ts, ap (λ w. N w ∷ K k.Open ∷ ts) (word_is word (codes "max") is), inside)

aggregated_sound : (word : List ℕ) → is_aggregate word ≡ true → (ts us : List Tok) (found : Expression) → aggregated_at word ts ≡ Ok (found, us) → SpellsExpression found (N word ∷ K k.Open ∷ ts) us
aggregated_sound word is ts us found e =
    let c = bind_ok (column_at ts) _ (found, us) e in
    let p = bind_ok (key_at k.Close c.0.1) _ (found, us) c.2 in
    subst (λ z. SpellsExpression z.0 (N word ∷ K k.Open ∷ ts) z.1) (ok_is (aggregate word c.0.0, p.0) (found, us) p.2)
    (called word ts p.0 c.0.0 (bytes_eq word (codes "sum")) (bytes_eq word (codes "min")) refl refl is
    (subst (λ l. SpellsColumn c.0.0 ts l) (key_at_is k.Close c.0.1 p.0 p.1) (column_sound ts c.0.0 c.0.1 c.1)))

call_sound : (word : List ℕ) (ts us : List Tok) (c a : Bool) → bytes_eq word (codes "count") ≡ c → is_aggregate word ≡ a → (found : Expression) (vs : List Tok)
    → (if c then counted_at us else (if a then aggregated_at word us else stuck ts)) ≡ Ok (found, vs) → SpellsExpression found (N word ∷ K k.Open ∷ us) vs
call_sound word ts us true a count is found vs e = subst (λ w. SpellsExpression found (N w ∷ K k.Open ∷ us) vs) (sym (word_is word (codes "count") count)) (counted_sound us vs found e)
call_sound word ts us false true count is found vs e = aggregated_sound word is us vs found e
call_sound word ts us false false count is found vs e = absurd cc

expression_from_sound : (word : List ℕ) (ts : List Tok) (open_behind : Option (List Tok)) → next k.Open ts ≡ open_behind → (found : Expression) (us : List Tok) → expression_from word ts open_behind ≡ Ok (found, us) → SpellsExpression found (N word ∷ ts) us
expression_from_sound word ts None is found us e =
    let c = bind_ok (column_from word ts (next k.Dot ts)) _ (found, us) e in
    subst (λ z. SpellsExpression z.0 (N word ∷ ts) z.1) (ok_is _ (found, us) c.2) (column_from_sound word ts (next k.Dot ts) refl c.0.0 c.0.1 c.1)
expression_from_sound word ts (Some vs) is found us e =
    subst (λ l. SpellsExpression found (N word ∷ l) us) (sym (next_is k.Open ts vs is)) (call_sound word ts vs (bytes_eq word (codes "count")) (is_aggregate word) refl refl found us e)

expression_sound : Sound expression_at SpellsExpression
expression_sound ts found us e =
    let w = bind_ok (name_at ts) _ (found, us) e in
    subst (λ l. SpellsExpression found l us) (sym (name_sound ts w.0.0 w.0.1 w.1)) (expression_from_sound w.0.0 w.0.1 (next k.Open w.0.1) refl found us w.2)

pub item_sound : Sound item_at SpellsItem
item_sound ts item us e =
    let x = bind_ok (expression_at ts) _ (item, us) e in
    let a = bind_ok (alias_at x.0.1) _ (item, us) x.2 in
    subst (λ z. SpellsItem z.0 ts z.1) (ok_is _ (item, us) a.2) (x.0.1, expression_sound ts x.0.0 x.0.1 x.1, alias_sound x.0.1 a.0.0 a.0.1 a.1)

items_from_sound : (ts : List Tok) (found : Option (List Tok)) → next k.Star ts ≡ found → (items : Option (List SelectItem)) (us : List Tok) → items_from ts found ≡ Ok (items, us) → SpellsItems items ts us
items_from_sound ts (Some vs) is items us e = subst (λ z. SpellsItems z.0 ts z.1) (ok_is (None, vs) (items, us) e) (next_is k.Star ts vs is)
items_from_sound ts None is items us e =
    let xs = bind_ok (listed k.Comma item_at ts) _ (items, us) e in
    subst (λ z. SpellsItems z.0 ts z.1) (ok_is _ (items, us) xs.2) (listed_sound k.Comma item_at SpellsItem item_sound ts xs.0.0 xs.0.1 xs.1)

items_sound : Sound items_at SpellsItems
items_sound ts items us e = items_from_sound ts (next k.Star ts) refl items us e

distinct_from_sound : (ts : List Tok) (found : Option (List Tok)) → next k.Distinct ts ≡ found → SpellsDistinct (distinct_from ts found).0 ts (distinct_from ts found).1
distinct_from_sound ts None is = refl
distinct_from_sound ts (Some us) is = next_is k.Distinct ts us is

source_sound : (may_end distinct : Bool) (items : Option (List SelectItem)) (ts : List Tok) (select : Select) (us : List Tok) → select_from may_end distinct items ts ≡ Ok (select, us)
    → SpellsSource select ts us × (distinct ≡ select.distinct) × (items ≡ select.items)
source_sound may_end distinct items ts select us e =
    let f = bind_ok (key_at k.From ts) _ (select, us) e in
    let r = bind_ok (reference_at may_end f.0) _ (select, us) f.2 in
    let j = bind_ok (joins_at r.0.1) _ (select, us) r.2 in
    let w = bind_ok (where_at j.0.1) _ (select, us) j.2 in
    let g = bind_ok (group_at w.0.1) _ (select, us) w.2 in
    let one = ok_is (record { distinct = distinct; items = items; first = r.0.0; joins = j.0.0; test = w.0.0; group = g.0.0 }, g.0.1) (select, us) g.2 in (
      subst (λ z. SpellsSource z.0 ts z.1) one
          (f.0, r.0.1, j.0.1, w.0.1, key_at_is k.From ts f.0 f.1, reference_sound may_end f.0 r.0.0 r.0.1 r.1, joins_sound r.0.1 j.0.0 j.0.1 j.1, where_sound j.0.1 w.0.0 w.0.1 w.1, group_sound w.0.1 g.0.0 g.0.1 g.1),
      ap (λ z. z.0.distinct) one,
      ap (λ z. z.0.items) one,
    )

select_sound : (may_end : Bool) → Sound (select_at may_end) SpellsSelect
select_sound may_end ts select us e =
    let s = bind_ok (key_at k.Select ts) _ (select, us) e in
    let d = distinct_from_sound s.0 (next k.Distinct s.0) refl in
    let i = bind_ok (items_at (distinct_at s.0).1) _ (select, us) s.2 in
    let source = source_sound may_end (distinct_at s.0).0 i.0.0 i.0.1 select us i.2 in (
      s.0,
      (distinct_at s.0).1,
      i.0.1,
      key_at_is k.Select ts s.0 s.1,
      subst (λ b. SpellsDistinct b s.0 (distinct_at s.0).1) source.1 d,
      subst (λ x. SpellsItems x (distinct_at s.0).1 i.0.1) source.2 (items_sound (distinct_at s.0).1 i.0.0 i.0.1 i.1),
      source.0,
    )

pub other_sound : (may_end : Bool) → Sound (all_select_at may_end) SpellsOther
other_sound may_end ts select us e =
    let a = bind_ok (key_at k.All ts) _ (select, us) e in
    (a.0, key_at_is k.All ts a.0 a.1, select_sound may_end a.0 select us a.2)

query_sound : (may_end : Bool) → Sound (query_at may_end) SpellsQuery
query_sound may_end ts query us e =
    let s = bind_ok (select_at may_end ts) _ (query, us) e in
    let ss = bind_ok (unions_at may_end s.0.1) _ (query, us) s.2 in
    subst (λ z. SpellsQuery z.0 ts z.1) (ok_is _ (query, us) ss.2)
    (s.0.1, select_sound may_end ts s.0.0 s.0.1 s.1, list_from_sound k.Union (all_select_at may_end) SpellsOther (other_sound may_end) s.0.1 (next k.Union s.0.1) refl ss.0.0 ss.0.1 ss.1)

-- ---- statements

time_sound : Sound time_at SpellsTime
time_sound [] n us e = absurd cc
time_sound (Number m ∷ ts) n us e =
    let w = within_is (nat_lt m times) (Number m ∷ ts) m ts n us e in
    subst (λ z. SpellsTime z.0 (Number m ∷ ts) z.1) (both_is _ _ _ _ w.1 w.2) (ltb-true m times w.0, refl)
time_sound (K key ∷ ts) n us e = absurd cc
time_sound (N name ∷ ts) n us e = absurd cc
time_sound (T text ∷ ts) n us e = absurd cc

lag_sound : (ts : List Tok) (n : ℕ) (us : List Tok) → lag_at ts ≡ Ok (n, us) → (1 ≤ n) × (n < lags) × (ts ≡ Number n ∷ us)
lag_sound [] n us e = absurd cc
lag_sound (Number m ∷ ts) n us e =
    let w = within_is (nat_le 1 m && nat_lt m lags) (Number m ∷ ts) m ts n us e in
    let b = both (nat_le 1 m) (nat_lt m lags) w.0 in
    let P : ℕ × List Tok → Type 0 = λ z. (1 ≤ z.0) × (z.0 < lags) × (Number m ∷ ts ≡ Number z.0 ∷ z.1) in
    subst P (both_is m n ts us w.1 w.2) (leb-true 1 m b.0, ltb-true m lags b.1, refl)
lag_sound (K key ∷ ts) n us e = absurd cc
lag_sound (N name ∷ ts) n us e = absurd cc
lag_sound (T text ∷ ts) n us e = absurd cc

as_of_from_sound : (ts : List Tok) (found : Option (List Tok)) → next k.As ts ≡ found → (as_of : Option ℕ) (us : List Tok) → as_of_from ts found ≡ Ok (as_of, us) → SpellsAsOf as_of ts us
as_of_from_sound ts None is as_of us e = subst (λ z. SpellsAsOf z.0 ts z.1) (ok_is (None, ts) (as_of, us) e) refl
as_of_from_sound ts (Some vs) is as_of us e =
    let o = bind_ok (key_at k.Of vs) _ (as_of, us) e in
    let n = bind_ok (time_at o.0) _ (as_of, us) o.2 in
    subst (λ z. SpellsAsOf z.0 ts z.1) (ok_is _ (as_of, us) n.2) (o.0, next_is k.As ts vs is ∙ ap (λ l. K k.As ∷ l) (key_at_is k.Of vs o.0 o.1), time_sound o.0 n.0.0 n.0.1 n.1)

type_of_is : (word : List ℕ) (ts : List Tok) (i t b : Bool) → bytes_eq word (codes "int") ≡ i → bytes_eq word (codes "text") ≡ t → bytes_eq word (codes "bool") ≡ b → (found : ColumnType)
    → (if i then Some kind.Int else (if t then Some kind.Text else (if b then Some kind.Bool else None))) ≡ Some found → SpellsType found (N word ∷ ts) ts
type_of_is word ts true t b int text bool found e = let one : kind.Int ≡ found = cc in subst (λ k. SpellsType k (N word ∷ ts) ts) one (ap (λ w. N w ∷ ts) (word_is word (codes "int") int))
type_of_is word ts false true b int text bool found e = let one : kind.Text ≡ found = cc in subst (λ k. SpellsType k (N word ∷ ts) ts) one (ap (λ w. N w ∷ ts) (word_is word (codes "text") text))
type_of_is word ts false false true int text bool found e = let one : kind.Bool ≡ found = cc in subst (λ k. SpellsType k (N word ∷ ts) ts) one (ap (λ w. N w ∷ ts) (word_is word (codes "bool") bool))
type_of_is word ts false false false int text bool found e = absurd cc

type_from_sound : (word : List ℕ) (ts vs : List Tok) (found : Option ColumnType) → type_of word ≡ found → (kind : ColumnType) (us : List Tok) → type_from ts vs found ≡ Ok (kind, us) → SpellsType kind (N word ∷ vs) us
type_from_sound word ts vs (Some k) is kind us e =
    subst (λ z. SpellsType z.0 (N word ∷ vs) z.1) (ok_is (k, vs) (kind, us) e)
    (type_of_is word vs (bytes_eq word (codes "int")) (bytes_eq word (codes "text")) (bytes_eq word (codes "bool")) refl refl refl k is)
type_from_sound word ts vs None is kind us e = absurd cc

type_sound : Sound type_at SpellsType
type_sound ts kind us e =
    let w = bind_ok (name_at ts) _ (kind, us) e in
    subst (λ l. SpellsType kind l us) (sym (name_sound ts w.0.0 w.0.1 w.1)) (type_from_sound w.0.0 ts w.0.1 (type_of w.0.0) refl kind us w.2)

pub definition_sound : Sound definition_at SpellsDefinition
definition_sound ts column us e =
    let n = bind_ok (name_at ts) _ (column, us) e in
    let t = bind_ok (type_at n.0.1) _ (column, us) n.2 in
    subst (λ z. SpellsDefinition z.0 ts z.1) (ok_is _ (column, us) t.2) (n.0.1, name_sound ts n.0.0 n.0.1 n.1, type_sound n.0.1 t.0.0 t.0.1 t.1)

create_table_sound : (ts : List Tok) (s : Statement) (us : List Tok) → create_table_at ts ≡ Ok (s, us) → SpellsStatement s (K k.Create ∷ K k.Table ∷ ts) us
create_table_sound ts s us e =
    let n = bind_ok (name_at ts) _ (s, us) e in
    let o = bind_ok (key_at k.Open n.0.1) _ (s, us) n.2 in
    let cs = bind_ok (listed k.Comma definition_at o.0) _ (s, us) o.2 in
    let c = bind_ok (key_at k.Close cs.0.1) _ (s, us) cs.2 in
    subst (λ z. SpellsStatement z.0 (K k.Create ∷ K k.Table ∷ ts) z.1) (ok_is _ (s, us) c.2) (
      o.0,
      ap (λ l. K k.Create ∷ K k.Table ∷ l) (name_sound ts n.0.0 n.0.1 n.1 ∙ ap (λ l. N n.0.0 ∷ l) (key_at_is k.Open n.0.1 o.0 o.1)),
      subst (λ l. IsListed k.Comma SpellsDefinition cs.0.0 o.0 l) (key_at_is k.Close cs.0.1 c.0 c.1) (listed_sound k.Comma definition_at SpellsDefinition definition_sound o.0 cs.0.0 cs.0.1 cs.1),
    )

create_view_sound : (ts : List Tok) (s : Statement) (us : List Tok) → create_view_at ts ≡ Ok (s, us) → SpellsStatement s (K k.Create ∷ K k.View ∷ ts) us
create_view_sound ts s us e =
    let n = bind_ok (name_at ts) _ (s, us) e in
    let a = bind_ok (key_at k.As n.0.1) _ (s, us) n.2 in
    let q = bind_ok (query_at false a.0) _ (s, us) a.2 in
    subst (λ z. SpellsStatement z.0 (K k.Create ∷ K k.View ∷ ts) z.1) (ok_is _ (s, us) q.2)
    (a.0, ap (λ l. K k.Create ∷ K k.View ∷ l) (name_sound ts n.0.0 n.0.1 n.1 ∙ ap (λ l. N n.0.0 ∷ l) (key_at_is k.As n.0.1 a.0 a.1)), query_sound false a.0 q.0.0 q.0.1 q.1)

create_index_sound : (ts : List Tok) (s : Statement) (us : List Tok) → create_index_at ts ≡ Ok (s, us) → SpellsStatement s (K k.Create ∷ K k.Index ∷ ts) us
create_index_sound ts s us e =
    let n = bind_ok (name_at ts) _ (s, us) e in
    let o = bind_ok (key_at k.On n.0.1) _ (s, us) n.2 in
    let r = bind_ok (name_at o.0) _ (s, us) o.2 in
    subst (λ z. SpellsStatement z.0 (K k.Create ∷ K k.Index ∷ ts) z.1) (ok_is _ (s, us) r.2)
    (ap (λ l. K k.Create ∷ K k.Index ∷ l) (name_sound ts n.0.0 n.0.1 n.1 ∙ ap (λ l. N n.0.0 ∷ l) (key_at_is k.On n.0.1 o.0 o.1 ∙ ap (λ l. K k.On ∷ l) (name_sound o.0 r.0.0 r.0.1 r.1))))

create_sound : (ts : List Tok) (s : Statement) (us : List Tok) → create_at ts ≡ Ok (s, us) → SpellsStatement s (K k.Create ∷ ts) us
create_sound (K k.Table ∷ ts) s us e = create_table_sound ts s us e
create_sound (K k.View ∷ ts) s us e = create_view_sound ts s us e
create_sound (K k.Index ∷ ts) s us e = create_index_sound ts s us e
create_sound ts s us e = absurd cc

drop_sound : (ts : List Tok) (s : Statement) (us : List Tok) → drop_at ts ≡ Ok (s, us) → SpellsStatement s (K k.Drop ∷ ts) us
drop_sound (K k.Table ∷ ts) s us e =
    let n = bind_ok (name_at ts) _ (s, us) e in
    subst (λ z. SpellsStatement z.0 (K k.Drop ∷ K k.Table ∷ ts) z.1) (ok_is _ (s, us) n.2) (ap (λ l. K k.Drop ∷ K k.Table ∷ l) (name_sound ts n.0.0 n.0.1 n.1))
drop_sound (K k.View ∷ ts) s us e =
    let n = bind_ok (name_at ts) _ (s, us) e in
    subst (λ z. SpellsStatement z.0 (K k.Drop ∷ K k.View ∷ ts) z.1) (ok_is _ (s, us) n.2) (ap (λ l. K k.Drop ∷ K k.View ∷ l) (name_sound ts n.0.0 n.0.1 n.1))
drop_sound (K k.Index ∷ ts) s us e =
    let n = bind_ok (name_at ts) _ (s, us) e in
    subst (λ z. SpellsStatement z.0 (K k.Drop ∷ K k.Index ∷ ts) z.1) (ok_is _ (s, us) n.2) (ap (λ l. K k.Drop ∷ K k.Index ∷ l) (name_sound ts n.0.0 n.0.1 n.1))
drop_sound ts s us e = absurd cc

pub tuple_sound : Sound tuple_at SpellsTuple
tuple_sound ts values us e =
    let o = bind_ok (key_at k.Open ts) _ (values, us) e in
    let vs = bind_ok (listed k.Comma literal_at o.0) _ (values, us) o.2 in
    let c = bind_ok (key_at k.Close vs.0.1) _ (values, us) vs.2 in
    subst (λ z. SpellsTuple z.0 ts z.1) (ok_is _ (values, us) c.2)
    (o.0, key_at_is k.Open ts o.0 o.1, subst (λ l. IsListed k.Comma SpellsLiteral vs.0.0 o.0 l) (key_at_is k.Close vs.0.1 c.0 c.1) (listed_sound k.Comma literal_at SpellsLiteral literal_sound o.0 vs.0.0 vs.0.1 vs.1))

insert_sound : (ts : List Tok) (s : Statement) (us : List Tok) → insert_at ts ≡ Ok (s, us) → SpellsStatement s (K k.Insert ∷ ts) us
insert_sound ts s us e =
    let i = bind_ok (key_at k.Into ts) _ (s, us) e in
    let n = bind_ok (name_at i.0) _ (s, us) i.2 in
    let v = bind_ok (key_at k.Values n.0.1) _ (s, us) n.2 in
    let rs = bind_ok (listed k.Comma tuple_at v.0) _ (s, us) v.2 in
    subst (λ z. SpellsStatement z.0 (K k.Insert ∷ ts) z.1) (ok_is _ (s, us) rs.2) (
      v.0,
      ap (λ l. K k.Insert ∷ l) (key_at_is k.Into ts i.0 i.1 ∙ ap (λ l. K k.Into ∷ l) (name_sound i.0 n.0.0 n.0.1 n.1 ∙ ap (λ l. N n.0.0 ∷ l) (key_at_is k.Values n.0.1 v.0 v.1))),
      listed_sound k.Comma tuple_at SpellsTuple tuple_sound v.0 rs.0.0 rs.0.1 rs.1,
    )

delete_sound : (ts : List Tok) (s : Statement) (us : List Tok) → delete_at ts ≡ Ok (s, us) → SpellsStatement s (K k.Delete ∷ ts) us
delete_sound ts s us e =
    let f = bind_ok (key_at k.From ts) _ (s, us) e in
    let n = bind_ok (name_at f.0) _ (s, us) f.2 in
    let w = bind_ok (where_at n.0.1) _ (s, us) n.2 in
    subst (λ z. SpellsStatement z.0 (K k.Delete ∷ ts) z.1) (ok_is _ (s, us) w.2)
    (n.0.1, ap (λ l. K k.Delete ∷ l) (key_at_is k.From ts f.0 f.1 ∙ ap (λ l. K k.From ∷ l) (name_sound f.0 n.0.0 n.0.1 n.1)), where_sound n.0.1 w.0.0 w.0.1 w.1)

show_word : (word : List ℕ) (ts vs : List Tok) (b : Bool) → bytes_eq word (codes "frontiers") ≡ b → (s : Statement) (us : List Tok) → show_from ts vs b ≡ Ok (s, us) → SpellsStatement s (K k.Show ∷ N word ∷ vs) us
show_word word ts vs true is s us e = subst (λ z. SpellsStatement z.0 (K k.Show ∷ N word ∷ vs) z.1) (ok_is (statement.ShowFrontiers, vs) (s, us) e) (ap (λ w. K k.Show ∷ N w ∷ vs) (word_is word (codes "frontiers") is))
show_word word ts vs false is s us e = absurd cc

show_sound : (ts : List Tok) (s : Statement) (us : List Tok) → show_at ts ≡ Ok (s, us) → SpellsStatement s (K k.Show ∷ ts) us
show_sound ts s us e =
    let w = bind_ok (name_at ts) _ (s, us) e in
    subst (λ l. SpellsStatement s (K k.Show ∷ l) us) (sym (name_sound ts w.0.0 w.0.1 w.1)) (show_word w.0.0 ts w.0.1 (bytes_eq w.0.0 (codes "frontiers")) refl s us w.2)

keep_word_sound : (word : List ℕ) (ts vs : List Tok) (l s : Bool) → bytes_eq word (codes "lag") ≡ l → bytes_eq word (codes "stay") ≡ s → (keep : Keep) (us : List Tok)
    → keep_named ts vs l s ≡ Ok (keep, us) → SpellsKeep keep (N word ∷ vs) us
keep_word_sound word ts vs true s lag stay keep us e =
    let n = bind_ok (lag_at vs) _ (keep, us) e in
    let is = lag_sound vs n.0.0 n.0.1 n.1 in
    subst (λ z. SpellsKeep z.0 (N word ∷ vs) z.1) (ok_is (keeps.Lag n.0.0, n.0.1) (keep, us) n.2) (is.0, is.1, ap (λ w. N w ∷ vs) (word_is word (codes "lag") lag) ∙ ap (λ l. N (codes "lag") ∷ l) is.2)
keep_word_sound word ts vs false true lag stay keep us e = subst (λ z. SpellsKeep z.0 (N word ∷ vs) z.1) (ok_is (keeps.Stay, vs) (keep, us) e) (ap (λ w. N w ∷ vs) (word_is word (codes "stay") stay))
keep_word_sound word ts vs false false lag stay keep us e = absurd cc

keep_from_sound : (ts : List Tok) (found : Option (List Tok)) → next k.From ts ≡ found → (keep : Keep) (us : List Tok) → keep_from ts found ≡ Ok (keep, us) → SpellsKeep keep ts us
keep_from_sound ts (Some vs) is keep us e =
    let n = bind_ok (time_at vs) _ (keep, us) e in
    subst (λ z. SpellsKeep z.0 ts z.1) (ok_is _ (keep, us) n.2) (vs, next_is k.From ts vs is, time_sound vs n.0.0 n.0.1 n.1)
keep_from_sound ts None is keep us e =
    let w = bind_ok (name_at ts) _ (keep, us) e in
    subst (λ l. SpellsKeep keep l us) (sym (name_sound ts w.0.0 w.0.1 w.1)) (keep_word_sound w.0.0 ts w.0.1 (bytes_eq w.0.0 (codes "lag")) (bytes_eq w.0.0 (codes "stay")) refl refl keep us w.2)

retain_sound : (ts : List Tok) (s : Statement) (us : List Tok) → retain_at ts ≡ Ok (s, us) → SpellsStatement s (K k.Retain ∷ ts) us
retain_sound ts s us e =
    let n = bind_ok (name_at ts) _ (s, us) e in
    let p = bind_ok (keep_at n.0.1) _ (s, us) n.2 in
    subst (λ z. SpellsStatement z.0 (K k.Retain ∷ ts) z.1) (ok_is _ (s, us) p.2)
    (n.0.1, ap (λ l. K k.Retain ∷ l) (name_sound ts n.0.0 n.0.1 n.1), keep_from_sound n.0.1 (next k.From n.0.1) refl p.0.0 p.0.1 p.1)

top_query_sound : Sound top_query_at SpellsStatement
top_query_sound ts s us e =
    let q = bind_ok (query_at true ts) _ (s, us) e in
    let n = bind_ok (as_of_at q.0.1) _ (s, us) q.2 in
    subst (λ z. SpellsStatement z.0 ts z.1) (ok_is _ (s, us) n.2) (q.0.1, query_sound true ts q.0.0 q.0.1 q.1, as_of_from_sound q.0.1 (next k.As q.0.1) refl n.0.0 n.0.1 n.1)

statement_sound : Sound statement_at SpellsStatement
statement_sound (K k.Create ∷ ts) s us e = create_sound ts s us e
statement_sound (K k.Drop ∷ ts) s us e = drop_sound ts s us e
statement_sound (K k.Insert ∷ ts) s us e = insert_sound ts s us e
statement_sound (K k.Delete ∷ ts) s us e = delete_sound ts s us e
statement_sound (K k.Begin ∷ ts) s us e = subst (λ z. SpellsStatement z.0 (K k.Begin ∷ ts) z.1) (ok_is (statement.Start, ts) (s, us) e) refl
statement_sound (K k.Commit ∷ ts) s us e = subst (λ z. SpellsStatement z.0 (K k.Commit ∷ ts) z.1) (ok_is (statement.Commit, ts) (s, us) e) refl
statement_sound (K k.Show ∷ ts) s us e = show_sound ts s us e
statement_sound (K k.Retain ∷ ts) s us e = retain_sound ts s us e
statement_sound ts s us e = top_query_sound ts s us e

nothing_sound : (ts : List Tok) (s one : Statement) → nothing_behind s ts ≡ Ok one → (s ≡ one) × (ts ≡ [])
nothing_sound [] s one e = (ok_is s one e, refl)
nothing_sound (tok ∷ ts) s one e = absurd cc

ended_sound : (ts us : List Tok) (found : Option (List Tok)) → next k.Semicolon us ≡ found → (s : Statement) → SpellsStatement s ts us → past_semicolon us found ≡ [] → Spells ts s
ended_sound ts us None is s spelled none = inl (subst (λ l. SpellsStatement s ts l) none spelled)
ended_sound ts us (Some vs) is s spelled none = inr (subst (λ l. SpellsStatement s ts l) (next_is k.Semicolon us vs is ∙ ap (λ l. K k.Semicolon ∷ l) none) spelled)

-- what is read whole is spelled so
pub whole_sound : (ts : List Tok) (s : Statement) → whole_at ts ≡ Ok s → Spells ts s
whole_sound ts s e =
    let x = bind_ok (statement_at ts) _ s e in
    let n = nothing_sound (past_semicolon x.0.1 (next k.Semicolon x.0.1)) x.0.0 s x.2 in
    subst (λ z. Spells ts z) n.0 (ended_sound ts x.0.1 (next k.Semicolon x.0.1) refl x.0.0 (statement_sound ts x.0.0 x.0.1 x.1) n.1)
