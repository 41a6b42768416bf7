-- The faults of the readers of selects and queries are exact.
use Rattle.std.proofs.Common.{◌≡◌, ℕ, Bool, true, false, List, [], ◌∷◌, Option, Some, None, Ok, refl, sym, ap, subst, ◌∙◌, arith, if◌then◌else◌}
use Rattle.std.specs.Prelude.{codes, bytes_eq}
use Rattle.mz_statement.specs.declared.item.Expression.TheVariants as expr
use Rattle.mz_statement.specs.declared.item.SelectItem.{SelectItem}
use Rattle.mz_statement.specs.declared.query.Select.{Select}
use Rattle.mz_statement.specs.declared.reference.Reference.{Reference}
use Rattle.mz_grammar.specs.declared.key.Key.TheVariants as k
use Rattle.mz_grammar.specs.declared.token.Tok.{Tok}
use Rattle.mz_grammar.specs.declared.token.Tok.TheVariants.{Key as K, Name as N, Number, Text as T}
use Rattle.mz_grammar.specs.Token.{next}
use Rattle.mz_grammar.specs.Grammar.{SpellsItem, SpellsPair, SpellsJoin, SpellsOther}
use Rattle.mz_parse.proofs.Shorter.{item_shrinks, pair_shrinks, join_shrinks, other_shrinks}
use Rattle.mz_parse.proofs.Sound.{item_sound, pair_sound, join_sound, other_sound}
use Rattle.mz_parse.specs.Reading.{◌>>=◌, Read, stuck, listed, name_at, alias_from, alias_at, follows, begins_as_of, column_from, column_at, reference_from, reference_at, pair_at, join_at, list_from, joins_at, grouped_at, group_at, where_at, is_aggregate, aggregate, counted_at, aggregated_at, expression_from, expression_at, item_at, items_from, items_at, distinct_from, select_from, select_at, all_select_at, unions_at, query_at}
use Rattle.mz_parse.proofs.Exact.{Rest, past, Alive, Exact, EndsAsOf, AllGood, Then, Passes, Step, goes, refused, Chooses, choice_passes, exact_by, empty_fails, is_key, next_none, then_ends, then_passes, passes_any, value_passes, name_passes, key_then, optional_passes, barred_passes, StopsAsOf, Lists, listed_passes, list_passes}
use Rattle.mz_parse.proofs.ExactConditions.{shortens, alias_passes, column_from_passes, column_passes, columns_list, where_passes}

-- ---- references, joins and groups

-- where no AS stands there is no alias
alias_absent : (name : List ℕ) (tok : Tok) (ts : List Tok) → is_key k.As tok ≡ false
    → reference_from name (tok ∷ ts) (begins_as_of (tok ∷ ts)) ≡ Ok (record { name = name; alias = None }, tok ∷ ts)
alias_absent name tok ts differs =
    let none = next_none k.As tok ts differs in
    ap (λ found. reference_from name (tok ∷ ts) (follows k.Of found)) none
    ∙ ap (λ found. alias_from (tok ∷ ts) found >>= λ a. Ok (record { name = name; alias = a.0 }, a.1)) none

-- behind the first AS
as_step : (most : ℕ) (name : List ℕ) (go : Reference → Rest) → AllGood true most go → (tok : Tok)
    → Step most most (past (K k.As) (Then (λ ts. reference_from name ts (begins_as_of ts)) go)) tok
as_step most name go good (N alias) = goes (good _).exact
as_step most name go good (K k.Of) =
    let (timed, exact, is) = (good (record { name = name; alias = None })).ends in
    goes (subst (Exact most) (λ i ts. sym (is ts) i) exact)
as_step most name go good (K key) = refused (λ ts. refl)
as_step most name go good (Number n) = refused (λ m ts. refl)
as_step most name go good (T text) = refused (λ other ts. refl)

-- an alias, where the query may end
top_alias_passes : (name : List ℕ) → Passes true true (λ ts. reference_from name ts (begins_as_of ts))
top_alias_passes name = record {
  on = λ most go good.
      let all = Then (λ ts. reference_from name ts (begins_as_of ts)) go in
      let behind = past (K k.As) all in
      let none = go (record { name = name; alias = None }) in
      let (ts, plain, s, e) = (good (record { name = name; alias = Some [] })).live in
      let on : Alive behind = (N [] ∷ ts, s, e) in
      let exact = exact_by most most (omega arith) behind on (empty_fails behind on refl most) (as_step most name go good) in
      let chooses : Chooses k.As all behind none = record {
        empty = refl;
        found = refl;
        other = λ tok differs i ts. alias_absent name tok ts differs i >>= λ x. go x.0 x.1;
      } in
      choice_passes k.As refl most all behind none chooses exact (good _).exact (good _).live;
}

-- name [AS name]
reference_passes : (may_end : Bool) → Passes true may_end (reference_at may_end)
reference_passes false = then_passes name_at _ name_passes (λ n. then_passes alias_at _ alias_passes (λ a. value_passes _))
reference_passes true = then_passes name_at _ name_passes top_alias_passes

-- column = column
pair_passes : Passes true false pair_at
pair_passes = then_passes column_at _ column_passes (λ l. key_then k.Equal _ (then_passes column_at _ column_passes (λ r. value_passes _)))

-- pairs in a list
pairs_list : Lists true false k.And pair_at
pairs_list = record { optional = refl; stops = tt; short = shortens pair_at SpellsPair pair_sound pair_shrinks; passes = pair_passes }

-- what stands behind JOIN
join_passes : Passes true false join_at
join_passes =
    then_passes (reference_at false) _ (reference_passes false)
    (λ r. key_then k.On _ (then_passes (listed k.And pair_at) _ (listed_passes pairs_list) (λ ps. value_passes _)))

-- joins in a list
joins_list : Lists true false k.Join join_at
joins_list = record { optional = refl; stops = tt; short = shortens join_at SpellsJoin join_sound join_shrinks; passes = join_passes }

-- joins
joins_passes : Passes true false joins_at
joins_passes = list_passes joins_list

-- [GROUP BY columns]
group_passes : Passes true false group_at
group_passes =
    optional_passes k.Group refl (list_from grouped_at) grouped_at (λ ts. refl)
    (key_then k.By (listed k.Comma column_at) (listed_passes columns_list)) (value_passes [])

-- ---- items

-- a star, in the parentheses of COUNT
counted_passes : Passes false false counted_at
counted_passes = key_then k.Star _ (key_then k.Close _ (value_passes expr.Count))

-- a column, in the parentheses of another aggregate
aggregated_passes : (word : List ℕ) → Passes true false (aggregated_at word)
aggregated_passes word = then_passes column_at _ column_passes (λ c. key_then k.Close _ (value_passes (aggregate word c)))

-- a word without a parenthesis
plain_word_passes : (word : List ℕ) → Passes true false (λ ts. expression_from word ts None)
plain_word_passes word =
    then_passes (λ ts. column_from word ts (next k.Dot ts)) _ (column_from_passes word) (λ c. value_passes (expr.Column c))

-- a word with a parenthesis is COUNT, another aggregate, or none
word_passes : (word : List ℕ) (counts others : Bool) → bytes_eq word (codes "count") ≡ counts → is_aggregate word ≡ others
    → Passes true false (λ ts. expression_from word ts (next k.Open ts))
word_passes word true others is also =
    optional_passes k.Open refl (expression_from word) counted_at
    (λ ts i. if is i then counted_at ts else (if is_aggregate word then aggregated_at word ts else stuck (K k.Open ∷ ts)))
    counted_passes (plain_word_passes word)
word_passes word false true is also =
    optional_passes k.Open refl (expression_from word) (aggregated_at word)
    (λ ts i. if is i then counted_at ts else (if also i then aggregated_at word ts else stuck (K k.Open ∷ ts)))
    (aggregated_passes word) (plain_word_passes word)
word_passes word false false is also =
    barred_passes k.Open refl (expression_from word)
    (λ ts i. if is i then counted_at ts else (if also i then aggregated_at word ts else stuck (K k.Open ∷ ts))) (plain_word_passes word)

-- an expression
expression_passes : Passes true false expression_at
expression_passes =
    then_passes name_at _ name_passes (λ word. word_passes word (bytes_eq word (codes "count")) (is_aggregate word) refl refl)

-- an item
item_passes : Passes true false item_at
item_passes = then_passes expression_at _ expression_passes (λ e. then_passes alias_at _ alias_passes (λ a. value_passes _))

-- items in a list
items_list : Lists true false k.Comma item_at
items_list = record { optional = refl; stops = tt; short = shortens item_at SpellsItem item_sound item_shrinks; passes = item_passes }

-- a star, or items
items_passes : Passes true false items_at
items_passes =
    optional_passes k.Star refl items_from (λ ts. Ok (None, ts)) (λ ts. refl) (value_passes None)
    (then_passes (listed k.Comma item_at) _ (listed_passes items_list) (λ is. value_passes (Some is)))

-- ---- selects

-- what stands behind a select's first relation
abbrev tail_at : Bool → Option (List SelectItem) → Reference → List Tok → Read Select
tail_at distinct items first ts =
    joins_at ts >>= λ j. where_at j.1 >>= λ w. group_at w.1 >>= λ g.
    Ok (record { distinct = distinct; items = items; first = first; joins = j.0; test = w.0; group = g.0 }, g.1)

-- joins, WHERE and GROUP BY
tail_passes : (distinct : Bool) (items : Option (List SelectItem)) (first : Reference) → Passes true false (tail_at distinct items first)
tail_passes distinct items first =
    then_passes joins_at _ joins_passes
    (λ j. then_passes where_at _ where_passes (λ w. then_passes group_at _ group_passes (λ g. value_passes _)))

-- AS OF is no part of it
tail_ends : (may_end distinct : Bool) (items : Option (List SelectItem)) (first : Reference) (most : ℕ) (go : Select → Rest)
    → AllGood may_end most go → EndsAsOf may_end most (Then (tail_at distinct items first) go)
tail_ends false distinct items first most go good = tt
tail_ends true distinct items first most go good =
    (good (record { distinct = distinct; items = items; first = first; joins = []; test = None; group = [] })).ends

-- FROM, and what stands behind it
source_passes : (may_end distinct : Bool) (items : Option (List SelectItem)) → Passes true may_end (select_from may_end distinct items)
source_passes may_end distinct items =
    key_then k.From _ (then_ends (reference_at may_end) _ (reference_passes may_end) (λ r. passes_any (tail_passes distinct items r))
    (tail_ends may_end distinct items))

-- items, and what stands behind them
listed_source_passes : (may_end distinct : Bool) → Passes true may_end (λ ts. items_at ts >>= λ i. select_from may_end distinct i.0 i.1)
listed_source_passes may_end distinct = then_passes items_at _ items_passes (source_passes may_end distinct)

-- a select
pub select_passes : (may_end : Bool) → Passes true may_end (select_at may_end)
select_passes may_end =
    key_then k.Select _ (optional_passes k.Distinct refl
    (λ ts found. items_at (distinct_from ts found).1 >>= λ i. select_from may_end (distinct_from ts found).0 i.0 i.1)
    (λ ts. items_at ts >>= λ i. select_from may_end true i.0 i.1) (λ ts. refl)
    (listed_source_passes may_end true) (listed_source_passes may_end false))

-- ALL and a select
all_select_passes : (may_end : Bool) → Passes true may_end (all_select_at may_end)
all_select_passes may_end = key_then k.All (select_at may_end) (select_passes may_end)

-- AS is no UNION
union_stops : (may_end : Bool) → StopsAsOf may_end k.Union
union_stops false = tt
union_stops true = refl

-- selects in a list
others_list : (may_end : Bool) → Lists true may_end k.Union (all_select_at may_end)
others_list may_end = record {
  optional = refl;
  stops = union_stops may_end;
  short = shortens (all_select_at may_end) SpellsOther (other_sound may_end) other_shrinks;
  passes = all_select_passes may_end;
}

-- selects with UNION ALL before each
unions_passes : (may_end : Bool) → Passes true may_end (unions_at may_end)
unions_passes may_end = list_passes (others_list may_end)

-- the selects behind the first
more_passes : (may_end : Bool) (first : Select)
    → Passes true may_end (λ ts. unions_at may_end ts >>= λ others. Ok (first ∷ others.0, others.1))
more_passes may_end first =
    then_ends (unions_at may_end) _ (unions_passes may_end) (λ others. value_passes (first ∷ others))
    (λ others most go good. (good (first ∷ others)).ends)

-- AS OF is no part of them
more_ends : (may_end : Bool) (first : Select) (most : ℕ) (go : List Select → Rest) → AllGood may_end most go
    → EndsAsOf may_end most (Then (λ ts. unions_at may_end ts >>= λ others. Ok (first ∷ others.0, others.1)) go)
more_ends false first most go good = tt
more_ends true first most go good = (good (first ∷ [])).ends

-- a query
pub query_passes : (may_end : Bool) → Passes true may_end (query_at may_end)
query_passes may_end = then_ends (select_at may_end) _ (select_passes may_end) (more_passes may_end) (more_ends may_end)
