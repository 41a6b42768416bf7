-- What a name of a scope stands for reads at most as many tables as it names.
use Rattle.std.proofs.Common.{◌≡◌, ◌∙◌, ◌<◌, ◌≤◌, ◌==◌, ◌&&◌, ◌++◌, refl, sym, subst, ap, ℕ, suc, IsTrue, cond, List, [], ◌∷◌, Result, Ok, Err, Option, None, Some, bytes_eq, reverse, arith}
use Rattle.std.specs.Prelude.{IfOk, find, option_map, ⊤}
use Rattle.std.specs.List.{AllByRecursion as Each}
use Rattle.std.proofs.lemmas.Bool.{and_parts, eqb-true, eq-eqb, ne_eqb}
use Rattle.std.proofs.lemmas.List.{reverse-append}
use Rattle.std.proofs.lemmas.List.Elements.{All-contains, All-from_recursion, recursion_from_All}
use Rattle.mz_statement.specs.declared.column.Column.{Column}
use Rattle.mz_statement.specs.declared.query.Select.{Select}
use Rattle.mz_plan.specs.Small.{index_reads, tables_read, most_tables}
use Rattle.mz_plan.specs.declared.item.Item.{Item}
use Rattle.mz_plan.specs.declared.item.ItemKind.{ItemKind}
use Rattle.mz_plan.specs.declared.item.ItemKind.TheVariants.{Table, View, Index}
use Rattle.mz_plan.specs.declared.plan.Plan.{Plan}
use Rattle.mz_plan.specs.declared.plan.Plan.TheVariants as leaf
use Rattle.mz_refusal.specs.declared.refusal.Refusal.{Refusal}
use Rattle.mz_plan.specs.declared.scope.Scope.{Scope}
use Rattle.mz_plan.specs.Items.{Ascend, is_on, oldest_index, query_of}
use Rattle.mz_resolution.specs.declared.relation.NamedRelation.{NamedRelation}
use Rattle.mz_resolution.specs.Queries.{queried}
use Rattle.mz_resolution.specs.Resolution.{item_relation, leaf_or, named, newest_first, query_in, relation_of, without_number}
use Rattle.mz_resolution.specs.Steps.{Step, ◌>>=◌}
use Rattle.mz_resolve_laws.specs.Sound.{names_among}
use Rattle.mz_resolve_laws.specs.SoundOver.{IsMade, IsSoundOver, Made, tables_found, tables_of_item}
use Rattle.mz_resolve_laws.proofs.NameTypes.{pairs_tail}
use Rattle.mz_resolve_laws.proofs.QueryTables.{IsFew, IsNarrow, NamesFew, queried_few}
use Rattle.mz_resolve_laws.proofs.ScopeLeaves.{all_there, found_passes}
use Rattle.mz_resolve_laws.proofs.StepTools.{choice_ok, then_ok}
use Rattle.mz_resolve_laws.proofs.TypePlaces.{each_append}

-- ---- the newest first

-- what holds of each holds of each from the back
pub each_reverse : {X : Type 0} (P : X → Type 0) (xs : List X) → Each P xs → Each P (reverse xs)
each_reverse P [] h = tt
each_reverse P (x ∷ xs) h =
    subst (Each P) (sym (reverse-append (x ∷ []) xs)) (each_append P (reverse xs) (x ∷ []) (each_reverse P xs h.1) (h.0, tt))

-- each item has a number above those behind it
abbrev pub Descends : List Item → Type 0
Descends [] = ⊤
Descends (item ∷ older) = Each (λ other. other.id < item.id) older × Descends older

-- with one item more at the end, whose number is the least
descends_push : (items : List Item) (item : Item) → Descends items → Each (λ other. item.id < other.id) items
    → Descends (items ++ item ∷ [])
descends_push [] item h k = (tt, tt)
descends_push (first ∷ items) item h k =
    (each_append (λ other. other.id < first.id) items (item ∷ []) h.0 (k.0, tt), descends_push items item h.1 k.1)

-- items in order of their numbers, from the back
pub descends_reverse : (items : List Item) → Ascend items → Descends (reverse items)
descends_reverse [] up = tt
descends_reverse (item ∷ items) up =
    subst Descends (sym (reverse-append (item ∷ []) items)) (descends_push (reverse items) item
    (descends_reverse items (pairs_tail (λ earlier later. earlier.id < later.id) item items up))
    (each_reverse (λ other. item.id < other.id) items
    (recursion_from_All (λ other. item.id < other.id) items (λ k d within. up 0 (suc k) d (omega arith) (omega arith)))))

-- ---- the tables of an item

-- the first item's
pub tables_here : (scope : Scope) (item : Item) (older : List Item)
    → tables_of_item scope (item ∷ older) item.id ≡ tables_found (item_relation scope (names_among scope older) item item.kind)
tables_here scope item older =
    ap (λ c. cond c (tables_found (item_relation scope (names_among scope older) item item.kind)) (tables_of_item scope older item.id))
    (eq-eqb item.id item.id refl)

-- those of another number
pub tables_behind : (scope : Scope) (item : Item) (older : List Item) (number : ℕ) → number < item.id
    → tables_of_item scope (item ∷ older) number ≡ tables_of_item scope older number
tables_behind scope item older number less =
    ap (λ c. cond c (tables_found (item_relation scope (names_among scope older) item item.kind)) (tables_of_item scope older number))
    (ne_eqb item.id number (λ e. omega (arith, e, less)))

-- the items of a part of all have the same tables there
abbrev pub AreCounted : Scope → List Item → List Item → Type 0
AreCounted scope all items = Each (λ item. tables_of_item scope all item.id ≡ tables_of_item scope items item.id) items

-- the older ones too
counted_behind : (scope : Scope) (all : List Item) (item : Item) (older some : List Item)
    → Each (λ other. other.id < item.id) some
    → Each (λ other. tables_of_item scope all other.id ≡ tables_of_item scope (item ∷ older) other.id) some
    → Each (λ other. tables_of_item scope all other.id ≡ tables_of_item scope older other.id) some
counted_behind scope all item older [] less h = tt
counted_behind scope all item older (other ∷ some) less h =
    (h.0 ∙ tables_behind scope item older other.id less.0, counted_behind scope all item older some less.1 h.1)

-- all of all
counted_all : (scope : Scope) (all items : List Item)
    → Each (λ item. tables_of_item scope all item.id ≡ tables_of_item scope all item.id) items
counted_all scope all [] = tt
counted_all scope all (item ∷ items) = (refl, counted_all scope all items)

-- ---- what a name stands for

-- an index on an item reads at most as many tables as the item names
on_few : (plans : Made) (scope : Scope) (item number : ℕ) (kind : ItemKind) → IsTrue (is_on item kind) → IsMade plans scope number kind
    → index_reads plans number ≤ tables_of_item scope (newest_first scope) item
on_few plans scope item number (Table columns) on h = absurd cc
on_few plans scope item number (View columns query) on h = absurd cc
on_few plans scope item number (Index below plan) on h =
    subst (λ n. index_reads plans number ≤ tables_of_item scope (newest_first scope) n) (eqb-true below item on) h.few

-- the plan of an item, where that below reads few tables
leaf_few : (plans : Made) (scope : Scope) → IsSoundOver plans scope → (item : ℕ) (below : Plan)
    → tables_read (index_reads plans) below ≤ tables_of_item scope (newest_first scope) item
    → tables_read (index_reads plans) (leaf_or (oldest_index scope.items scope.cluster item) below)
    ≤ tables_of_item scope (newest_first scope) item
leaf_few plans scope sound item below h =
    by (find (λ other. other.cluster == scope.cluster && is_on item other.kind) scope.items) refl
  where
    by : (found : Option Item) → find (λ other. other.cluster == scope.cluster && is_on item other.kind) scope.items ≡ found
        → tables_read (index_reads plans) (leaf_or (option_map (λ other. other.id) found) below)
        ≤ tables_of_item scope (newest_first scope) item
    by None e = h
    by (Some other) e =
        let fits = found_passes scope.items (λ x. x.cluster == scope.cluster && is_on item x.kind) scope.items
        (all_there scope) other e in
        let on = and_parts (other.cluster == scope.cluster) (is_on item other.kind) fits.1 in
        on_few plans scope item other.id other.kind on.1 (All-contains (λ x. IsMade plans scope x.id x.kind) scope.items other
        (All-from_recursion (λ x. IsMade plans scope x.id x.kind) scope.items sound.indexes) fits.0)

-- what is found reads few tables, names at most four, and as many as its item
pub record IsNamedNarrow (plans : Made) (scope : Scope) (found : NamedRelation) : Type 0 where
  pub narrow : IsNarrow (index_reads plans) found.relation
  pub counted : tables_of_item scope (newest_first scope) found.item ≡ found.relation.tables

-- the relation of an item
relation_few : (plans : Made) (scope : Scope) → IsSoundOver plans scope → (item : ℕ) (columns : List Column) (below : Plan) (tables : ℕ)
    → tables_read (index_reads plans) below ≤ tables → tables ≤ most_tables → tables_of_item scope (newest_first scope) item ≡ tables
    → IsNamedNarrow plans scope (relation_of scope item columns below tables)
relation_few plans scope sound item columns below tables few most counted = record {
  narrow = record {
    few = subst (λ n. tables_read (index_reads plans) (leaf_or (oldest_index scope.items scope.cluster item) below) ≤ n) counted
        (leaf_few plans scope sound item below (omega (arith, few, counted)));
    most = most;
  };
  counted = counted;
}

-- a step, and the one behind it with what is known of both
known_then_ok : {A B : Type 0} (r : Result A Refusal) (next : A → Step B) (P : A → Type 0) (Q : B → Type 0) → IfOk r P
    → ((x : A) → r ≡ Ok x → P x → IfOk (next x) Q) → IfOk (r >>= next) Q
known_then_ok (Ok x) next P Q h k = k x refl h
known_then_ok (Err refusal) next P Q h k = tt

-- an item
item_few : (plans : Made) (scope : Scope) → IsSoundOver plans scope → (older : List Item)
    → NamesFew (index_reads plans) (names_among scope older) → (item : Item) (kind : ItemKind)
    → tables_of_item scope (newest_first scope) item.id ≡ tables_found (item_relation scope (names_among scope older) item kind)
    → IfOk (item_relation scope (names_among scope older) item kind) (IsNamedNarrow plans scope)
item_few plans scope sound older names item (Table columns) counted =
    relation_few plans scope sound item.id columns (leaf.Table item.id) 1 (omega arith) (omega arith) counted
item_few plans scope sound older names item (View columns query) counted =
    known_then_ok (queried (names_among scope older) (query_of query)) _ (IsNarrow (index_reads plans)) (IsNamedNarrow plans scope)
    (queried_few (index_reads plans) (names_among scope older) names (query_of query)) (λ below given narrow.
    relation_few plans scope sound item.id columns below.plan below.tables narrow.few narrow.most (counted
    ∙ ap (λ r. tables_found (r >>= λ relation. Ok (relation_of scope item.id columns relation.plan relation.tables))) given))
item_few plans scope sound older names item (Index on below) counted = tt

-- without its number
without_few : (plans : Made) (scope : Scope) (step : Result NamedRelation Refusal) → IfOk step (IsNamedNarrow plans scope)
    → IfOk (without_number step) (IsFew (index_reads plans))
without_few plans scope step h =
    then_ok step _ (IsNamedNarrow plans scope) (IsFew (index_reads plans)) h (λ found narrow. narrow.narrow.few)

-- a name among items
named_few : (plans : Made) (scope : Scope) → IsSoundOver plans scope → (items : List Item) → Descends items
    → AreCounted scope (newest_first scope) items → (name : List ℕ) → IfOk (named scope items name) (IsNamedNarrow plans scope)
named_few plans scope sound [] down counted name = tt
named_few plans scope sound (item ∷ older) down counted name =
    choice_ok (bytes_eq name item.name) _ _ (IsNamedNarrow plans scope)
    (λ _. item_few plans scope sound older (λ word. without_few plans scope (named scope older word)
    (named_few plans scope sound older down.1 later word)) item item.kind (counted.0 ∙ tables_here scope item older))
    (λ _. named_few plans scope sound older down.1 later name)
  where
    later : AreCounted scope (newest_first scope) older
    later = counted_behind scope (newest_first scope) item older older down.0 counted.1

-- a name of a scope
pub name_few : (plans : Made) (scope : Scope) → IsSoundOver plans scope → (name : List ℕ)
    → IfOk (named scope (newest_first scope) name) (IsNamedNarrow plans scope)
name_few plans scope sound name =
    named_few plans scope sound (newest_first scope) (descends_reverse scope.items sound.sound.numbers)
    (counted_all scope (newest_first scope) (newest_first scope)) name

-- a query
pub query_few : (plans : Made) (scope : Scope) → IsSoundOver plans scope → (query : List Select)
    → IfOk (query_in scope query) (IsNarrow (index_reads plans))
query_few plans scope sound query =
    queried_few (index_reads plans) (names_among scope (newest_first scope))
    (λ word. without_few plans scope (named scope (newest_first scope) word) (name_few plans scope sound word)) query
