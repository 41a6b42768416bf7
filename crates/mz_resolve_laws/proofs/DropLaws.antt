-- A scope stays sound without an item on which none depends.
use Rattle.std.proofs.Common.{◌≡◌, ◌∙◌, ◌<◌, ◌==◌, ◌||◌, refl, sym, subst, ap, ℕ, Bool, true, false, cond, not, List, [], ◌∷◌, ◌++◌, Some, bytes_eq, filter, map, reverse, inl, inr}
use Rattle.std.specs.Prelude.{Contains, find, ◌⊎◌}
use Rattle.std.specs.List.{AllByRecursion as Each, list_any}
use Rattle.std.specs.Option.{option_map_or}
use Rattle.std.proofs.lemmas.Bool.{eqb-true}
use Rattle.std.proofs.lemmas.List.{append-nil, reverse-append}
use Rattle.std.proofs.lemmas.List.Elements.{All-contains, All-from_recursion, filter-append}
use Rattle.std.proofs.lemmas.List.Kept.{AllPairs-filter}
use Rattle.mz_statement.specs.declared.query.Select.{Select}
use Rattle.mz_statement.specs.declared.reference.Join.{Join}
use Rattle.mz_plan.specs.declared.item.Item.{Item}
use Rattle.mz_plan.specs.declared.item.ItemKind.{ItemKind}
use Rattle.mz_plan.specs.declared.item.ItemKind.TheVariants.{Table, View, Index}
use Rattle.mz_plan.specs.declared.scope.Scope.{Scope}
use Rattle.mz_plan.specs.Items.{Ascend, numbered, depends, dependents, dependents_on, names, references, is_index, query_of}
use Rattle.mz_resolution.specs.Resolution.{newest_first}
use Rattle.mz_resolve_laws.specs.Growth.{without_item}
use Rattle.mz_resolve_laws.specs.Sound.{IsSound, ViewsFit}
use Rattle.mz_resolve_laws.proofs.Follows.{JoinsRead, Reads}
use Rattle.mz_resolve_laws.proofs.NamesFollow.{KindReads, Stays, views_stay}
use Rattle.mz_resolve_laws.proofs.NameTypes.{by_number}
use Rattle.mz_resolve_laws.proofs.ScopeLeaves.{newest_there}

-- ---- lists

-- neither of two tests passes
or_neither : (a b : Bool) → (a || b) ≡ false → (a ≡ false) × (b ≡ false)
or_neither true b h = absurd cc
or_neither false b h = (refl, h)

-- what a filter leaves nothing of
filter_none : {X : Type 0} (test : X → Bool) (xs : List X) → filter test xs ≡ [] → Each (λ x. test x ≡ false) xs
filter_none test [] h = tt
filter_none test (x ∷ xs) h = by (test x) refl h (filter_none test xs)
  where
    by : (c : Bool) → test x ≡ c → cond c (x ∷ filter test xs) (filter test xs) ≡ [] → (filter test xs ≡ [] → Each (λ y. test y ≡ false) xs)
        → (test x ≡ false) × Each (λ y. test y ≡ false) xs
    by true e k rest = absurd cc
    by false e k rest = (e, rest k)

-- a filter of a list from the back
pub filter_reverse : {X : Type 0} (keep : X → Bool) (xs : List X) → reverse (filter keep xs) ≡ filter keep (reverse xs)
filter_reverse keep [] = refl
filter_reverse keep (x ∷ xs) =
    by (keep x) refl (filter_reverse keep xs) ∙ (sym (filter-append keep (reverse xs) (x ∷ []))
    ∙ ap (filter keep) (sym (reverse-append (x ∷ []) xs)))
  where
    by : (c : Bool) → keep x ≡ c → reverse (filter keep xs) ≡ filter keep (reverse xs)
        → reverse (cond c (x ∷ filter keep xs) (filter keep xs)) ≡ filter keep (reverse xs) ++ cond (keep x) (x ∷ []) []
    by true e h = reverse-append (x ∷ []) (filter keep xs) ∙ (ap (λ ys. ys ++ (x ∷ [])) h
        ∙ ap (λ c. filter keep (reverse xs) ++ cond c (x ∷ []) []) (sym e))
    by false e h = h ∙ (sym (append-nil (filter keep (reverse xs))) ∙ ap (λ c. filter keep (reverse xs) ++ cond c (x ∷ []) []) (sym e))

-- ---- names

-- names that none of some items has
abbrev pub NamesNone : (Item → Type 0) → List ℕ → Type 0
NamesNone Q word = (item : Item) → Q item → bytes_eq word item.name ≡ false

-- joins that name none of them
joins_none : (Q : Item → Type 0) (joins : List Join) → ((item : Item) → Q item
    → list_any (λ reference. bytes_eq reference.name item.name) (map (λ join. join.reference) joins) ≡ false)
    → JoinsRead (NamesNone Q) joins
joins_none Q [] h = tt
joins_none Q (join ∷ joins) h = (
  λ item q. (or_neither (bytes_eq join.reference.name item.name)
      (list_any (λ reference. bytes_eq reference.name item.name) (map (λ other. other.reference) joins)) (h item q)).0,
  joins_none Q joins (λ item q. (or_neither (bytes_eq join.reference.name item.name)
      (list_any (λ reference. bytes_eq reference.name item.name) (map (λ other. other.reference) joins)) (h item q)).1),
)

-- a query that names none of them
pub reads_none : (Q : Item → Type 0) (selects : List Select) → ((item : Item) → Q item → names selects item.name ≡ false)
    → Reads (NamesNone Q) selects
reads_none Q [] h = tt
reads_none Q (select ∷ selects) h = (
  (λ item q. (here item q).0, joins_none Q select.joins (λ item q. (here item q).1)),
  reads_none Q selects (λ item q. (both item q).1),
)
  where
    both : (item : Item) → Q item → (list_any (λ reference. bytes_eq reference.name item.name) (references select) ≡ false)
        × (names selects item.name ≡ false)
    both item q = or_neither (list_any (λ reference. bytes_eq reference.name item.name) (references select)) (names selects item.name)
        (h item q)

    here : (item : Item) → Q item → (bytes_eq select.first.name item.name ≡ false)
        × (list_any (λ reference. bytes_eq reference.name item.name) (map (λ join. join.reference) select.joins) ≡ false)
    here item q = or_neither (bytes_eq select.first.name item.name)
        (list_any (λ reference. bytes_eq reference.name item.name) (map (λ join. join.reference) select.joins))
        (or_neither (list_any (λ reference. bytes_eq reference.name item.name) (references select)) (names selects item.name) (h item q)).0

-- what doesn't depend on them
pub kind_reads_none : (Q : Item → Type 0) (kind : ItemKind) → ((item : Item) → Q item → depends kind item ≡ false)
    → KindReads (NamesNone Q) kind
kind_reads_none Q (Table columns) h = tt
kind_reads_none Q (View columns says) h = reads_none Q (query_of says) h
kind_reads_none Q (Index on below) h = tt

-- ---- an item that goes

-- a table or a view of this number
pub record IsGone (items : List Item) (number : ℕ) (item : Item) : Type 0 where
  pub there : Contains items item
  pub numbered : item.id ≡ number
  pub readable : is_index item.kind ≡ false

-- none depends on it
pub none_depends : (items : List Item) → Ascend items → (number : ℕ) → dependents number items ≡ [] → (other : Item) → Contains items other
    → (item : Item) → IsGone items number item → depends other.kind item ≡ false
none_depends items up number none other there item gone =
    let found : numbered number items ≡ Some item =
    by_number number (find (λ x. x.id == number)) Some (λ x xs. refl) items up item gone.numbered gone.there in
    let empty : dependents_on item items ≡ [] = sym (ap (λ o. option_map_or (λ on. dependents_on on items) o []) found) ∙ none in
    let kept : filter (λ x. depends x.kind item) items ≡ [] =
    sym (ap (λ c. cond c [] (filter (λ x. depends x.kind item) items)) gone.readable) ∙ empty in
    All-contains (λ x. depends x.kind item ≡ false) items other
    (All-from_recursion (λ x. depends x.kind item ≡ false) items (filter_none (λ x. depends x.kind item) items kept)) there

-- each item stays, or is the one that goes
pub items_stay : (all : List Item) → Ascend all → (number : ℕ) → dependents number all ≡ [] → (items : List Item)
    → Each (Contains all) items
    → Each (Stays false (NamesNone (IsGone all number)) (λ item. not (item.id == number))) items
items_stay all up number none [] there = tt
items_stay all up number none (item ∷ items) there = (
  record {
    reads = kind_reads_none (IsGone all number) item.kind (none_depends all up number none item there.0);
    gone = λ e. by (is_index item.kind) refl (negated (item.id == number) e);
  },
  items_stay all up number none items there.1,
)
  where
    negated : (c : Bool) → not c ≡ false → c ≡ true
    negated true h = refl
    negated false h = absurd cc

    by : (c : Bool) → is_index item.kind ≡ c → (item.id == number) ≡ true
        → ((false ≡ false) × (is_index item.kind ≡ true)) ⊎ ((word : List ℕ) → NamesNone (IsGone all number) word
        → bytes_eq word item.name ≡ false)
    by true e same = inl (refl, e)
    by false e same = inr (λ word free. free item (record { there = there.0; numbered = eqb-true item.id number same; readable = e }))

-- a DROP of what none depends on
pub drop_keeps : (scope : Scope) → IsSound scope → (number : ℕ) → dependents number scope.items ≡ [] → IsSound (without_item number scope)
drop_keeps scope h number none = record {
  numbers = AllPairs-filter (λ earlier later. earlier.id < later.id) (λ item. not (item.id == number)) scope.items h.numbers;
  views = subst (ViewsFit (without_item number scope)) (sym (filter_reverse (λ item. not (item.id == number)) scope.items))
      (views_stay false scope (without_item number scope) (NamesNone (IsGone scope.items number)) (λ item. not (item.id == number))
      (newest_first scope)
      (items_stay scope.items h.numbers number none (newest_first scope) (newest_there scope)) h.views);
}
