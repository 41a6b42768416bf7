-- What a name of a sound scope stands for is well formed and typed.
use Rattle.std.proofs.Common.{◌≡◌, ◌∙◌, ◌<◌, ◌==◌, ◌&&◌, refl, sym, subst, ap, ℕ, zero, suc, Bool, true, false, IsTrue, cond, List, [], ◌∷◌, Result, Ok, Err, Option, None, Some, bytes_eq, arith}
use Rattle.std.specs.Prelude.{AllPairs, Contains, IfOk, IsOkAnd, find, option_map}
use Rattle.std.specs.List.{AllByRecursion as Each}
use Rattle.std.proofs.lemmas.Bool.{and_parts, eqb-true, eq-eqb}
use Rattle.mz_statement.specs.declared.query.Select.{Select}
use Rattle.mz_plan.specs.Typed.{item_columns, kind_columns, own_columns, relation_columns}
use Rattle.mz_plan.specs.declared.item.Item.{Item}
use Rattle.mz_plan.specs.declared.item.ItemKind.{ItemKind}
use Rattle.mz_plan.specs.declared.item.ItemKind.TheVariants.{Table, View, Index}
use Rattle.mz_plan.specs.declared.plan.Plan.{Plan}
use Rattle.mz_plan.specs.declared.plan.Plan.TheVariants as plans
use Rattle.mz_refusal.specs.declared.refusal.Refusal.{Refusal}
use Rattle.mz_plan.specs.declared.scope.Scope.{Scope}
use Rattle.mz_plan.specs.Items.{Ascend, is_on, oldest_index, query_of}
use Rattle.mz_resolution.specs.declared.relation.NamedRelation.{NamedRelation}
use Rattle.mz_resolution.specs.Queries.{queried}
use Rattle.mz_resolution.specs.Resolution.{item_relation, leaf_or, named, newest_first, query_in, without_number}
use Rattle.mz_resolve_laws.specs.Sound.{IsSound, ViewFits, ViewsFit, names_among}
use Rattle.mz_plan.specs.Types.{plan_types, types_of}
use Rattle.mz_plan.specs.WellFormed.{IsWellFormed}
use Rattle.mz_resolve_laws.specs.WellFormed.{IsTypedRelation}
use Rattle.mz_resolve_laws.proofs.ScopeLeaves.{all_there, found_passes, newest_there}
use Rattle.mz_resolve_laws.proofs.SelectTypes.{NamesTyped, queried_typed}
use Rattle.mz_resolve_laws.proofs.StepTools.{choice_ok, then_ok}

-- ---- items by their numbers

-- what holds of each pair holds of each pair of the others
pub pairs_tail : {X : Type 0} (R : X → X → Type 0) (x : X) (xs : List X) → AllPairs R (x ∷ xs) → AllPairs R xs
pairs_tail R x xs h i j d before within = h (suc i) (suc j) d (omega arith) (omega arith)

-- what a search by number finds, where numbers ascend
pub by_number : {X : Type 0} (id : ℕ) (F : List Item → X) (g : Item → X)
    → ((x : Item) (xs : List Item) → F (x ∷ xs) ≡ cond (x.id == id) (g x) (F xs))
    → (items : List Item) → Ascend items → (item : Item) → item.id ≡ id → Contains items item → F items ≡ g item
by_number id F g step [] up item same there = absurd (omega (arith, there.1))
by_number id F g step (first ∷ items) up item same (zero, within, is) =
    let here : first.id ≡ id = ap (λ x. x.id) is ∙ same in
    step first items ∙ (ap (λ c. cond c (g first) (F items)) (eq-eqb first.id id here) ∙ ap g is)
by_number id F g step (first ∷ items) up item same (suc k, within, is) =
    step first items ∙ by (first.id == id) refl (by_number id F g step items
    (pairs_tail (λ earlier later. earlier.id < later.id) first items up) item same (k, omega arith, is))
  where
    before : first.id < item.id
    before = subst (λ x. first.id < x.id) is (up 0 (suc k) item (omega arith) within)

    by : (c : Bool) → (first.id == id) ≡ c → F items ≡ g item → cond c (g first) (F items) ≡ g item
    by true e h = absurd (omega (arith, eqb-true first.id id e, same, before))
    by false e h = h

-- the columns of the item that has a number of the scope
pub own_of : (items : List Item) → Ascend items → (item : Item) → Contains items item
    → relation_columns items item.id ≡ own_columns item.kind
own_of items up item there =
    by_number item.id (λ xs. relation_columns xs item.id) (λ x. own_columns x.kind) (λ x xs. refl) items up item refl there

-- and those that its leaf has
pub item_of_number : (items : List Item) → Ascend items → (item : Item) → Contains items item
    → item_columns items items item.id ≡ kind_columns items item.kind
item_of_number items up item there =
    by_number item.id (λ xs. item_columns items xs item.id) (λ x. kind_columns items x.kind) (λ x xs. refl) items up item refl there

-- an index on an item has its columns
on_columns : (items : List Item) (id : ℕ) (kind : ItemKind) → IsTrue (is_on id kind) → kind_columns items kind ≡ relation_columns items id
on_columns items id (Table columns) h = absurd cc
on_columns items id (View columns query) h = absurd cc
on_columns items id (Index on below) h = ap (relation_columns items) (eqb-true on id h)

-- ---- what a name stands for

-- a relation of an item is typed, and has the item's columns
pub record IsTypedItem (items : List Item) (found : NamedRelation) : Type 0 where
  pub relation : IsTypedRelation items found.relation
  pub own : found.relation.columns ≡ relation_columns items found.item

-- the plan of an item, where that below is typed
leaf_typed : (scope : Scope) → Ascend scope.items → (item : Item) → Contains scope.items item → (below : Plan)
    → IsWellFormed scope.items below → plan_types scope.items below ≡ types_of (own_columns item.kind)
    → IsWellFormed scope.items (leaf_or (oldest_index scope.items scope.cluster item.id) below)
    × (plan_types scope.items (leaf_or (oldest_index scope.items scope.cluster item.id) below) ≡ types_of (own_columns item.kind))
leaf_typed scope up item there below h same =
    by (find (λ other. other.cluster == scope.cluster && is_on item.id other.kind) scope.items) refl
  where
    by : (found : Option Item) → find (λ other. other.cluster == scope.cluster && is_on item.id other.kind) scope.items ≡ found
        → IsWellFormed scope.items (leaf_or (option_map (λ other. other.id) found) below)
        × (plan_types scope.items (leaf_or (option_map (λ other. other.id) found) below) ≡ types_of (own_columns item.kind))
    by None e = (h, same)
    by (Some other) e =
        let fits = found_passes scope.items (λ x. x.cluster == scope.cluster && is_on item.id x.kind) scope.items
        (all_there scope) other e in
        let on = and_parts (other.cluster == scope.cluster) (is_on item.id other.kind) fits.1 in (
          tt,
          ap types_of (item_of_number scope.items up other fits.0
              ∙ (on_columns scope.items item.id other.kind on.1 ∙ own_of scope.items up item there)),
        )

-- what holds of a step that gives something, and what holds of it if it does
both_and : {A : Type 0} (r : Result A Refusal) (P Q : A → Type 0) → IfOk r P → IsOkAnd r Q → IfOk r (λ x. P x × Q x)
both_and (Ok x) P Q h k = (h, k)
both_and (Err refusal) P Q h k = tt

-- an item
item_typed : (scope : Scope) → Ascend scope.items → (older : List Item) → NamesTyped scope.items (names_among scope older) → (item : Item)
    → Contains scope.items item → (kind : ItemKind) → item.kind ≡ kind
    → ViewFits scope older kind → IfOk (item_relation scope (names_among scope older) item kind) (IsTypedItem scope.items)
item_typed scope up older names item there (Table columns) e fits =
    let mine : own_columns item.kind ≡ columns = ap own_columns e in
    let typed = leaf_typed scope up item there (plans.Table item.id) tt
    (ap types_of (item_of_number scope.items up item there ∙ (ap (kind_columns scope.items) e ∙ sym mine))) in
    record {
      relation = record { formed = typed.0; types = typed.1 ∙ ap types_of mine };
      own = sym mine
          ∙ sym (own_of scope.items up item there);
    }
item_typed scope up older names item there (View columns query) e fits =
    then_ok (queried (names_among scope older) (query_of query)) _
    (λ below. IsTypedRelation scope.items below × (types_of below.columns ≡ types_of columns)) (IsTypedItem scope.items)
    (both_and (queried (names_among scope older) (query_of query)) (IsTypedRelation scope.items)
    (λ below. types_of below.columns ≡ types_of columns)
    (queried_typed scope.items (names_among scope older) names (query_of query)) fits)
    (λ below both.
    let mine : own_columns item.kind ≡ columns = ap own_columns e in
    let typed = leaf_typed scope up item there below.plan both.0.formed (both.0.types ∙ (both.1 ∙ ap types_of (sym mine))) in
    record {
      relation = record { formed = typed.0; types = typed.1 ∙ ap types_of mine };
      own = sym mine
          ∙ sym (own_of scope.items up item there);
    })
item_typed scope up older names item there (Index on below) e fits = tt

-- without its number
without_typed : (items : List Item) (step : Result NamedRelation Refusal) → IfOk step (IsTypedItem items)
    → IfOk (without_number step) (IsTypedRelation items)
without_typed items step h = then_ok step _ (IsTypedItem items) (IsTypedRelation items) h (λ found typed. typed.relation)

-- a name among items
named_typed : (scope : Scope) → Ascend scope.items → (items : List Item) → Each (Contains scope.items) items → ViewsFit scope items
    → (name : List ℕ) → IfOk (named scope items name) (IsTypedItem scope.items)
named_typed scope up [] there fits name = tt
named_typed scope up (item ∷ older) there fits name =
    choice_ok (bytes_eq name item.name) _ _ (IsTypedItem scope.items)
    (λ _. item_typed scope up older (λ word. without_typed scope.items (named scope older word)
    (named_typed scope up older there.1 fits.1 word)) item there.0 item.kind refl fits.0)
    (λ _. named_typed scope up older there.1 fits.1 name)

-- a name of a sound scope
pub name_typed : (scope : Scope) → IsSound scope → (name : List ℕ) → IfOk (named scope (newest_first scope) name) (IsTypedItem scope.items)
name_typed scope sound name = named_typed scope sound.numbers (newest_first scope) (newest_there scope) sound.views name

-- a query
pub query_typed : (scope : Scope) → IsSound scope → (query : List Select) → IfOk (query_in scope query) (IsTypedRelation scope.items)
query_typed scope sound query =
    queried_typed scope.items (names_among scope (newest_first scope))
    (λ word. without_typed scope.items (named scope (newest_first scope) word) (name_typed scope sound word)) query
