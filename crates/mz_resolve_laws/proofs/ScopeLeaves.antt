-- What a name of a scope stands for is of the scope.
use Rattle.std.proofs.Common.{◌≡◌, ◌==◌, ◌&&◌, refl, sym, subst, ℕ, Bool, true, false, IsTrue, cond, List, [], ◌∷◌, Option, None, Some, bytes_eq, reverse, arith}
use Rattle.std.specs.Prelude.{Contains, IfOk, find, option_map}
use Rattle.std.specs.List.{AllByRecursion as Each}
use Rattle.std.proofs.lemmas.List.{reverse-reverse}
use Rattle.std.proofs.lemmas.List.Elements.{Contains-append_right}
use Rattle.std.proofs.lemmas.List.Sorted.{Contains-permutation, IsPermutation-reverse}
use Rattle.std.specs.List.Sorted.{IsPermutation}
use Rattle.mz_statement.specs.declared.query.Select.{Select}
use Rattle.mz_plan.specs.declared.item.Item.{Item}
use Rattle.mz_plan.specs.declared.item.ItemKind.{ItemKind}
use Rattle.mz_plan.specs.declared.item.ItemKind.TheVariants.{Table, View, Index}
use Rattle.mz_plan.specs.declared.plan.Plan.{Plan}
use Rattle.mz_plan.specs.declared.plan.Plan.TheVariants as plan
use Rattle.mz_plan.specs.declared.scope.Scope.{Scope}
use Rattle.mz_resolution.specs.declared.relation.NamedRelation.{NamedRelation}
use Rattle.mz_resolution.specs.Queries.{Names, queried}
use Rattle.mz_plan.specs.Items.{is_index, is_on, is_table, oldest_index, query_of}
use Rattle.mz_resolution.specs.Resolution.{item_relation, leaf_or, named, newest_first, query_in, without_number}
use Rattle.mz_resolve_laws.specs.OfScope.{HasItem, IsOfScope, is_called, is_index_in, is_readable}
use Rattle.mz_resolve_laws.proofs.QueryLeaves.{queried_fits}
use Rattle.mz_resolve_laws.proofs.StepTools.{choice_ok, then_ok}

-- ---- items of a scope

-- the first of a list is in it
Contains-first : {X : Type 0} (x : X) (xs : List X) → Contains (x ∷ xs) x
Contains-first x xs = (0, omega arith, refl)

-- what a list has is had by a list that has all of it
each_there : (all items : List Item) → ((item : Item) → Contains items item → Contains all item) → Each (Contains all) items
each_there all [] h = tt
each_there all (item ∷ items) h =
    (h item (Contains-first item items), each_there all items (λ other k. h other (Contains-append_right (item ∷ []) items other k)))

-- the items of a scope, the newest first
pub newest_there : (scope : Scope) → Each (Contains scope.items) (newest_first scope)
newest_there scope = each_there scope.items (reverse scope.items)
    (λ item k. Contains-permutation (reverse scope.items) scope.items item back k)
  where
    back : IsPermutation (reverse scope.items) scope.items
    back = subst (λ items. IsPermutation (reverse scope.items) items) (reverse-reverse scope.items)
        (IsPermutation-reverse (reverse scope.items))

-- what a search finds passes and is there
pub found_passes : (all : List Item) (test : Item → Bool) (items : List Item) → Each (Contains all) items → (item : Item)
    → find test items ≡ Some item → Contains all item × IsTrue (test item)
found_passes all test [] h item found = absurd cc
found_passes all test (first ∷ items) h item found = by (test first) refl found (found_passes all test items h.1 item)
  where
    by : (c : Bool) → test first ≡ c → cond c (Some first) (find test items) ≡ Some item
        → (find test items ≡ Some item → Contains all item × IsTrue (test item))
        → Contains all item × IsTrue (test item)
    by true passes here later =
        let same : first ≡ item = cc in
        (subst (Contains all) same h.0, subst (λ x. IsTrue (test x)) same passes)
    by false passes there later = later there

-- each item of a scope is there
pub all_there : (scope : Scope) → Each (Contains scope.items) scope.items
all_there scope = each_there scope.items scope.items (λ item k. k)

-- ---- the index that is read

-- an index on something is an index
on_is_index : (cluster relation : ℕ) (item : Item) → IsTrue (item.cluster == cluster && is_on relation item.kind)
    → IsTrue (is_index_in cluster item)
on_is_index cluster relation item h = by (item.cluster == cluster) item.kind h
  where
    by : (c : Bool) (kind : ItemKind) → IsTrue (c && is_on relation kind) → IsTrue (c && is_index kind)
    by true (Index on below) h = refl
    by true (Table columns) h = h
    by true (View columns query) h = h
    by false kind h = h

-- the plan of a relation, where that of the item is of the scope
leaf_fits : (scope : Scope) (item : ℕ) (below : Plan) → IsOfScope scope below
    → IsOfScope scope (leaf_or (oldest_index scope.items scope.cluster item) below)
leaf_fits scope item below h = by (find (λ other. other.cluster == scope.cluster && is_on item other.kind) scope.items) refl
  where
    by : (found : Option Item) → find (λ other. other.cluster == scope.cluster && is_on item other.kind) scope.items ≡ found
        → IsOfScope scope (leaf_or (option_map (λ other. other.id) found) below)
    by None same = h
    by (Some other) same =
        let there = found_passes scope.items (λ other. other.cluster == scope.cluster && is_on item other.kind) scope.items
        (all_there scope) other same in
        record { item = other; there = there.0; numbered = refl; passes = on_is_index scope.cluster item other there.1 }

-- ---- names

-- a name stands for a readable item that is called so, and its plan is of the scope
pub record IsNamed (scope : Scope) (name : List ℕ) (found : NamedRelation) : Type 0 where
  pub item : HasItem scope (is_called is_readable name) found.item
  pub leaves : IsOfScope scope found.relation.plan

-- the relation of a name
pub without_fits : (scope : Scope) (name : List ℕ) (step : _) → IfOk step (IsNamed scope name)
    → IfOk (without_number step) (λ relation. IsOfScope scope relation.plan)
without_fits scope name step h =
    then_ok step _ (IsNamed scope name) (λ relation. IsOfScope scope relation.plan) h (λ found fits. fits.leaves)

-- a readable item that is called so
readable : (scope : Scope) (item : Item) (name : List ℕ) (kind : ItemKind) → Contains scope.items item → bytes_eq name item.name ≡ true
    → item.kind ≡ kind → IsTrue (is_readable kind) → HasItem scope (is_called is_readable name) item.id
readable scope item name kind there called same h = record {
  item = item;
  there = there;
  numbered = refl;
  passes = both (is_readable item.kind) (bytes_eq name item.name) (subst (λ k. IsTrue (is_readable k)) (sym same) h) called;
}
  where
    both : (a b : Bool) → IsTrue a → b ≡ true → IsTrue (a && b)
    both true true h e = refl
    both true false h e = absurd cc
    both false b h e = h

-- what an item stands for
item_fits : (scope : Scope) (names : Names) (item : Item) (name : List ℕ) → Contains scope.items item → bytes_eq name item.name ≡ true
    → ((word : List ℕ) → IfOk (names word) (λ relation. IsOfScope scope relation.plan)) → (kind : ItemKind) → item.kind ≡ kind
    → IfOk (item_relation scope names item kind) (IsNamed scope name)
item_fits scope names item name there called h (Table columns) same = record {
  item = readable scope item name (Table columns) there called same refl;
  leaves = leaf_fits scope item.id (plan.Table item.id)
      (record { item = item; there = there; numbered = refl; passes = subst (λ k. IsTrue (is_table k)) (sym same) refl });
}
item_fits scope names item name there called h (View columns query) same =
    then_ok (queried names (query_of query)) _ (λ relation. IsOfScope scope relation.plan) (IsNamed scope name)
    (queried_fits _ _ names h (query_of query)) (λ below fits. record {
      item = readable scope item name (View columns query) there called same refl;
      leaves = leaf_fits scope item.id below.plan fits;
    })
item_fits scope names item name there called h (Index on below) same = tt

-- what a name stands for among items of the scope
pub named_fits : (scope : Scope) (items : List Item) → Each (Contains scope.items) items → (name : List ℕ)
    → IfOk (named scope items name) (IsNamed scope name)
named_fits scope [] h name = tt
named_fits scope (item ∷ older) h name =
    choice_ok (bytes_eq name item.name) _ _ (IsNamed scope name)
    (λ called. item_fits scope (λ word. without_number (named scope older word)) item name h.0 called
    (λ word. without_fits scope word (named scope older word) (named_fits scope older h.1 word)) item.kind refl)
    (λ other. named_fits scope older h.1 name)

-- the relation of a query
pub query_fits : (scope : Scope) (query : List Select) → IfOk (query_in scope query) (λ relation. IsOfScope scope relation.plan)
query_fits scope query =
    queried_fits _ _ _ (λ word. without_fits scope word (named scope (newest_first scope) word)
    (named_fits scope (newest_first scope) (newest_there scope) word)) query
