-- What statements ask for is of their scope.
use Rattle.std.proofs.Common.{◌≡◌, ◌<◌, ◌&&◌, refl, subst, ℕ, Bool, true, false, List, Option, None, Some, bytes_eq}
use Rattle.std.specs.Prelude.{All, Contains, IfOk, IsTrue, find}
use Rattle.std.proofs.lemmas.List.Elements.{All-contains}
use Rattle.mz_value.specs.declared.datum.Datum.{Datum}
use Rattle.mz_statement.specs.declared.condition.Test.{Test}
use Rattle.mz_statement.specs.declared.query.Select.{Select}
use Rattle.mz_statement.specs.declared.statement.Statement.TheVariants as statement
use Rattle.mz_plan.specs.declared.item.Item.{Item}
use Rattle.mz_plan.specs.declared.item.ItemKind.{ItemKind}
use Rattle.mz_plan.specs.declared.item.ItemKind.TheVariants.{Table, View, Index}
use Rattle.mz_plan.specs.declared.plan.Plan as plan
use Rattle.mz_refusal.specs.declared.refusal.Refusal.{Refusal}
use Rattle.mz_plan.specs.declared.resolved.Resolved.TheVariants as resolved
use Rattle.mz_plan.specs.declared.scope.Scope.{Scope}
use Rattle.mz_resolution.specs.Conditions.{condition}
use Rattle.mz_plan.specs.Items.{is_table}
use Rattle.mz_resolution.specs.Resolution.{dropped, first_misfit, item_in, item_of, named, newest_first, query_in, resolution, table_columns, table_sight}
use Rattle.mz_resolution.specs.Steps.{unless}
use Rattle.mz_plan.specs.Leaves.{AllBelow, AllLeaves}
use Rattle.mz_resolve_laws.specs.OfScope.{AsksOfScope, ChangesOfScope, HasItem, IndexesOfScope, IsOfScope, NamesBelow, is_called, is_index_in, is_readable}
use Rattle.mz_resolve_laws.proofs.ScopeLeaves.{IsNamed, all_there, found_passes, named_fits, newest_there, query_fits}
use Rattle.mz_resolve_laws.proofs.StepTools.{any_then_ok, guard_ok, then_ok}

-- a query
pub asks_fits : (scope : Scope) (query : List Select) (as_of : Option ℕ)
    → IfOk (resolution scope (statement.Query query as_of)) (AsksOfScope scope)
asks_fits scope query as_of =
    then_ok (query_in scope query) _ (λ relation. IsOfScope scope relation.plan) (AsksOfScope scope) (query_fits scope query)
    (λ relation fits. fits)

-- an index
pub indexes_fits : (scope : Scope) (name on : List ℕ) → IfOk (resolution scope (statement.CreateIndex name on)) (IndexesOfScope scope on)
indexes_fits scope name on =
    then_ok (named scope (newest_first scope) on) _ (IsNamed scope on) (IndexesOfScope scope on)
    (named_fits scope (newest_first scope) (newest_there scope) on)
    (λ found fits. record { below = fits.item; leaves = fits.leaves; here = refl })

-- an item of the scope that is called so
pub record IsCalled (scope : Scope) (name : List ℕ) (item : Item) : Type 0 where
  pub there : Contains scope.items item
  pub called : IsTrue (bytes_eq name item.name)

-- the item of a name
pub item_in_fits : (scope : Scope) (name : List ℕ) → IfOk (item_in scope name) (IsCalled scope name)
item_in_fits scope name = by (find (λ item. bytes_eq name item.name) scope.items) refl
  where
    by : (found : Option Item) → find (λ item. bytes_eq name item.name) scope.items ≡ found
        → IfOk (item_of name found) (IsCalled scope name)
    by None same = tt
    by (Some item) same =
        let fits = found_passes scope.items (λ item. bytes_eq name item.name) scope.items (all_there scope) item same in
        record { there = fits.0; called = fits.1 }

-- such an item of some kind
of_kind : (scope : Scope) (is_kind : ItemKind → Bool) (name : List ℕ) (item : Item) → IsCalled scope name item → is_kind item.kind ≡ true
    → HasItem scope (is_called is_kind name) item.id
of_kind scope is_kind name item h k =
    record { item = item; there = h.there; numbered = refl; passes = both (is_kind item.kind) (bytes_eq name item.name) k h.called }
  where
    both : (a b : Bool) → a ≡ true → b ≡ true → IsTrue (a && b)
    both true true h e = refl
    both true false h e = absurd cc
    both false b h e = h

-- a DROP
pub dropped_fits : (scope : Scope) (is_kind : ItemKind → Bool) (name : List ℕ)
    → IfOk (dropped scope is_kind name) (ChangesOfScope scope is_kind name)
dropped_fits scope is_kind name =
    then_ok (item_in scope name) _ (IsCalled scope name) (ChangesOfScope scope is_kind name) (item_in_fits scope name)
    (λ item here. guard_ok (is_kind item.kind) (resolved.Drop item.id) _ (ChangesOfScope scope is_kind name)
    (λ k. of_kind scope is_kind name item here k))

-- what has the columns of a table is a table
pub table_ok : (name : List ℕ) (kind : ItemKind) → IfOk (table_columns name kind) (λ columns. is_table kind ≡ true)
table_ok name (Table columns) = refl
table_ok name (View columns query) = tt
table_ok name (Index on below) = tt

-- an INSERT
pub insert_fits : (scope : Scope) (name : List ℕ) (rows : List (List Datum))
    → IfOk (resolution scope (statement.Insert name rows)) (ChangesOfScope scope is_table name)
insert_fits scope name rows =
    then_ok (item_in scope name) _ (IsCalled scope name) (ChangesOfScope scope is_table name) (item_in_fits scope name) (λ item here.
    then_ok (table_columns name item.kind) _ (λ columns. is_table item.kind ≡ true) (ChangesOfScope scope is_table name)
    (table_ok name item.kind) (λ columns table.
    by item here table (first_misfit name columns rows)))
  where
    by : (item : Item) → IsCalled scope name item → is_table item.kind ≡ true → (refusal : Option Refusal)
        → IfOk (unless refusal (resolved.Insert item.id rows)) (ChangesOfScope scope is_table name)
    by item here table None = of_kind scope is_table name item here table
    by item here table (Some refusal) = tt

-- a DELETE
pub delete_fits : (scope : Scope) (name : List ℕ) (test : Option Test)
    → IfOk (resolution scope (statement.Delete name test)) (ChangesOfScope scope is_table name)
delete_fits scope name test =
    then_ok (item_in scope name) _ (IsCalled scope name) (ChangesOfScope scope is_table name) (item_in_fits scope name) (λ item here.
    then_ok (table_columns name item.kind) _ (λ columns. is_table item.kind ≡ true) (ChangesOfScope scope is_table name)
    (table_ok name item.kind) (λ columns table.
    any_then_ok (condition (table_sight name columns) test) _ (ChangesOfScope scope is_table name)
    (λ cond _. of_kind scope is_table name item here table)))

-- ---- numbers

-- leaves that are as they have to be are so where less is wanted
pub leaves_weaker : (t i u j : ℕ → Type 0) → ((n : ℕ) → t n → u n) → ((n : ℕ) → i n → j n) → (plan : plan.Plan) → AllLeaves t i plan
    → AllLeaves u j plan
leaves_weaker t i u j f g (plan.Table item) h = f item h
leaves_weaker t i u j f g (plan.Index item) h = g item h
leaves_weaker t i u j f g (plan.Filter' s (plan.more_of-Plan below plan.end_of-Plan) keeps) h = leaves_weaker t i u j f g below h
leaves_weaker t i u j f g (plan.Project' s (plan.more_of-Plan below plan.end_of-Plan) places) h = leaves_weaker t i u j f g below h
leaves_weaker t i u j f g (plan.Join' s (plan.more_of-Plan left plan.end_of-Plan) r (plan.more_of-Plan right plan.end_of-Plan) pairs) h =
    (leaves_weaker t i u j f g left h.0, leaves_weaker t i u j f g right h.1)
leaves_weaker t i u j f g (plan.Union' s (plan.more_of-Plan left plan.end_of-Plan) r (plan.more_of-Plan right plan.end_of-Plan)) h =
    (leaves_weaker t i u j f g left h.0, leaves_weaker t i u j f g right h.1)
leaves_weaker t i u j f g (plan.Group' s (plan.more_of-Plan below plan.end_of-Plan) places aggregates) h = leaves_weaker t i u j f g below h
leaves_weaker t i u j f g (plan.Distinct' s (plan.more_of-Plan below plan.end_of-Plan)) h = leaves_weaker t i u j f g below h

-- an item of a scope has a number below the limit of all
number_below : (scope : Scope) (limit : ℕ) → All (λ item. item.id < limit) scope.items → (test : Item → Bool) (number : ℕ)
    → HasItem scope test number → number < limit
number_below scope limit h test number k =
    subst (λ n. n < limit) k.numbered (All-contains (λ item. item.id < limit) scope.items k.item h k.there)

-- and so have the leaves of a plan of the scope
leaves_below : (scope : Scope) (limit : ℕ) → All (λ item. item.id < limit) scope.items → (plan : plan.Plan) → IsOfScope scope plan
    → AllBelow limit plan
leaves_below scope limit h plan k =
    leaves_weaker _ _ _ _ (number_below scope limit h (λ item. is_table item.kind))
    (number_below scope limit h (is_index_in scope.cluster)) plan k

-- a query
pub asks_below : (scope : Scope) (limit : ℕ) → All (λ item. item.id < limit) scope.items → (query : List Select) (as_of : Option ℕ)
    → IfOk (resolution scope (statement.Query query as_of)) (NamesBelow limit)
asks_below scope limit h query as_of =
    then_ok (query_in scope query) _ (λ relation. IsOfScope scope relation.plan) (NamesBelow limit) (query_fits scope query)
    (λ relation fits. leaves_below scope limit h relation.plan fits)

-- an index
pub indexes_below : (scope : Scope) (limit : ℕ) → All (λ item. item.id < limit) scope.items → (name on : List ℕ)
    → IfOk (resolution scope (statement.CreateIndex name on)) (NamesBelow limit)
indexes_below scope limit h name on =
    then_ok (named scope (newest_first scope) on) _ (IsNamed scope on) (NamesBelow limit)
    (named_fits scope (newest_first scope) (newest_there scope) on)
    (λ found fits. (
      number_below scope limit h (is_called is_readable on) found.item fits.item,
      leaves_below scope limit h
          found.relation.plan fits.leaves,
    ))
