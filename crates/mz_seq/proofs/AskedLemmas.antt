-- What a statement asks of the items that it names is there.
use Rattle.std.proofs.Common.{◌≡◌, ℕ, Bool, true, false, cond, List, Option, None, Some, Result, Ok, Err, is_some, refl, ap, subst}
use Rattle.std.specs.Prelude.{IfOk}
use Rattle.mz_statement.specs.declared.column.Column.{Column}
use Rattle.mz_statement.specs.declared.statement.Statement.{Statement}
use Rattle.mz_statement.specs.declared.statement.Statement.TheVariants as statement
use Rattle.mz_plan.specs.Items.{Ascend, is_table, is_view, is_index, named, numbered}
use Rattle.mz_plan.specs.declared.item.Item.{Item}
use Rattle.mz_plan.specs.declared.item.ItemKind.{ItemKind}
use Rattle.mz_plan.specs.declared.item.ItemKind.TheVariants.{Table, View, Index}
use Rattle.mz_plan.specs.declared.resolved.Resolved.{Resolved}
use Rattle.mz_plan.specs.declared.resolved.Resolved.TheVariants as resolved
use Rattle.mz_plan.specs.declared.scope.Scope.{Scope}
use Rattle.mz_refusal.specs.declared.refusal.Refusal.{Refusal}
use Rattle.mz_catalog.proofs.ItemLemmas.{numbered-named}
use Rattle.mz_resolution.specs.Conditions.{condition}
use Rattle.mz_resolution.specs.Resolution.{dropped, first_misfit, item_in, item_of, query_in, named as relation_named, newest_first, resolution, table_columns, table_sight}
use Rattle.mz_resolution.specs.Steps.{Step, ◌>>=◌, unless}
use Rattle.mz_seq.specs.Asked.{IsAsked, NamesThere}

-- ---- steps

-- a step, and the one behind it
then_ok : {A B : Type 0} (r : Result A Refusal) (next : A → Step B) (Q : B → Type 0) → ((x : A) → r ≡ Ok x → IfOk (next x) Q) → IfOk (r >>= next) Q
then_ok (Ok x) next Q k = k x refl
then_ok (Err refusal) next Q k = tt

-- a value behind a test
guard_ok : {A : Type 0} (test : Bool) (x : A) (refusal : Refusal) (Q : A → Type 0) → Q x → IfOk (cond test (Ok x) (Err refusal)) Q
guard_ok true x refusal Q h = h
guard_ok false x refusal Q h = tt

-- a value unless there is a refusal
unless_ok : {A : Type 0} (o : Option Refusal) (x : A) (Q : A → Type 0) → Q x → IfOk (unless o x) Q
unless_ok None x Q h = h
unless_ok (Some refusal) x Q h = tt

-- what holds where a step gives something holds of what it gives
holds_of : {A : Type 0} (r : Result A Refusal) (x : A) (Q : A → Type 0) → r ≡ Ok x → IfOk r Q → Q x
holds_of r x Q is h = subst (λ (s : Result _ Refusal). IfOk s Q) is h

-- ---- items

-- an item that is found has the name
found_named : (name : List ℕ) (o : Option Item) (item : Item) → item_of name o ≡ Ok item → o ≡ Some item
found_named name None item h = cc
found_named name (Some x) item h = cc

-- so it is there under its number
found_there : (scope : Scope) (name : List ℕ) (item : Item) → Ascend scope.items → item_in scope name ≡ Ok item → numbered item.id scope.items ≡ Some item
found_there scope name item up found = numbered-named name scope.items item up (found_named name (named name scope.items) item found)

-- what has the columns of a table is one
columns_table : (name : List ℕ) (kind : ItemKind) (columns : List Column) → table_columns name kind ≡ Ok columns → is_table kind ≡ true
columns_table name (Table columns) others h = refl
columns_table name (View columns query) others h = cc
columns_table name (Index on plan) others h = cc

-- ---- statements

-- what a DROP names is there
dropped_there : (scope : Scope) (is_kind : ItemKind → Bool) (name : List ℕ) → Ascend scope.items → IfOk (dropped scope is_kind name) (NamesThere scope.items)
dropped_there scope is_kind name up =
    then_ok (item_in scope name) _ (NamesThere scope.items) (λ item found.
    guard_ok (is_kind item.kind) (resolved.Drop item.id) _ (NamesThere scope.items) (ap is_some (found_there scope name item up found)))

-- and so is what each statement names
statement_there : (scope : Scope) (said : Statement) → Ascend scope.items → IfOk (resolution scope said) (NamesThere scope.items)
statement_there scope (statement.Query query as_of) up = then_ok (query_in scope query) _ (NamesThere scope.items) (λ relation found. tt)
statement_there scope (statement.CreateTable name columns) up = guard_ok _ (resolved.CreateTable name columns) _ (NamesThere scope.items) tt
statement_there scope (statement.CreateView name query) up = then_ok (query_in scope query) _ (NamesThere scope.items) (λ relation found. tt)
statement_there scope (statement.CreateIndex name on) up = then_ok (relation_named scope (newest_first scope) on) _ (NamesThere scope.items) (λ found is. tt)
statement_there scope (statement.DropTable name) up = dropped_there scope is_table name up
statement_there scope (statement.DropView name) up = dropped_there scope is_view name up
statement_there scope (statement.DropIndex name) up = dropped_there scope is_index name up
statement_there scope (statement.Insert name rows) up =
    then_ok (item_in scope name) _ (NamesThere scope.items) (λ item found.
    then_ok (table_columns name item.kind) _ (NamesThere scope.items) (λ columns is.
    unless_ok (first_misfit name columns rows) (resolved.Insert item.id rows) (NamesThere scope.items)
    (item, found_there scope name item up found, columns_table name item.kind columns is)))
statement_there scope (statement.Delete name test) up =
    then_ok (item_in scope name) _ (NamesThere scope.items) (λ item found.
    then_ok (table_columns name item.kind) _ (NamesThere scope.items) (λ columns is.
    then_ok (condition (table_sight name columns) test) _ (NamesThere scope.items) (λ cond given.
    (item, found_there scope name item up found, columns_table name item.kind columns is))))
statement_there scope other up = tt

-- so what is asked is there
pub asked_there : (items : List Item) (asked : Resolved) → Ascend items → IsAsked items asked → NamesThere items asked
asked_there items asked up is =
    holds_of _ asked (NamesThere items) is.is (statement_there (record { items = items; cluster = is.cluster }) is.statement up)
