-- When what a resolved statement names is of its scope.
use Rattle.std.specs.Prelude.{◌≡◌, ◌==◌, ◌<◌, Bool, ◌&&◌, ◌||◌, ℕ, List, Contains, IsTrue, bytes_eq}
use Rattle.mz_plan.specs.Leaves.{AllLeaves, AllBelow}
use Rattle.mz_plan.specs.declared.item.Item.{Item}
use Rattle.mz_plan.specs.declared.item.ItemKind.{ItemKind}
use Rattle.mz_plan.specs.declared.plan.Plan.{Plan}
use Rattle.mz_plan.specs.declared.resolved.Resolved.{Resolved}
use Rattle.mz_plan.specs.declared.resolved.Resolved.TheVariants as resolved
use Rattle.mz_plan.specs.declared.scope.Scope.{Scope}
use Rattle.mz_plan.specs.Items.{is_index, is_table, is_view}

-- an item of the scope that passes the test has this number
pub record HasItem (scope : Scope) (test : Item → Bool) (number : ℕ) : Type 0 where
  pub item : Item
  pub there : Contains scope.items item
  pub numbered : item.id ≡ number
  pub passes : IsTrue (test item)

-- an item is of this kind, and is called so
abbrev pub is_called : (ItemKind → Bool) → List ℕ → Item → Bool
is_called is_kind name item = is_kind item.kind && bytes_eq name item.name

-- a kind that a query may read
abbrev pub is_readable : ItemKind → Bool
is_readable kind = is_table kind || is_view kind

-- an item is an index of this cluster
abbrev pub is_index_in : ℕ → Item → Bool
is_index_in cluster item = item.cluster == cluster && is_index item.kind

-- a plan names only items of the scope: tables, and indexes of its cluster
abbrev pub IsOfScope : Scope → Plan → Type 0
IsOfScope scope plan = AllLeaves (HasItem scope (λ item. is_table item.kind)) (HasItem scope (is_index_in scope.cluster)) plan

-- what a query asks for is of the scope
abbrev pub AsksOfScope : Scope → Resolved → Type 0
AsksOfScope scope (resolved.Query plan) = IsOfScope scope plan
AsksOfScope scope other = ⊥

-- an index is on an item that is called so and may be read; its plan is of the scope, and it is of the scope's cluster
pub record IsIndexOf (scope : Scope) (on : List ℕ) (item : ℕ) (plan : Plan) (cluster : ℕ) : Type 0 where
  pub below : HasItem scope (is_called is_readable on) item
  pub leaves : IsOfScope scope plan
  pub here : cluster ≡ scope.cluster

-- what a CREATE INDEX on a name asks for is of the scope
abbrev pub IndexesOfScope : Scope → List ℕ → Resolved → Type 0
IndexesOfScope scope on (resolved.CreateIndex name item plan cluster) = IsIndexOf scope on item plan cluster
IndexesOfScope scope on other = ⊥

-- a change is of the item of the scope that is of this kind and is called so
abbrev pub ChangesOfScope : Scope → (ItemKind → Bool) → List ℕ → Resolved → Type 0
ChangesOfScope scope is_kind name (resolved.Drop item) = HasItem scope (is_called is_kind name) item
ChangesOfScope scope is_kind name (resolved.Insert item rows) = HasItem scope (is_called is_kind name) item
ChangesOfScope scope is_kind name (resolved.Delete item cond) = HasItem scope (is_called is_kind name) item
ChangesOfScope scope is_kind name other = ⊥

-- each leaf of the plan that a query or a CREATE INDEX asks for is below a number, and so is what the index is on
abbrev pub NamesBelow : ℕ → Resolved → Type 0
NamesBelow limit (resolved.Query plan) = AllBelow limit plan
NamesBelow limit (resolved.CreateIndex name item plan cluster) = (item < limit) × AllBelow limit plan
NamesBelow limit other = ⊥
