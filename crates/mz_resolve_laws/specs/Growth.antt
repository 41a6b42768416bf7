-- How a scope grows by what a statement makes.
use Rattle.std.specs.Prelude.{◌≡◌, ◌≢◌, ◌<◌, All, Contains, [], ◌∷◌, ◌++◌, ℕ, true}
use Rattle.mz_plan.specs.declared.item.Item.{Item}
use Rattle.mz_plan.specs.declared.item.ItemKind.TheVariants.{Table, View, Index}
use Rattle.mz_plan.specs.declared.resolved.Resolved.{Resolved}
use Rattle.mz_plan.specs.declared.resolved.Resolved.TheVariants as resolved
use Rattle.mz_plan.specs.declared.scope.Scope.{Scope}
use Rattle.mz_plan.specs.Items.{others, is_index}

-- an item is of the kind that a CREATE makes
abbrev pub IsMadeBy : Resolved → Item → Type 0
IsMadeBy (resolved.CreateTable name columns) item = item.kind ≡ Table columns
IsMadeBy (resolved.CreateView name columns query) item = item.kind ≡ View columns query
IsMadeBy (resolved.CreateIndex name on plan cluster) item = item.kind ≡ Index on plan
IsMadeBy other item = ⊥

-- an item has a number above those of all of the scope
abbrev pub IsNewIn : Scope → Item → Type 0
IsNewIn scope item = All (λ older. older.id < item.id) scope.items

-- the scope with one more item, which stands last
abbrev pub with_item : Scope → Item → Scope
with_item scope item = record { items = scope.items ++ item ∷ []; cluster = scope.cluster }

-- the scope in another cluster
abbrev pub in_cluster : ℕ → Scope → Scope
in_cluster cluster scope = record { items = scope.items; cluster = cluster }

-- the scope without the item of this number
abbrev pub without_item : ℕ → Scope → Scope
without_item number scope = record { items = others number scope.items; cluster = scope.cluster }

-- an item of a scope is an index of another cluster
pub record IsForeignIndex (scope : Scope) (index : Item) : Type 0 where
  pub there : Contains scope.items index
  pub is : is_index index.kind ≡ true
  pub foreign : index.cluster ≢ scope.cluster
