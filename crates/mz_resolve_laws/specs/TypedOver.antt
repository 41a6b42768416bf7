-- When the items of a scope have types, over the types of all tables and the plans of all indexes ever made.
use Rattle.std.specs.Prelude.{◌≡◌, ◌<◌, ℕ, List, ⊤}
use Rattle.std.specs.List.{AllByRecursion as Each}
use Rattle.mz_statement.specs.declared.column.ColumnType.{ColumnType}
use Rattle.mz_plan.specs.Bound.{IsBoundedOver}
use Rattle.mz_plan.specs.Meaning.{Leaves}
use Rattle.mz_plan.specs.Typed.{relation_columns}
use Rattle.mz_plan.specs.Types.{types_of}
use Rattle.mz_plan.specs.declared.item.ItemKind.{ItemKind}
use Rattle.mz_plan.specs.declared.item.ItemKind.TheVariants.{Table, Index}
use Rattle.mz_plan.specs.declared.resolved.Resolved.{Resolved}
use Rattle.mz_plan.specs.declared.resolved.Resolved.TheVariants as resolved
use Rattle.mz_plan.specs.declared.scope.Scope.{Scope}
use Rattle.mz_resolution.specs.declared.relation.Relation.{Relation}
use Rattle.mz_plan.specs.PlanTypes.{AreFormedOver, IsFormedOver, index_types, types_over}
use Rattle.mz_resolve_laws.specs.SoundOver.{Made}

-- the types of the columns that each item gives, by its number
abbrev pub LeafTypes : Type 0
LeafTypes = ℕ → List ColumnType

-- a table's columns have the types that belong to its number
abbrev pub TableFits : LeafTypes → ℕ → ItemKind → Type 0
TableFits tables number (Table columns) = tables number ≡ types_of columns
TableFits tables number kind = ⊤

-- an index is on an older item, and gives columns of that one's types
pub record IsTypedIndex (tables : LeafTypes) (plans : Made) (scope : Scope) (number on : ℕ) : Type 0 where
  pub older : on < number
  pub types : index_types tables plans number ≡ types_of (relation_columns scope.items on)

-- so it is with an item that is an index
abbrev pub IndexFits : LeafTypes → Made → Scope → ℕ → ItemKind → Type 0
IndexFits tables plans scope number (Index on plan) = IsTypedIndex tables plans scope number on
IndexFits tables plans scope number kind = ⊤

-- each table and each index of a scope has its types, and the plan of each index ever made is well formed over the older ones
pub record IsTypedOver (tables : LeafTypes) (plans : Made) (scope : Scope) : Type 0 where
  pub columns : Each (λ item. TableFits tables item.id item.kind) scope.items
  pub indexes : Each (λ item. IndexFits tables plans scope item.id item.kind) scope.items
  pub formed : AreFormedOver tables plans

-- a relation's plan is well formed over the types of tables and indexes, and gives columns of the relation's types
pub record IsRelationOver (tables indexes : LeafTypes) (relation : Relation) : Type 0 where
  pub formed : IsFormedOver tables indexes relation.plan
  pub types : types_over tables indexes relation.plan ≡ types_of relation.columns

-- the plan that a query asks for is well formed over them
abbrev pub AsksOver : LeafTypes → LeafTypes → Resolved → Type 0
AsksOver tables indexes (resolved.Query plan) = IsFormedOver tables indexes plan
AsksOver tables indexes other = ⊥

-- the plan of an index is well formed over them, and gives columns with the types of the relation that the index is on
abbrev pub IndexesOver : LeafTypes → LeafTypes → Scope → Resolved → Type 0
IndexesOver tables indexes scope (resolved.CreateIndex name on plan cluster) =
    IsFormedOver tables indexes plan × (types_over tables indexes plan ≡ types_of (relation_columns scope.items on))
IndexesOver tables indexes scope other = ⊥

-- the plan of a query or of an index is bounded over the rows of tables and the plans of all indexes ever made
abbrev pub AsksBounded : Leaves → Made → Resolved → Type 0
AsksBounded rows plans (resolved.Query plan) = IsBoundedOver rows plans plan
AsksBounded rows plans (resolved.CreateIndex name on plan cluster) = IsBoundedOver rows plans plan
AsksBounded rows plans other = ⊥
