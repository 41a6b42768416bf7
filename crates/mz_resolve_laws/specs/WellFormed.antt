-- When each place that a plan names is there and has the type that its use needs.
use Rattle.std.specs.Prelude.{◌≡◌, List, map}
use Rattle.std.specs.List.{AllByRecursion as Each}
use Rattle.mz_plan.specs.Typed.{relation_columns}
use Rattle.mz_plan.specs.declared.item.Item.{Item}
use Rattle.mz_plan.specs.declared.resolved.Resolved.{Resolved}
use Rattle.mz_plan.specs.declared.resolved.Resolved.TheVariants as resolved
use Rattle.mz_resolution.specs.declared.relation.Relation.{Relation}
use Rattle.mz_plan.specs.Types.{plan_types, type_of, types_of}
use Rattle.mz_plan.specs.WellFormed.{IsWellFormed, SomeCondFits}

-- a relation's plan is well formed, and gives columns of the relation's types
pub record IsTypedRelation (items : List Item) (relation : Relation) : Type 0 where
  pub formed : IsWellFormed items relation.plan
  pub types : plan_types items relation.plan ≡ types_of relation.columns

-- the plan that a query asks for is well formed
abbrev pub AsksWell : List Item → Resolved → Type 0
AsksWell items (resolved.Query plan) = IsWellFormed items plan
AsksWell items other = ⊥

-- the plan of an index is well formed, and gives columns with the types of the relation that the index is on
abbrev pub IndexesWell : List Item → Resolved → Type 0
IndexesWell items (resolved.CreateIndex name on plan cluster) =
    IsWellFormed items plan × (plan_types items plan ≡ types_of (relation_columns items on))
IndexesWell items other = ⊥

-- the values of each row have the types of the table's columns
abbrev pub InsertsWell : List Item → Resolved → Type 0
InsertsWell items (resolved.Insert table rows) = Each (λ row. map type_of row ≡ types_of (relation_columns items table)) rows
InsertsWell items other = ⊥

-- each comparison of a condition fits the table's columns
abbrev pub DeletesWell : List Item → Resolved → Type 0
DeletesWell items (resolved.Delete table cond) = SomeCondFits (types_of (relation_columns items table)) cond
DeletesWell items other = ⊥
