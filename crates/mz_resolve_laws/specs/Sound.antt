-- When the items of a scope fit each other.
use Rattle.std.specs.Prelude.{◌≡◌, List, [], ◌∷◌, IsOkAnd, ⊤}
use Rattle.mz_plan.specs.declared.item.Item.{Item}
use Rattle.mz_plan.specs.declared.item.ItemKind.{ItemKind}
use Rattle.mz_plan.specs.declared.item.ItemKind.TheVariants.{View}
use Rattle.mz_plan.specs.declared.scope.Scope.{Scope}
use Rattle.mz_plan.specs.Items.{Ascend, query_of}
use Rattle.mz_resolution.specs.Queries.{Names, queried}
use Rattle.mz_resolution.specs.Resolution.{named, newest_first, without_number}
use Rattle.mz_plan.specs.Types.{types_of}

-- what names stand for among some items of a scope, the newest first
abbrev pub names_among : Scope → List Item → Names
names_among scope items word = without_number (named scope items word)

-- a view's query gives columns of the view's types, where its names are those of older items
abbrev pub ViewFits : Scope → List Item → ItemKind → Type 0
ViewFits scope older (View columns query) =
    IsOkAnd (queried (names_among scope older) (query_of query)) (λ relation. types_of relation.columns ≡ types_of columns)
ViewFits scope older kind = ⊤

-- so does each view among items, the newest first
abbrev pub ViewsFit : Scope → List Item → Type 0
ViewsFit scope [] = ⊤
ViewsFit scope (item ∷ older) = ViewFits scope older item.kind × ViewsFit scope older

-- the items are in order of their numbers, and each view is as CREATE VIEW would make it of the older items
pub record IsSound (scope : Scope) : Type 0 where
  pub numbers : Ascend scope.items
  pub views : ViewsFit scope (newest_first scope)
