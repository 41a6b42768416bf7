-- A catalog as the definition of resolution sees it.
use Rattle.std.specs.Prelude.{ℕ, List, filter, nat_lt, reverse}
use Rattle.mz_plan.specs.declared.item.Item.{Item}
use Rattle.mz_plan.specs.declared.scope.Scope.{Scope}
use Rattle.mz_catalog.specs.CatalogState.{CatalogState}
use Rattle.mz_resolution.specs.Queries.{Names}
use Rattle.mz_resolution.specs.Resolution.{named, without_number}

-- the scope of a catalog in a cluster
abbrev pub scope_in : CatalogState → ℕ → Scope
scope_in catalog cluster = record { items = catalog.items; cluster = cluster }

-- the items whose number is below this one, the newest first
abbrev pub items_below : ℕ → List Item → List Item
items_below below items = filter (λ item. nat_lt item.id below) (reverse items)

-- what names stand for among the items whose number is below this one
abbrev pub names_below : CatalogState → ℕ → ℕ → Names
names_below catalog cluster below =
    λ word. without_number (named (scope_in catalog cluster) (items_below below catalog.items) word)
