-- Which items the names of a query lead to that aren't known yet.
use Rattle.std.specs.Prelude.{ℕ, List, [], ◌∷◌, Option, None, Some, bytes_eq, find, if◌then◌else◌}
use Rattle.std.specs.Option.{option_or}
use Rattle.mz_statement.specs.declared.query.Select.{Select}
use Rattle.mz_statement.specs.declared.reference.Reference.{Reference}
use Rattle.mz_plan.specs.Items.{query_of, references}
use Rattle.mz_plan.specs.declared.item.Item.{Item}
use Rattle.mz_plan.specs.declared.item.ItemKind.{ItemKind}
use Rattle.mz_plan.specs.declared.item.ItemKind.TheVariants.{View}
use Rattle.mz_catalog.specs.CatalogState.{CatalogState}
use Rattle.mz_resolve.specs.InCatalog.{items_below}
use Rattle.mz_resolve.specs.Known.{Known, is_known}

-- the item that a name finds among those whose number is below this one
abbrev pub item_below : CatalogState → ℕ → List ℕ → Option Item
item_below catalog below name = find (λ item. bytes_eq name item.name) (items_below below catalog.items)

-- the number of an item, where there is one that isn't known
abbrev pub unknown_item : Known → Option Item → Option ℕ
unknown_item known None = None
unknown_item known (Some item) = if is_known known item.id then None else Some item.id

-- the number of the item that a name finds, where that isn't known
abbrev pub unknown_named : Known → CatalogState → ℕ → List ℕ → Option ℕ
unknown_named known catalog below name = unknown_item known (item_below catalog below name)

-- the number of the first item that one of these references names and that isn't known
abbrev pub unknown_of : Known → CatalogState → ℕ → List Reference → Option ℕ
unknown_of known catalog below [] = None
unknown_of known catalog below (first ∷ others) =
    option_or (unknown_named known catalog below first.name) (unknown_of known catalog below others)

-- the number of the first item that one of these selects names and that isn't known
abbrev pub unknown_in : Known → CatalogState → ℕ → List Select → Option ℕ
unknown_in known catalog below [] = None
unknown_in known catalog below (first ∷ others) =
    option_or (unknown_of known catalog below (references first)) (unknown_in known catalog below others)

-- the query that an item of this kind stands for; no select for what is no view
abbrev pub selects_of : ItemKind → List Select
selects_of (View columns query) = query_of query
selects_of kind = []
