-- What is known of items while a statement is resolved: what those that it has reached stand for.
use Rattle.std.specs.Prelude.{ℕ, ◌≡◌, Bool, true, List, Option, Some, is_some, nat_eq, option_map}
use Rattle.std.specs.List.{AllByRecursion as Each}
use Rattle.std.specs.Map.{lookup}
use Rattle.mz_plan.specs.Items.{numbered}
use Rattle.mz_plan.specs.declared.item.Item.{Item}
use Rattle.mz_catalog.specs.CatalogState.{CatalogState}
use Rattle.mz_resolution.specs.Resolution.{item_relation}
use Rattle.mz_resolution.specs.Steps.{Step}
use Rattle.mz_resolution.specs.declared.relation.NamedRelation.{NamedRelation}
use Rattle.mz_resolve.specs.InCatalog.{names_below, scope_in}

-- under the number of an item what it stands for, or its first refusal
abbrev pub Known : Type 0
Known = List (ℕ × Step NamedRelation)

-- the item of this number is known
abbrev pub is_known : Known → ℕ → Bool
is_known known id = is_some (lookup (nat_eq id) known)

-- what an item of a catalog stands for. The names in a view's query are those of older items
abbrev pub stands_for : CatalogState → ℕ → Item → Step NamedRelation
stands_for catalog cluster item = item_relation (scope_in catalog cluster) (names_below catalog cluster item.id) item item.kind

-- what the item of this number stands for, where there is one
abbrev pub stands_at : CatalogState → ℕ → ℕ → Option (Step NamedRelation)
stands_at catalog cluster id = option_map (stands_for catalog cluster) (numbered id catalog.items)

-- each item that is known stands for what is kept under its number
pub record IsTrueOf (catalog : CatalogState) (cluster : ℕ) (known : Known) : Type 0 where
  pub entries : Each (λ entry. stands_at catalog cluster entry.0 ≡ Some entry.1) known

-- what was known before is known after
pub record Keeps (before after : Known) : Type 0 where
  pub known : (id : ℕ) → is_known before id ≡ true → is_known after id ≡ true
