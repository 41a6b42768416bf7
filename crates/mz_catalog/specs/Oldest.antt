-- The oldest index on each item in each cluster, as a catalog keeps it.
use Rattle.std.specs.Prelude.{ℕ, ◌≡◌, Bool, false, ◌&&◌, List, Option, None, Some, nat_eq}
use Rattle.std.specs.Map.{lookup}
use Rattle.mz_plan.specs.declared.item.Item.{Item}
use Rattle.mz_plan.specs.declared.item.ItemKind.{ItemKind}
use Rattle.mz_plan.specs.declared.item.ItemKind.TheVariants.{Index}
use Rattle.mz_plan.specs.Items.{oldest_index}

-- two pairs of an item and a cluster are one
abbrev pub same_place : ℕ × ℕ → ℕ × ℕ → Bool
same_place one other = nat_eq one.0 other.0 && nat_eq one.1 other.1

-- the number that is kept for an item and a cluster, where there is one
abbrev pub kept_at : List ((ℕ × ℕ) × ℕ) → ℕ × ℕ → Option ℕ
kept_at entries place = lookup (same_place place) entries

-- what is of this kind is an index on this item, in this cluster; or none
abbrev pub kind_place : ℕ → ItemKind → Option (ℕ × ℕ)
kind_place cluster (Index on plan) = Some (on, cluster)
kind_place cluster kind = None

-- the item that an index is on, and its cluster
abbrev pub index_place : Item → Option (ℕ × ℕ)
index_place item = kind_place item.cluster item.kind

-- an index of this place, where there is one, is on this item in this cluster
abbrev pub is_at : ℕ × ℕ → Option (ℕ × ℕ) → Bool
is_at place None = false
is_at place (Some other) = same_place place other

-- what is kept for each item and each cluster is the number of the oldest index there
pub record KeepsOldest (entries : List ((ℕ × ℕ) × ℕ)) (items : List Item) : Type 0 where
  pub oldest : (on cluster : ℕ) → kept_at entries (on, cluster) ≡ oldest_index items cluster on
