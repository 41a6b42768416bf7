-- What a stored catalog is.
use Rattle.std.specs.Prelude.{ℕ, ◌≡◌, List}
use Rattle.std.specs.List.{AllByRecursion}
use Rattle.std.specs.Map.{values_of}
use Rattle.mz_plan.specs.declared.item.Item.{Item}
use Rattle.mz_catalog.specs.CatalogState.{CatalogState, IsCatalog}
use Rattle.mz_catalog.specs.Oldest.{KeepsOldest}

-- each entry's key is the name of its item
abbrev pub AreKeyed : List (List ℕ × Item) → Type 0
AreKeyed entries = AllByRecursion (λ entry. entry.0 ≡ entry.1.name) entries

-- the state that the entries and the next number stand for
abbrev pub state_of : List (List ℕ × Item) → ℕ → CatalogState
state_of entries next = record { items = values_of entries; next = next }

-- what the entries and the next number of a stored catalog are
pub record IsStored (entries : List (List ℕ × Item)) (next : ℕ) : Type 0 where
  pub keyed : AreKeyed entries
  pub catalog : IsCatalog (state_of entries next)

-- what the entries, the oldest indexes and the next number of a stored catalog are
pub record IsKept (entries : List (List ℕ × Item)) (oldest : List ((ℕ × ℕ) × ℕ)) (next : ℕ) : Type 0 where
  pub stored : IsStored entries next
  pub indexes : KeepsOldest oldest (values_of entries)
