-- What a catalog holds, and how additions and removals change it.
use Rattle.std.specs.Prelude.{ℕ, refl, ◌+◌, ◌≡◌, ◌≢◌, ◌<◌, ◌≤◌, ◌⊎◌, List, [], ◌∷◌, ◌++◌, length, Option, None, Some, is_some, nat_le, if◌then◌else◌}
use Rattle.std.specs.Coded.{Coded, code_by, coded×, coded_list, coded_ℕ}
use Rattle.std.specs.List.{All, AllPairs}
use Rattle.mz_plan.specs.declared.item.Item.{Item}
use Rattle.mz_plan.specs.Items.{Ascend, named, others}
use Rattle.mz_catalog.specs.declared.fault.CatalogFault.{CatalogFault}
use Rattle.mz_catalog.specs.declared.fault.CatalogFault.TheVariants.{NameTaken, TooMany, Memory}

-- the items in order of creation, and the number that the next one gets
pub record CatalogState : Type 0 where
  pub items : List Item
  pub next : ℕ

-- a state written out, as its items are
abbrev pub state_code : Coded Item → Coded CatalogState
state_code item_code =
    code_by (List Item × ℕ) (coded× (coded_list item_code) coded_ℕ)
    (λ s. (s.items, s.next)) (λ p. record { items = p.0; next = p.1 }) (λ _. refl)

-- how many items there may be
abbrev pub most_items : ℕ
most_items = 1024

-- the state with no items, whose first item gets the number 1
abbrev pub empty : CatalogState
empty = record { items = []; next = 1 }

-- no two items have one name, numbers ascend and are below the next one, and there are no more than there may be
pub record IsCatalog (catalog : CatalogState) : Type 0 where
  pub names : AllPairs (λ one other. one.name ≢ other.name) catalog.items
  pub numbers : Ascend catalog.items
  pub below : All (λ item. item.id < catalog.next) catalog.items
  pub few : length catalog.items ≤ most_items

-- the state with one more item, which stands last and has the next number
abbrev pub with_item : CatalogState → Item → CatalogState
with_item catalog item = record {
  items = catalog.items ++ (record item { id = catalog.next }) ∷ [];
  next = catalog.next + 1;
}

-- why an item of this name can't be added: the name is taken, or else there are as many items as there may be; None where it can
abbrev pub refusal : List Item → List ℕ → Option CatalogFault
refusal items name = if is_some (named name items) then Some (NameTaken name)
    else (if nat_le most_items (length items) then Some (TooMany most_items) else None)

-- an addition fails by its refusal, where there is one, or for want of memory
abbrev pub IsCause : CatalogFault → Option CatalogFault → Type 0
IsCause fault cause = (cause ≡ Some fault) ⊎ (fault ≡ Memory)

-- the state without the item of this number, the others in their order; its number is not used again
abbrev pub without : CatalogState → ℕ → CatalogState
without catalog id = record catalog { items = others id catalog.items }
