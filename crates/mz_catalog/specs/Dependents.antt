-- What a removal says where something depends on the item.
use Rattle.std.specs.Prelude.{◌≡◌, ◌⊎◌, List, [], ◌∷◌}
use Rattle.mz_plan.specs.declared.item.Item.{Item}
use Rattle.mz_catalog.specs.declared.fault.CatalogFault.{CatalogFault}
use Rattle.mz_catalog.specs.declared.fault.CatalogFault.TheVariants.{HasDependents, Memory}

-- the fault tells the name of the dependent, or that there was no memory for it
abbrev pub Tells : CatalogFault → Item → Type 0
Tells fault dependent = (fault ≡ HasDependents dependent.name) ⊎ (fault ≡ Memory)

-- a removal fails only where there are dependents, and tells the first
abbrev pub IsHeldBack : CatalogFault → List Item → Type 0
IsHeldBack fault [] = ⊥
IsHeldBack fault (first ∷ rest) = Tells fault first
