-- Items that wait until those that their queries name are known.
use Rattle.std.specs.Prelude.{ℕ, ◌≡◌, ◌<◌, ◌⊎◌, ⊤, false, List, [], ◌∷◌, ◌++◌, Some, IsSome}
use Rattle.std.specs.List.{AllByRecursion as Each}
use Rattle.mz_plan.specs.Items.{numbered}
use Rattle.mz_plan.specs.declared.item.Item.{Item}
use Rattle.mz_catalog.specs.CatalogState.{CatalogState}
use Rattle.mz_resolution.specs.Steps.{Step}
use Rattle.mz_resolution.specs.declared.relation.NamedRelation.{NamedRelation}
use Rattle.mz_resolve.specs.Known.{Known, is_known, stands_at}

-- there is an item of this number, and it isn't known
pub record IsWaiting (known : Known) (items : List Item) (id : ℕ) : Type 0 where
  pub there : IsSome (numbered id items)
  pub unknown : is_known known id ≡ false

-- items wait, each for those behind it, which are older
abbrev pub IsPath : Known → List Item → List ℕ → Type 0
IsPath known items [] = ⊤
IsPath known items (id ∷ later) = IsWaiting known items id × Each (λ older. older < id) later × IsPath known items later

-- there is an item of each of these numbers
abbrev pub AreThere : List Item → List ℕ → Type 0
AreThere items ids = Each (λ id. IsSome (numbered id items)) ids

-- the item still waits, and behind it an older one that its query names
pub record Waits (items : List Item) (known : Known) (waiting : List ℕ) (id : ℕ) (known' : Known) (waiting' : List ℕ) : Type 0 where
  pub older : ℕ
  pub below : older < id
  pub waits : IsWaiting known items older
  pub waiting_is : waiting' ≡ waiting ++ id ∷ older ∷ []
  pub known_is : known' ≡ known

-- from the item that waits last up to the topmost none waits any longer, and this is what the topmost stands for
pub record Climbs (catalog : CatalogState) (cluster : ℕ) (waiting : List ℕ) (id : ℕ) (waiting' : List ℕ) (top : ℕ) (kept : Step NamedRelation)
    : Type 0 where
  pub skipped : List ℕ
  pub waiting_is : waiting ++ id ∷ [] ≡ waiting' ++ top ∷ skipped
  pub stands : stands_at catalog cluster top ≡ Some kept

-- the item waits no longer, nor do those that were resolved with it: the topmost of them is known
pub record Learns (catalog : CatalogState) (cluster : ℕ) (known : Known) (waiting : List ℕ) (id : ℕ) (known' : Known) (waiting' : List ℕ)
    : Type 0 where
  pub top : ℕ
  pub kept : Step NamedRelation
  pub climbs : Climbs catalog cluster waiting id waiting' top kept
  pub known_is : known' ≡ known ++ (top, kept) ∷ []

-- one step: what waits last waits for an older item, or is resolved, and an item is known from then on
abbrev pub Steps : CatalogState → ℕ → Known → List ℕ → ℕ → Known → List ℕ → Type 0
Steps catalog cluster known waiting id known' waiting' =
    Waits catalog.items known waiting id known' waiting' ⊎ Learns catalog cluster known waiting id known' waiting'
