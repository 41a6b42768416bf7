-- The first dependent, and all of them.
use Rattle.std.proofs.Common.{◌≡◌, Bool, true, false, cond, List, [], ◌∷◌, None, Some, find, filter, refl, sym, subst}
use Rattle.mz_plan.specs.declared.item.Item.{Item}
use Rattle.mz_catalog.specs.declared.fault.CatalogFault.{CatalogFault}
use Rattle.mz_plan.specs.Items.{depends, is_index, dependents_on}
use Rattle.mz_catalog.specs.Dependents.{Tells, IsHeldBack}

-- where no item passes a test, none is kept by it
pub filter-none : (test : Item → Bool) (items : List Item) → find test items ≡ None → filter test items ≡ []
filter-none test [] none = refl
filter-none test (item ∷ items) none = by (test item) none (filter-none test items)
  where
    by : (b : Bool) → cond b (Some item) (find test items) ≡ None → (find test items ≡ None → filter test items ≡ [])
        → cond b (item ∷ filter test items) (filter test items) ≡ []
    by true none rest = cc
    by false none rest = rest none

-- what is told of the first that passes holds back by all that pass
pub held_back-filter : (test : Item → Bool) (items : List Item) (first : Item) (fault : CatalogFault)
    → find test items ≡ Some first → Tells fault first → IsHeldBack fault (filter test items)
held_back-filter test [] first fault at tells = cc
held_back-filter test (item ∷ items) first fault at tells = by (test item) at (λ rest. held_back-filter test items first fault rest tells)
  where
    by : (b : Bool) → cond b (Some item) (find test items) ≡ Some first
        → (find test items ≡ Some first → IsHeldBack fault (filter test items))
        → IsHeldBack fault (cond b (item ∷ filter test items) (filter test items))
    by true at rest = let same : first ≡ item = cc in subst (λ x. Tells fault x) same tells
    by false at rest = rest at

-- an item has no dependents where none is found
pub dependents-none : (on : Item) (items : List Item) → find (λ item. depends item.kind on) items ≡ None
    → dependents_on on items ≡ []
dependents-none on items none = by (is_index on.kind)
  where
    by : (b : Bool) → cond b [] (filter (λ item. depends item.kind on) items) ≡ []
    by true = refl
    by false = filter-none (λ item. depends item.kind on) items none

-- and one that is no index is held back by the first that is found
pub dependents-first : (on : Item) (items : List Item) (first : Item) (fault : CatalogFault) → is_index on.kind ≡ false
    → find (λ item. depends item.kind on) items ≡ Some first → Tells fault first → IsHeldBack fault (dependents_on on items)
dependents-first on items first fault other at tells =
    subst (λ b. IsHeldBack fault (cond b [] (filter (λ item. depends item.kind on) items))) (sym other)
    (held_back-filter (λ item. depends item.kind on) items first fault at tells)
