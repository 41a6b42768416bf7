-- What a stored catalog stays.
use Rattle.std.proofs.Common.{◌≡◌, ◌≢◌, ℕ, zero, suc, ◌+◌, ◌<◌, ◌≤◌, not, ◌==◌, List, [], ◌∷◌, ◌++◌, length, None, Result, Ok, Err, OnOk, OnErr, remove, refl, sym, ap, subst, arith}
use Rattle.std.proofs.lemmas.List.Elements.{All-push, All-filter, All-nil}
use Rattle.std.proofs.lemmas.List.Kept.{AllPairs-filter}
use Rattle.std.proofs.lemmas.List.{length_push}
use Rattle.std.proofs.lemmas.List.Filters.{length-filter_both}
use Rattle.std.specs.List.{All}
use Rattle.std.specs.Map.{values_of}
use Rattle.mz_plan.specs.declared.item.Item.{Item}
use Rattle.mz_plan.specs.Items.{others}
use Rattle.mz_catalog.specs.CatalogState.{CatalogState, IsCatalog, empty, with_item, without, refusal}
use Rattle.mz_catalog.specs.Keyed.{AreKeyed, state_of, IsStored}
use Rattle.mz_catalog.proofs.ItemLemmas.{named-none, all_pairs-push, free-from_refusal}

-- the values of entries with one more
pub values-push : (es : List (List ℕ × Item)) (e : List ℕ × Item) → values_of (es ++ e ∷ []) ≡ values_of es ++ e.1 ∷ []
values-push [] e = refl
values-push (x ∷ es) e = ap (λ rest. x.1 ∷ rest) (values-push es e)

-- entries stay keyed with one more
keyed-push : (es : List (List ℕ × Item)) (e : List ℕ × Item) → AreKeyed es → e.0 ≡ e.1.name → AreKeyed (es ++ e ∷ [])
keyed-push [] e keyed is = (is, tt)
keyed-push (x ∷ es) e keyed is = (keyed.0, keyed-push es e keyed.1 is)

-- and without the one at a place
pub keyed-remove : (es : List (List ℕ × Item)) (place : ℕ) → AreKeyed es → AreKeyed (remove es place)
keyed-remove [] zero keyed = tt
keyed-remove [] (suc place) keyed = tt
keyed-remove (e ∷ es) zero keyed = keyed.1
keyed-remove (e ∷ es) (suc place) keyed = (keyed.0, keyed-remove es place keyed.1)

-- the catalog with no items is one
pub catalog-empty : IsCatalog empty
catalog-empty = record {
  names = λ i j d lt within. absurd (omega arith);
  numbers = λ i j d lt within. absurd (omega arith);
  below = All-nil _;
  few = omega arith;
}

-- numbers stay below the next one as it moves on
below-more : (items : List Item) (next : ℕ) → All (λ item. item.id < next) items → All (λ item. item.id < next + 1) items
below-more items next below k d within = let under = below k d within in omega arith

-- one with an item that isn't refused is one
pub catalog-with_item : (catalog : CatalogState) (item : Item) → IsCatalog catalog → refusal catalog.items item.name ≡ None
    → IsCatalog (with_item catalog item)
catalog-with_item catalog item is none =
    let free = free-from_refusal catalog.items item.name none in
    let last : Item = record item { id = catalog.next } in
    record {
      names =
          all_pairs-push (λ one other. one.name ≢ other.name) catalog.items last is.names
          (named-none item.name catalog.items free.name_free);
      numbers = all_pairs-push (λ earlier later. earlier.id < later.id) catalog.items last is.numbers is.below;
      below = All-push (λ x. x.id < catalog.next + 1) catalog.items last (below-more catalog.items catalog.next is.below) (omega arith);
      few = omega (arith, free.place_free, length_push catalog.items last);
    }

-- a filter leaves no more items
shorter : (id : ℕ) (items : List Item) → length (others id items) ≤ length items
shorter id items = omega (arith, length-filter_both (λ item. not (item.id == id)) (λ item. not (not (item.id == id))) (λ item. refl) items)

-- and one without an item
pub catalog-without : (catalog : CatalogState) (id : ℕ) → IsCatalog catalog → IsCatalog (without catalog id)
catalog-without catalog id is = record {
  names = AllPairs-filter (λ one other. one.name ≢ other.name) (λ item. not (item.id == id)) catalog.items is.names;
  numbers = AllPairs-filter (λ earlier later. earlier.id < later.id) (λ item. not (item.id == id)) catalog.items is.numbers;
  below = All-filter (λ item. not (item.id == id)) (λ item. item.id < catalog.next) catalog.items is.below;
  few = omega (arith, is.few, shorter id catalog.items);
}

-- what is stored stays so with an item that isn't refused
pub stored-push : (es : List (List ℕ × Item)) (next : ℕ) (item : Item) → IsStored es next
    → refusal (values_of es) item.name ≡ None → IsStored (es ++ (item.name, record item { id = next }) ∷ []) (next + 1)
stored-push es next item is none =
    let last : List ℕ × Item = (item.name, record item { id = next }) in
    record {
      keyed = keyed-push es last is.keyed refl;
      catalog =
          subst (λ items. IsCatalog (record { items = items; next = next + 1 })) (sym (values-push es last))
          (catalog-with_item (state_of es next) item is.catalog none);
    }

-- and without one
pub stored-others : (es fs : List (List ℕ × Item)) (next id : ℕ) → IsStored es next → AreKeyed fs
    → values_of fs ≡ others id (values_of es) → IsStored fs next
stored-others es fs next id is keyed rest = record {
  keyed = keyed;
  catalog = subst (λ items. IsCatalog (record { items = items; next = next })) (sym rest) (catalog-without (state_of es next) id is.catalog);
}

-- and whether or not the one was taken out
pub stored-either : {E : Type 0} (r : Result (Unit {0}) E) (es fs : List (List ℕ × Item)) (next id : ℕ)
    → OnOk r (values_of fs ≡ others id (values_of es)) → OnErr r (fs ≡ es) → AreKeyed fs → IsStored es next → IsStored fs next
stored-either (Ok u) es fs next id ok err keyed is = stored-others es fs next id is keyed ok
stored-either (Err e) es fs next id ok err keyed is = subst (λ gs. IsStored gs next) (sym err) is
