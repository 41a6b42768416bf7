-- The oldest index in each place, as items come and go.
use Rattle.std.proofs.Common.{◌≡◌, ℕ, ◌==◌, ◌<◌, Bool, true, false, ◌&&◌, cond, not, List, [], ◌∷◌, ◌++◌, Option, None, Some, find, is_some, nat_eq, refl, sym, ap, subst, ◌∙◌, arith}
use Rattle.std.proofs.lemmas.Bool.{eqb-true}
use Rattle.std.proofs.lemmas.List.Folds.{find-append}
use Rattle.std.specs.List.{All}
use Rattle.std.specs.Option.{option_map, option_or, IfSome, IsSome}
use Rattle.mz_plan.specs.declared.item.Item.{Item}
use Rattle.mz_plan.specs.declared.item.ItemKind.{ItemKind}
use Rattle.mz_plan.specs.declared.item.ItemKind.TheVariants.{Table, View, Index}
use Rattle.mz_plan.specs.Items.{Ascend, is_on, numbered, oldest_index, others}
use Rattle.mz_catalog.specs.Oldest.{KeepsOldest, index_place, is_at, kept_at, kind_place, same_place}
use Rattle.mz_catalog.proofs.ItemLemmas.{ascend-head, ascend-tail, others-above}

-- an item is the index that is looked for
abbrev passes : ℕ → ℕ → Item → Bool
passes on cluster item = item.cluster == cluster && is_on on item.kind

-- two numbers are one in either order, and so are two pairs
turned : (a b c d : ℕ) → (nat_eq a b && nat_eq c d) ≡ (d == c && b == a)
turned a b c d = grind arith

kind_at : (on cluster within : ℕ) (kind : ItemKind) → is_at (on, cluster) (kind_place within kind) ≡ (within == cluster && is_on on kind)
kind_at on cluster within (Table columns) = none (within == cluster)
  where
    none : (b : Bool) → false ≡ (b && false)
    none true = refl
    none false = refl
kind_at on cluster within (View columns query) = none (within == cluster)
  where
    none : (b : Bool) → false ≡ (b && false)
    none true = refl
    none false = refl
kind_at on cluster within (Index relation plan) = turned on relation cluster within

-- an index is in its place alone
place_passes : (on cluster : ℕ) (item : Item) → is_at (on, cluster) (index_place item) ≡ passes on cluster item
place_passes on cluster item = kind_at on cluster item.cluster item.kind

-- nothing is kept where no item is
pub oldest-empty : KeepsOldest [] []
oldest-empty = record { oldest = λ on cluster. refl }

-- a newer index is the oldest where there was none
mapped_or : (one : Option Item) (b : Bool) (last : Item)
    → option_map (λ item. item.id) (option_or one (cond b (Some last) None))
    ≡ option_or (option_map (λ item. item.id) one) (cond b (Some last.id) None)
mapped_or None true last = refl
mapped_or None false last = refl
mapped_or (Some item) b last = refl

pub oldest-push : (es fs : List ((ℕ × ℕ) × ℕ)) (items : List Item) (last : Item) → KeepsOldest es items
    → ((other : ℕ × ℕ) → kept_at fs other ≡ option_or (kept_at es other) (cond (is_at other (index_place last)) (Some last.id) None))
    → KeepsOldest fs (items ++ last ∷ [])
oldest-push es fs items last keeps notes = record {
  oldest = λ on cluster.
      notes (on, cluster)
      ∙ (λ i. option_or (keeps.oldest on cluster i) (cond (place_passes on cluster last i) (Some last.id) None))
      ∙ sym (ap (option_map (λ item. item.id)) (find-append (passes on cluster) items (last ∷ []))
      ∙ mapped_or (find (passes on cluster) items) (passes on cluster last) last);
}

-- what is looked for is found where an item of a number is it
pub found-numbered : (test : Item → Bool) (id : ℕ) (items : List Item) (x : Item) → numbered id items ≡ Some x → test x ≡ true
    → is_some (option_map (λ item. item.id) (find test items)) ≡ true
found-numbered test id [] x at is = absurd cc
found-numbered test id (item ∷ items) x at is = by (item.id == id) at (test item) refl (found-numbered test id items x)
  where
    by : (b : Bool) → cond b (Some item) (numbered id items) ≡ Some x → (c : Bool) → test item ≡ c
        → (numbered id items ≡ Some x → test x ≡ true → is_some (option_map (λ item. item.id) (find test items)) ≡ true)
        → is_some (option_map (λ item. item.id) (cond c (Some item) (find test items))) ≡ true
    by b at true here rest = refl
    by true at false here rest = let same : item ≡ x = cc in absurd (never (sym here ∙ ap test same ∙ is))
      where
        never : false ≡ true → ⊥
        never e = cc
    by false at false here rest = rest at is

-- so a number is kept for the place of an index that is there
pub kept-place : (es : List ((ℕ × ℕ) × ℕ)) (id : ℕ) (items : List Item) (x : Item) → KeepsOldest es items → numbered id items ≡ Some x
    → IfSome (index_place x) (λ place. IsSome (kept_at es place))
kept-place es id items x keeps at = by (index_place x) refl
  where
    same : (n m : ℕ) → same_place (n, m) (n, m) ≡ true
    same n m = grind arith

    by : (place : Option (ℕ × ℕ)) → index_place x ≡ place → IfSome place (λ there. IsSome (kept_at es there))
    by None is = tt
    by (Some place) is =
        ap is_some (keeps.oldest place.0 place.1)
        ∙ found-numbered (passes place.0 place.1) id items x at
        (sym (place_passes place.0 place.1 x) ∙ ap (is_at (place.0, place.1)) is ∙ same place.0 place.1)

-- what is looked for is found as before where an item goes that isn't it
find-others : (test : Item → Bool) (id : ℕ) (items : List Item) (x : Item) → Ascend items → numbered id items ≡ Some x → test x ≡ false
    → find test (others id items) ≡ find test items
find-others test id [] x up at is = refl
find-others test id (item ∷ items) x up at is =
    by (item.id == id) refl at (find-others test id items x (ascend-tail item items up))
  where
    by : (b : Bool) → item.id == id ≡ b → cond b (Some item) (numbered id items) ≡ Some x
        → (numbered id items ≡ Some x → test x ≡ false → find test (others id items) ≡ find test items)
        → find test (cond (not b) (item ∷ others id items) (others id items)) ≡ cond (test item) (Some item) (find test items)
    by true here at rest =
        let same : item ≡ x = cc in
        let above = subst (λ n. All (λ later. n < later.id) items) (eqb-true item.id id here) (ascend-head item items up) in
        ap (find test) (others-above id items above)
        ∙ sym (ap (λ b. cond b (Some item) (find test items)) (ap test same ∙ is))
    by false here at rest = ap (cond (test item) (Some item)) (rest at is)

-- without an index, the oldest one of its place is looked for again
pub oldest-others : (es fs : List ((ℕ × ℕ) × ℕ)) (id : ℕ) (items left : List Item) (x : Item) → KeepsOldest es items → Ascend items
    → numbered id items ≡ Some x → left ≡ others id items
    → ((other : ℕ × ℕ) → kept_at fs other ≡ cond (is_at other (index_place x)) (oldest_index left other.1 other.0) (kept_at es other))
    → KeepsOldest fs left
oldest-others es fs id items left x keeps up at rest renews = record {
  oldest = λ on cluster. renews (on, cluster) ∙ by on cluster (is_at (on, cluster) (index_place x)) refl;
}
  where
    by : (on cluster : ℕ) (b : Bool) → is_at (on, cluster) (index_place x) ≡ b
        → cond b (oldest_index left cluster on) (kept_at es (on, cluster)) ≡ oldest_index left cluster on
    by on cluster true is = refl
    by on cluster false is =
        keeps.oldest on cluster
        ∙ ap (option_map (λ item. item.id)) (sym (find-others (passes on cluster) id items x up at (sym (place_passes on cluster x) ∙ is)))
        ∙ ap (λ items. oldest_index items cluster on) (sym rest)
