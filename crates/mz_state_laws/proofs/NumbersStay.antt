-- The tables among the items have bags, in the same order, whatever changes.
use Rattle.std.proofs.Common.{◌≡◌, ◌<◌, ◌==◌, ℕ, suc, Bool, true, false, cond, not, List, [], ◌∷◌, ◌++◌, filter, map, refl, sym, ap, subst, ◌∙◌, arith}
use Rattle.std.proofs.lemmas.Bool.{eqb-true, ne_eqb}
use Rattle.std.proofs.lemmas.List.{map-append}
use Rattle.std.proofs.lemmas.List.Elements.{filter-append, recursion_from_All}
use Rattle.std.specs.Prelude.{⊤}
use Rattle.std.specs.List.{AllByRecursion as Each}
use Rattle.mz_bag.specs.Bag.{Counts}
use Rattle.mz_bag.specs.Weighted.{Weighted}
use Rattle.mz_plan.specs.Items.{Ascend, is_table, others}
use Rattle.mz_plan.specs.declared.item.Item.{Item}
use Rattle.mz_plan.specs.declared.item.ItemKind.{ItemKind}
use Rattle.mz_plan.specs.declared.item.ItemKind.TheVariants.{Table, View, Index}
use Rattle.mz_plan_laws.proofs.TypedValues.{each_kept, each_map}
use Rattle.mz_resolve_laws.proofs.NameTypes.{pairs_tail}
use Rattle.mz_log.specs.Sequential.{Bags, added, bag_at, new_bag, with_rows, without_bag}
use Rattle.mz_state_laws.specs.Well.{numbers_of, tables_of}

-- ---- an item more

-- the bag that comes with an item has its number
new_numbers : (item : Item) (kind : ItemKind) → numbers_of (new_bag item.id kind) ≡ map (λ item. item.id) (cond (is_table kind) (item ∷ []) [])
new_numbers item (Table columns) = refl
new_numbers item (View columns query) = refl
new_numbers item (Index on plan) = refl

-- so the numbers stay alike
pub numbers_more : (items : List Item) (bags : Bags) (item : Item) → numbers_of bags ≡ tables_of items
    → numbers_of (bags ++ new_bag item.id item.kind) ≡ tables_of (items ++ item ∷ [])
numbers_more items bags item is =
    map-append (λ bag. bag.0) bags (new_bag item.id item.kind)
    ∙ (λ i. is i ++ new_numbers item item.kind i)
    ∙ sym (ap (map (λ item. item.id)) (filter-append (λ item. is_table item.kind) items (item ∷ []))
    ∙ map-append (λ item. item.id) (filter (λ item. is_table item.kind) items) (filter (λ item. is_table item.kind) (item ∷ [])))

-- ---- an item less

-- two filters in either order
filters_turn : {X : Type 0} (p q : X → Bool) (xs : List X) → filter p (filter q xs) ≡ filter q (filter p xs)
filters_turn p q [] = refl
filters_turn p q (x ∷ xs) = by (p x) refl (q x) refl (filters_turn p q xs)
  where
    by : (b : Bool) → p x ≡ b → (c : Bool) → q x ≡ c → filter p (filter q xs) ≡ filter q (filter p xs)
        → filter p (cond c (x ∷ filter q xs) (filter q xs)) ≡ filter q (cond b (x ∷ filter p xs) (filter p xs))
    by true h true k rest =
        ap (λ b. cond b (x ∷ filter p (filter q xs)) (filter p (filter q xs))) h ∙ ap (λ ys. x ∷ ys) rest
        ∙ sym (ap (λ c. cond c (x ∷ filter q (filter p xs)) (filter q (filter p xs))) k)
    by true h false k rest = rest ∙ sym (ap (λ c. cond c (x ∷ filter q (filter p xs)) (filter q (filter p xs))) k)
    by false h true k rest = ap (λ b. cond b (x ∷ filter p (filter q xs)) (filter p (filter q xs))) h ∙ rest
    by false h false k rest = rest

-- a filter of what a function gives is what it gives of a filter
filter_mapped : {X Y : Type 0} (p : Y → Bool) (f : X → Y) (xs : List X) → map f (filter (λ x. p (f x)) xs) ≡ filter p (map f xs)
filter_mapped p f [] = refl
filter_mapped p f (x ∷ xs) = by (p (f x)) (filter_mapped p f xs)
  where
    by : (c : Bool) → map f (filter (λ y. p (f y)) xs) ≡ filter p (map f xs)
        → map f (cond c (x ∷ filter (λ y. p (f y)) xs) (filter (λ y. p (f y)) xs)) ≡ cond c (f x ∷ filter p (map f xs)) (filter p (map f xs))
    by true rest = ap (λ ys. f x ∷ ys) rest
    by false rest = rest

-- so the numbers stay alike
pub numbers_less : (items : List Item) (bags : Bags) (id : ℕ) → numbers_of bags ≡ tables_of items
    → numbers_of (without_bag id bags) ≡ tables_of (others id items)
numbers_less items bags id is =
    filter_mapped (λ n. not (n == id)) (λ bag. bag.0) bags ∙ ap (filter (λ n. not (n == id))) is
    ∙ sym (ap (map (λ item. item.id)) (filters_turn (λ item. is_table item.kind) (λ item. not (item.id == id)) items)
    ∙ filter_mapped (λ n. not (n == id)) (λ item. item.id) (filter (λ item. is_table item.kind) items))

-- ---- rows

-- rows that come change no number
pub numbers_kept : (table : ℕ) (ws : Weighted) (bags : Bags) → numbers_of (with_rows table ws bags) ≡ numbers_of bags
numbers_kept table ws [] = refl
numbers_kept table ws (bag ∷ bags) = by (bag.0 == table) (numbers_kept table ws bags)
  where
    by : (b : Bool) → numbers_of (with_rows table ws bags) ≡ numbers_of bags
        → numbers_of (cond b (bag.0, added bag.1 ws) bag ∷ with_rows table ws bags) ≡ bag.0 ∷ numbers_of bags
    by true rest = ap (λ ns. bag.0 ∷ ns) rest
    by false rest = ap (λ ns. bag.0 ∷ ns) rest

-- ---- numbers ascend

-- each number is below those behind it
abbrev pub Rise : List ℕ → Type 0
Rise [] = ⊤
Rise (n ∷ ns) = Each (λ m. n < m) ns × Rise ns

-- what holds of the number of each item holds of the tables
pub each_table : (P : ℕ → Type 0) (items : List Item) → Each (λ item. P item.id) items → Each P (tables_of items)
each_table P items h =
    each_map P (λ item. item.id) (filter (λ item. is_table item.kind) items) (each_kept (λ item. P item.id) (λ item. is_table item.kind) items h)

-- the tables of items that ascend do so
pub tables_rise : (items : List Item) → Ascend items → Rise (tables_of items)
tables_rise [] up = tt
tables_rise (item ∷ items) up =
    by (is_table item.kind)
    (each_table (λ m. item.id < m) items
    (recursion_from_All (λ other. item.id < other.id) items (λ k d within. up 0 (suc k) d (omega arith) (omega arith))))
    (tables_rise items (pairs_tail (λ earlier later. earlier.id < later.id) item items up))
  where
    by : (c : Bool) → Each (λ m. item.id < m) (tables_of items) → Rise (tables_of items)
        → Rise (map (λ item. item.id) (cond c (item ∷ filter (λ item. is_table item.kind) items) (filter (λ item. is_table item.kind) items)))
    by true first rest = (first, rest)
    by false first rest = rest

-- ---- what holds of each bag

-- it does so where rows come to a bag that stands before all of these
each_unmoved : (P : ℕ → Counts → Type 0) (table : ℕ) (ws : Weighted) (bags : Bags) → Each (λ m. table < m) (numbers_of bags)
    → Each (λ bag. P bag.0 bag.1) bags → Each (λ bag. P bag.0 bag.1) (with_rows table ws bags)
each_unmoved P table ws [] above h = tt
each_unmoved P table ws (bag ∷ bags) above h = (
  subst (λ c. P (cond c (bag.0, added bag.1 ws) bag).0 (cond c (bag.0, added bag.1 ws) bag).1)
      (sym (ne_eqb bag.0 table (λ e. omega (arith, e, above.0)))) h.0,
  each_unmoved P table ws bags above.1 h.1,
)

-- and where rows come to one of them, if it holds of that one
pub each_moved : (P : ℕ → Counts → Type 0) (table : ℕ) (ws : Weighted) (bags : Bags) → Rise (numbers_of bags)
    → Each (λ bag. P bag.0 bag.1) bags → (P table (bag_at bags table) → P table (added (bag_at bags table) ws))
    → Each (λ bag. P bag.0 bag.1) (with_rows table ws bags)
each_moved P table ws [] rise h k = tt
each_moved P table ws (bag ∷ bags) rise h k = by (each_moved P table ws bags rise.1 h.1) (bag.0 == table) refl k
  where
    by : ((P table (bag_at bags table) → P table (added (bag_at bags table) ws)) → Each (λ bag. P bag.0 bag.1) (with_rows table ws bags))
        → (c : Bool) → (bag.0 == table) ≡ c
        → (P table (cond c bag.1 (bag_at bags table)) → P table (added (cond c bag.1 (bag_at bags table)) ws))
        → Each (λ bag. P bag.0 bag.1) (cond c (bag.0, added bag.1 ws) bag ∷ with_rows table ws bags)
    by rest true is k = (
      subst (λ n. P n (added bag.1 ws)) (sym (eqb-true bag.0 table is)) (k (subst (λ n. P n bag.1) (eqb-true bag.0 table is) h.0)),
      each_unmoved P table ws bags (subst (λ n. Each (λ m. n < m) (numbers_of bags)) (eqb-true bag.0 table is) rise.0) h.1,
    )
    by rest false is k = (h.0, rest k)

-- what holds of each bag, and of the empty one, holds of the bag that is looked up
pub each_looked_up : (P : ℕ → Counts → Type 0) (table : ℕ) (bags : Bags) → Each (λ bag. P bag.0 bag.1) bags → P table (bag_at [] table)
    → P table (bag_at bags table)
each_looked_up P table [] h none = none
each_looked_up P table (bag ∷ bags) h none = by (bag.0 == table) refl (each_looked_up P table bags h.1 none)
  where
    by : (c : Bool) → (bag.0 == table) ≡ c → P table (bag_at bags table) → P table (cond c bag.1 (bag_at bags table))
    by true is rest = subst (λ n. P n bag.1) (eqb-true bag.0 table is) h.0
    by false is rest = rest
