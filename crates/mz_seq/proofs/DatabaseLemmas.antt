-- The tables among the items of a database, and their bags.
use Rattle.std.proofs.Common.{◌≡◌, ℕ, ◌==◌, ◌<◌, zero, suc, Bool, true, false, ◌||◌, cond, not, List, [], ◌∷◌, ◌++◌, map, filter, Some, refl, sym, ap, subst, ◌∙◌, true≢false, arith}
use Rattle.std.proofs.lemmas.Bool.{ne_eqb}
use Rattle.std.proofs.lemmas.List.{map-append}
use Rattle.std.proofs.lemmas.List.Elements.{filter-append}
use Rattle.std.specs.Prelude.{⊤}
use Rattle.std.specs.List.{list_any, All}
use Rattle.mz_bag.specs.Weighted.{Weighted}
use Rattle.mz_plan.specs.Items.{Ascend, is_table, numbered, others}
use Rattle.mz_plan.specs.declared.item.Item.{Item}
use Rattle.mz_plan.specs.declared.item.ItemKind.{ItemKind}
use Rattle.mz_plan.specs.declared.item.ItemKind.TheVariants.{Table, View, Index}
use Rattle.mz_catalog.proofs.ItemLemmas.{ascend-head, ascend-tail}
use Rattle.mz_log.specs.Sequential.{Bags, Database, Made, Removed, Moved, added, changed, new_bag, with_rows, without_bag}
use Rattle.mz_seq.specs.Asked.{HasTable}
use Rattle.mz_seq.specs.Tables.{has_bag, numbers_of, tables_of, AreApart, IsDatabase}

-- ---- a database stays one

new_numbers : (item : Item) (kind : ItemKind) → numbers_of (new_bag item.id kind) ≡ map (λ item. item.id) (cond (is_table kind) (item ∷ []) [])
new_numbers item (Table columns) = refl
new_numbers item (View columns query) = refl
new_numbers item (Index on plan) = refl

pub made_kept : (d : Database) (item : Item) → IsDatabase d → IsDatabase (changed d (Made item))
made_kept d item is = record {
  numbers =
      map-append (λ bag. bag.0) d.bags (new_bag item.id item.kind)
      ∙ (λ i. is.numbers i ++ new_numbers item item.kind i)
      ∙ sym (ap (map (λ item. item.id)) (filter-append (λ item. is_table item.kind) d.items (item ∷ []))
      ∙ map-append (λ item. item.id) (filter (λ item. is_table item.kind) d.items) (filter (λ item. is_table item.kind) (item ∷ [])));
}

left_bags : (id : ℕ) (bags : Bags) → numbers_of (without_bag id bags) ≡ filter (λ n. not (n == id)) (numbers_of bags)
left_bags id [] = refl
left_bags id (bag ∷ bags) = by (bag.0 == id) (left_bags id bags)
  where
    by : (b : Bool) → numbers_of (without_bag id bags) ≡ filter (λ n. not (n == id)) (numbers_of bags)
        → numbers_of (cond (not b) (bag ∷ without_bag id bags) (without_bag id bags))
        ≡ cond (not b) (bag.0 ∷ filter (λ n. not (n == id)) (numbers_of bags)) (filter (λ n. not (n == id)) (numbers_of bags))
    by true rest = rest
    by false rest = ap (λ ns. bag.0 ∷ ns) rest

left_items : (id : ℕ) (items : List Item) → tables_of (others id items) ≡ filter (λ n. not (n == id)) (tables_of items)
left_items id [] = refl
left_items id (item ∷ items) = by (item.id == id) refl (is_table item.kind) refl (left_items id items)
  where
    by : (b : Bool) → item.id == id ≡ b → (c : Bool) → is_table item.kind ≡ c
        → tables_of (others id items) ≡ filter (λ n. not (n == id)) (tables_of items)
        → tables_of (cond (not b) (item ∷ others id items) (others id items))
        ≡ filter (λ n. not (n == id)) (map (λ item. item.id) (cond c (item ∷ filter (λ item. is_table item.kind) items) (filter (λ item. is_table item.kind) items)))
    by true here true is rest =
        rest ∙ sym (ap (λ b. cond (not b) (item.id ∷ filter (λ n. not (n == id)) (tables_of items)) (filter (λ n. not (n == id)) (tables_of items))) here)
    by true here false is rest = rest
    by false here true is rest =
        ap (λ c. map (λ item. item.id) (cond c (item ∷ filter (λ item. is_table item.kind) (others id items)) (filter (λ item. is_table item.kind) (others id items)))) is
        ∙ ap (λ ns. item.id ∷ ns) rest
        ∙ sym (ap (λ b. cond (not b) (item.id ∷ filter (λ n. not (n == id)) (tables_of items)) (filter (λ n. not (n == id)) (tables_of items))) here)
    by false here false is rest =
        ap (λ c. map (λ item. item.id) (cond c (item ∷ filter (λ item. is_table item.kind) (others id items)) (filter (λ item. is_table item.kind) (others id items)))) is
        ∙ rest

pub removed_kept : (d : Database) (id : ℕ) → IsDatabase d → IsDatabase (changed d (Removed id))
removed_kept d id is = record {
  numbers = left_bags id d.bags ∙ ap (filter (λ n. not (n == id))) is.numbers ∙ sym (left_items id d.items);
}

moved_numbers : (table : ℕ) (ws : Weighted) (bags : Bags) → numbers_of (with_rows table ws bags) ≡ numbers_of bags
moved_numbers table ws [] = refl
moved_numbers table ws (bag ∷ bags) = by (bag.0 == table) (moved_numbers table ws bags)
  where
    by : (b : Bool) → numbers_of (with_rows table ws bags) ≡ numbers_of bags
        → numbers_of (cond b (bag.0, added bag.1 ws) bag ∷ with_rows table ws bags) ≡ bag.0 ∷ numbers_of bags
    by true rest = ap (λ ns. bag.0 ∷ ns) rest
    by false rest = ap (λ ns. bag.0 ∷ ns) rest

pub moved_kept : (d : Database) (table : ℕ) (ws : Weighted) → IsDatabase d → IsDatabase (changed d (Moved table ws))
moved_kept d table ws is = record { numbers = moved_numbers table ws d.bags ∙ is.numbers }

-- ---- a table has a bag

pub has_number : (n : ℕ) (bags : Bags) → has_bag n bags ≡ list_any (λ k. k == n) (numbers_of bags)
has_number n [] = refl
has_number n (bag ∷ bags) = ap (λ b. bag.0 == n || b) (has_number n bags)

there_too : (b c : Bool) → c ≡ true → (b || c) ≡ true
there_too true c h = refl
there_too false c h = h

in_tables : (id : ℕ) (items : List Item) (item : Item) → numbered id items ≡ Some item → is_table item.kind ≡ true
    → list_any (λ k. k == id) (tables_of items) ≡ true
in_tables id [] item at is = absurd cc
in_tables id (x ∷ xs) item at is = by (x.id == id) refl at (is_table x.kind) refl (in_tables id xs item)
  where
    by : (b : Bool) → x.id == id ≡ b → cond b (Some x) (numbered id xs) ≡ Some item → (c : Bool) → is_table x.kind ≡ c
        → (numbered id xs ≡ Some item → is_table item.kind ≡ true → list_any (λ k. k == id) (tables_of xs) ≡ true)
        → list_any (λ k. k == id) (map (λ item. item.id) (cond c (x ∷ filter (λ item. is_table item.kind) xs) (filter (λ item. is_table item.kind) xs))) ≡ true
    by true here at true kind rest = ap (λ b. b || list_any (λ k. k == id) (tables_of xs)) here
    by true here at false kind rest =
        let same : x ≡ item = cc in
        absurd (true≢false (sym is ∙ ap (λ y. is_table y.kind) (sym same) ∙ kind))
    by false here at true kind rest = there_too (x.id == id) (list_any (λ k. k == id) (tables_of xs)) (rest at is)
    by false here at false kind rest = rest at is

pub table_there : (d : Database) (id : ℕ) → IsDatabase d → HasTable d.items id → has_bag id d.bags ≡ true
table_there d id is has =
    has_number id d.bags ∙ ap (list_any (λ k. k == id)) is.numbers ∙ in_tables id d.items has.0 has.1 has.2

-- ---- no two bags have one number

abbrev pub Distinct : List ℕ → Type 0
Distinct [] = ⊤
Distinct (n ∷ ns) = (list_any (λ k. k == n) ns ≡ false) × Distinct ns

above_all : (id : ℕ) (items : List Item) → All (λ later. id < later.id) items → list_any (λ k. k == id) (tables_of items) ≡ false
above_all id [] above = refl
above_all id (item ∷ items) above = by (is_table item.kind) (above_all id items (λ k d within. above (suc k) d (omega arith)))
  where
    by : (c : Bool) → list_any (λ k. k == id) (tables_of items) ≡ false
        → list_any (λ k. k == id) (map (λ item. item.id) (cond c (item ∷ filter (λ item. is_table item.kind) items) (filter (λ item. is_table item.kind) items))) ≡ false
    by true rest =
        let first : id < item.id = above zero item (omega arith) in
        ap (λ b. b || list_any (λ k. k == id) (tables_of items)) (ne_eqb item.id id (λ e. omega arith)) ∙ rest
    by false rest = rest

distinct_tables : (items : List Item) → Ascend items → Distinct (tables_of items)
distinct_tables [] up = tt
distinct_tables (item ∷ items) up = by (is_table item.kind) (above_all item.id items (ascend-head item items up)) (distinct_tables items (ascend-tail item items up))
  where
    by : (c : Bool) → list_any (λ k. k == item.id) (tables_of items) ≡ false → Distinct (tables_of items)
        → Distinct (map (λ item. item.id) (cond c (item ∷ filter (λ item. is_table item.kind) items) (filter (λ item. is_table item.kind) items)))
    by true first rest = (first, rest)
    by false first rest = rest

apart_bags : (bags : Bags) → Distinct (numbers_of bags) → AreApart bags
apart_bags [] d = tt
apart_bags (bag ∷ bags) d = (has_number bag.0 bags ∙ d.0, apart_bags bags d.1)

pub bags_apart : (d : Database) → IsDatabase d → Ascend d.items → AreApart d.bags
bags_apart d is up = apart_bags d.bags (subst Distinct (sym is.numbers) (distinct_tables d.items up))
