-- What is gone stays so: no number is used again.
use Rattle.std.proofs.Common.{◌≡◌, ◌<◌, ◌≤◌, ◌==◌, ◌||◌, ◌⊎◌, inl, inr, ℕ, Bool, true, false, cond, List, [], ◌∷◌, filter, find, map, Some, refl, sym, ap, subst, ◌∙◌, true≢false, arith}
use Rattle.std.proofs.lemmas.Bool.{eq-eqb, eqb-true, ne_eqb, or_left, or_right}
use Rattle.std.proofs.lemmas.List.Elements.{All-contains, All-contains_itself, All-from_recursion, recursion_from_All}
use Rattle.std.specs.Prelude.{Contains}
use Rattle.std.specs.List.{AllByRecursion as Each, list_any}
use Rattle.mz_plan.specs.Items.{Ascend, is_table}
use Rattle.mz_plan.specs.declared.item.Item.{Item}
use Rattle.mz_plan_laws.proofs.TypedValues.{each_weaker}
use Rattle.mz_resolve_laws.proofs.NameTypes.{by_number}
use Rattle.mz_resolve_laws.proofs.TypePlaces.{each_from}
use Rattle.mz_log.specs.Sequential.{Bags, Sequential}
use Rattle.mz_state_laws.specs.Changes.{HasTable}
use Rattle.mz_state_laws.specs.Growth.{Continues, has_bag}
use Rattle.mz_state_laws.specs.Reads.{is_there}
use Rattle.mz_state_laws.specs.Well.{IsWell, numbers_of, tables_of}
use Rattle.mz_state_laws.proofs.ReadsThere.{item_there}

-- a number that none of the items has isn't there
none_there : (items : List Item) (number : ℕ) → Each (λ item. (item.id == number) ≡ false) items → is_there items number ≡ false
none_there [] number h = refl
none_there (item ∷ items) number h = ap (λ b. b || is_there items number) h.0 ∙ none_there items number h.1

-- ---- numbers

-- an item that isn't the one that is gone has another number
other_number : (before : Sequential) (number : ℕ) → number < before.database.next → is_there before.database.items number ≡ false → (item : Item)
    → Contains before.database.items item ⊎ (before.database.next ≤ item.id) → (item.id == number) ≡ false
other_number before number less gone item (inl there) = by (item.id == number) refl
  where
    by : (c : Bool) → (item.id == number) ≡ c → c ≡ false
    by true is =
        absurd (true≢false (sym (item_there before.database.items item there)
        ∙ ap (is_there before.database.items) (eqb-true item.id number is) ∙ gone))
    by false is = refl
other_number before number less gone item (inr above) = ne_eqb item.id number (λ e. omega (arith, e, less, above))

-- a number that was used and isn't there isn't there later
pub number_gone : (before after : Sequential) → Continues before after → (number : ℕ) → number < before.database.next
    → is_there before.database.items number ≡ false → is_there after.database.items number ≡ false
number_gone before after continues number less gone =
    none_there after.database.items number
    (each_weaker (λ item. Contains before.database.items item ⊎ (before.database.next ≤ item.id)) (λ item. (item.id == number) ≡ false)
    (other_number before number less gone) after.database.items continues.items)

-- ---- tables

-- whether a bag has a number is whether it is among the bags' numbers
bag_number : (bags : Bags) (number : ℕ) → has_bag number bags ≡ list_any (λ n. n == number) (numbers_of bags)
bag_number [] number = refl
bag_number (bag ∷ bags) number = ap (λ b. bag.0 == number || b) (bag_number bags number)

-- a table's number is among those of the tables
table_listed : (items : List Item) → Each (λ item. is_table item.kind ≡ true → list_any (λ n. n == item.id) (tables_of items) ≡ true) items
table_listed [] = tt
table_listed (item ∷ items) = (
  (λ is. ap (λ c. list_any (λ n. n == item.id)
      (map (λ x. x.id) (cond c (item ∷ filter (λ x. is_table x.kind) items) (filter (λ x. is_table x.kind) items)))) is
      ∙ or_left (item.id == item.id) (list_any (λ n. n == item.id) (tables_of items)) (eq-eqb item.id item.id refl)),
  each_weaker (λ other. is_table other.kind ≡ true → list_any (λ n. n == other.id) (tables_of items) ≡ true)
      (λ other. is_table other.kind ≡ true → list_any (λ n. n == other.id) (tables_of (item ∷ items)) ≡ true)
      (λ other h is. behind other (is_table item.kind) (h is)) items (table_listed items),
)
  where
    behind : (other : Item) (c : Bool) → list_any (λ n. n == other.id) (tables_of items) ≡ true
        → list_any (λ n. n == other.id)
        (map (λ x. x.id) (cond c (item ∷ filter (λ x. is_table x.kind) items) (filter (λ x. is_table x.kind) items))) ≡ true
    behind other true h = or_right (item.id == other.id) (list_any (λ n. n == other.id) (tables_of items)) h
    behind other false h = h

-- a number that is listed is a table's
listed_table : (all : List Item) (number : ℕ) (items : List Item) → Each (Contains all) items
    → list_any (λ n. n == number) (tables_of items) ≡ true → HasTable all number
listed_table all number [] there h = absurd (true≢false (sym h))
listed_table all number (item ∷ items) there h =
    by (is_table item.kind) refl h (listed_table all number items there.1)
  where
    here : (c : Bool) → (item.id == number) ≡ c → is_table item.kind ≡ true → (c || list_any (λ n. n == number) (tables_of items)) ≡ true
        → (list_any (λ n. n == number) (tables_of items) ≡ true → HasTable all number) → HasTable all number
    here true is table k rest = record { item = item; there = there.0; numbered = eqb-true item.id number is; table = table }
    here false is table k rest = rest k

    by : (c : Bool) → is_table item.kind ≡ c
        → list_any (λ n. n == number)
        (map (λ x. x.id) (cond c (item ∷ filter (λ x. is_table x.kind) items) (filter (λ x. is_table x.kind) items))) ≡ true
        → (list_any (λ n. n == number) (tables_of items) ≡ true → HasTable all number) → HasTable all number
    by true table k rest = here (item.id == number) refl table k rest
    by false table k rest = rest k

-- two items of one number are one
same_item : (items : List Item) → Ascend items → (one other : Item) → Contains items one → Contains items other
    → one.id ≡ other.id → one ≡ other
same_item items up one other first second same =
    let left : find (λ x. x.id == other.id) items ≡ Some one =
    by_number other.id (find (λ x. x.id == other.id)) Some (λ x xs. refl) items up one same first in
    let right : find (λ x. x.id == other.id) items ≡ Some other =
    by_number other.id (find (λ x. x.id == other.id)) Some (λ x xs. refl) items up other refl second in
    cc

-- a table whose bag is gone later isn't there
pub bag_gone : (before after : Sequential) → IsWell before → IsWell after → Continues before after → (number : ℕ)
    → has_bag number before.database.bags ≡ true → has_bag number after.database.bags ≡ false → is_there after.database.items number ≡ false
bag_gone before after well later continues number had has =
    none_there after.database.items number
    (each_from (Contains after.database.items) (λ item. Contains before.database.items item ⊎ (before.database.next ≤ item.id))
    (λ item. (item.id == number) ≡ false) other after.database.items
    (recursion_from_All (Contains after.database.items) after.database.items (All-contains_itself after.database.items)) continues.items)
  where
    table : HasTable before.database.items number
    table =
        listed_table before.database.items number before.database.items
        (recursion_from_All (Contains before.database.items) before.database.items (All-contains_itself before.database.items))
        (sym (ap (list_any (λ n. n == number)) well.over.tables) ∙ sym (bag_number before.database.bags number) ∙ had)

    listed : (item : Item) → Contains after.database.items item → is_table item.kind ≡ true
        → list_any (λ n. n == item.id) (tables_of after.database.items) ≡ true
    listed item there =
        All-contains (λ x. is_table x.kind ≡ true → list_any (λ n. n == x.id) (tables_of after.database.items) ≡ true) after.database.items item
        (All-from_recursion (λ x. is_table x.kind ≡ true → list_any (λ n. n == x.id) (tables_of after.database.items) ≡ true)
        after.database.items (table_listed after.database.items)) there

    gone : list_any (λ n. n == number) (tables_of after.database.items) ≡ false
    gone = sym (ap (list_any (λ n. n == number)) later.over.tables) ∙ sym (bag_number after.database.bags number) ∙ has

    by : (item : Item) → Contains after.database.items item → Contains before.database.items item ⊎ (before.database.next ≤ item.id) → (c : Bool)
        → (item.id == number) ≡ c → c ≡ false
    by item there (inl old) true is =
        let same : table.item ≡ item = same_item before.database.items well.over.sound.sound.numbers table.item item table.there old
        (table.numbered ∙ sym (eqb-true item.id number is)) in
        absurd (true≢false (sym (subst (λ n. list_any (λ m. m == n) (tables_of after.database.items) ≡ true) (eqb-true item.id number is)
        (listed item there (subst (λ x. is_table x.kind ≡ true) same table.table))) ∙ gone))
    by item there (inr above) true is =
        let less : table.item.id < before.database.next =
        All-contains (λ x. x.id < before.database.next) before.database.items table.item well.over.below table.there in
        absurd (omega (arith, less, above, table.numbered, eqb-true item.id number is))
    by item there old false is = refl

    other : (item : Item) → Contains after.database.items item → Contains before.database.items item ⊎ (before.database.next ≤ item.id)
        → (item.id == number) ≡ false
    other item there old = by item there old (item.id == number) refl
