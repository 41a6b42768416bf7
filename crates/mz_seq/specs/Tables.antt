-- The tables that there are and were, and the databases that they are part of.
use Rattle.std.specs.Prelude.{ℕ, refl, ◌≡◌, ◌==◌, ◌≤◌, Bool, true, false, List, [], ◌∷◌, map, filter, ⊤}
use Rattle.std.specs.Coded.{Coded, code_by, coded×, coded_list, coded_ℕ}
use Rattle.std.specs.FinMap.{empty}
use Rattle.std.specs.List.{list_any}
use Rattle.mz_bag.specs.Bag.{Counts}
use Rattle.mz_plan.specs.Items.{is_table}
use Rattle.mz_plan.specs.declared.item.Item.{Item}
use Rattle.mz_catalog.specs.CatalogState.{CatalogState}
use Rattle.mz_log.specs.Sequential.{Bags, Database, bag_at, difference, without_bag}
use Rattle.mz_log.specs.declared.reply.SeqReply.{SeqReply}
use Rattle.mz_log.specs.declared.reply.SeqReply.TheVariants.{Created, Dropped}
use Rattle.mz_seq.specs.declared.tables.Table.{Table}

-- the rows of the tables that there are now, in order of creation
abbrev pub bags_now : List Table → Bags
bags_now tables = map (λ table. (table.number, table.rows.present)) (filter (λ table. table.is) tables)

-- the rows at the mark of the tables that there were then
abbrev pub bags_then : List Table → Bags
bags_then tables = map (λ table. (table.number, table.rows.marked)) (filter (λ table. table.was) tables)

-- what the tables that there are now had at the mark
abbrev pub bags_had : List Table → Bags
bags_had tables = map (λ table. (table.number, table.rows.marked)) (filter (λ table. table.is) tables)

-- what came since the mark to the tables that there are now
abbrev pub changes_of : List Table → Bags
changes_of tables = map (λ table. (table.number, difference table.rows.marked table.rows.present)) (filter (λ table. table.is) tables)

-- what stood before under the numbers of bags
abbrev pub before_of : Bags → Bags → Bags
before_of before bags = map (λ bag. (bag.0, bag_at before bag.0)) bags

-- there is a bag of this number
abbrev pub has_bag : ℕ → Bags → Bool
has_bag number bags = list_any (λ bag. bag.0 == number) bags

-- no two bags have one number
abbrev pub AreApart : Bags → Type 0
AreApart [] = ⊤
AreApart (bag ∷ bags) = (has_bag bag.0 bags ≡ false) × AreApart bags

-- the numbers of the tables among the items, in order of creation
abbrev pub tables_of : List Item → List ℕ
tables_of items = map (λ item. item.id) (filter (λ item. is_table item.kind) items)

-- the numbers of bags
abbrev pub numbers_of : Bags → List ℕ
numbers_of bags = map (λ bag. bag.0) bags

-- the tables among the items, and no others, have bags, in the same order
pub record IsDatabase (database : Database) : Type 0 where
  pub numbers : numbers_of database.bags ≡ tables_of database.items

-- a database now, and at a mark, and what the tables that there are now had then. None of them has a number that is still to come
pub record IsRound (present marked : Database) (stood : Bags) : Type 0 where
  pub now : IsDatabase present
  pub then : IsDatabase marked
  pub unused : (n : ℕ) → present.next ≤ n → bag_at marked.bags n ≡ empty
  pub had : stood ≡ before_of marked.bags present.bags

-- a table that has these rows, now and at the mark
abbrev pub settled : ℕ → Counts → Table
settled number bag = record { number = number; rows = record { present = bag; marked = bag }; was = true; is = true }

-- a catalog and the rows of its tables
abbrev pub database_of : CatalogState → Bags → Database
database_of catalog bags = record { items = catalog.items; next = catalog.next; bags = bags }

-- the catalog of a database
abbrev pub catalog_of : Database → CatalogState
catalog_of database = record { items = database.items; next = database.next }

-- the bag that comes with an item that was made, where it is a table
abbrev pub made_bags : Bool → SeqReply → Bags
made_bags true (Created id) = (id, empty) ∷ []
made_bags is_table reply = []

-- the bags that are left once an item is removed, or isn't
abbrev pub gone_bags : SeqReply → ℕ → Bags → Bags
gone_bags Dropped id bags = without_bag id bags
gone_bags reply id bags = bags

-- a database written out
abbrev pub database_code : Coded Item → Coded Counts → Coded Database
database_code item_code bag_code =
    code_by ((List Item × ℕ) × Bags) (coded× (coded× (coded_list item_code) coded_ℕ) (coded_list (coded× coded_ℕ bag_code)))
    (λ d. ((d.items, d.next), d.bags)) (λ p. record { items = p.0.0; next = p.0.1; bags = p.1 }) (λ _. refl)
