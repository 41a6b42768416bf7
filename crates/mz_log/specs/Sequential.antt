-- The state that one statement after another leaves, and how changes move it.
use Rattle.std.specs.Prelude.{ℕ, ◌+◌, ◌==◌, not, List, [], ◌∷◌, ◌++◌, map, filter, codes, if◌then◌else◌}
use Rattle.std.specs.FinMap.{empty, entries}
use Rattle.mz_bag.specs.Bag.{Counts}
use Rattle.mz_bag.specs.Weighted.{Weighted, bag_of, sum_of, negation_of}
use Rattle.mz_statement.specs.declared.column.Column.{Column}
use Rattle.mz_statement.specs.declared.column.ColumnType.TheVariants as type
use Rattle.mz_plan.specs.declared.item.Item.{Item}
use Rattle.mz_plan.specs.declared.item.ItemKind.{ItemKind}
use Rattle.mz_plan.specs.declared.item.ItemKind.TheVariants.{Table, View, Index}
use Rattle.mz_plan.specs.declared.plan.Plan.{Plan}
use Rattle.mz_plan.specs.Items.{others}

-- each table's number with its rows, in order of creation
abbrev pub Bags : Type 0
Bags = List (ℕ × Counts)

-- what commands see: the items in order of creation, the number that the next one gets, and the rows of each table
pub record Database : Type 0 where
  pub items : List Item
  pub next : ℕ
  pub bags : Bags

-- and beside it the plan of each index that was ever made, the newest first. None is forgotten where its index is dropped, since
-- the plan of another index may name it
pub record Sequential : Type 0 where
  pub database : Database
  pub plans : List (ℕ × Plan)

-- ---- the opening state

-- a column of type INT
abbrev pub int_column : List ℕ → Column
int_column name = record { name = name; kind = type.Int }

-- the table `kv`, with the columns `k` and `v`
abbrev pub kv : Item
kv = record {
  id = 1;
  name = codes "kv";
  cluster = 0;
  kind = Table (int_column (codes "k") ∷ int_column (codes "v") ∷ []);
}

-- at the opening there is `kv` alone, without a row
abbrev pub opening_database : Database
opening_database = record { items = kv ∷ []; next = 2; bags = (1, empty) ∷ [] }

-- and no index was made
abbrev pub opening : Sequential
opening = record { database = opening_database; plans = [] }

-- ---- changes

-- what a command changes: the item that it makes, the number of the one that it removes, or the rows that come to a table, each
-- with its weight, which is negative where the row goes
pub data Change : Type 0 where
  Made : (item : Item) → Change
  Removed : (item : ℕ) → Change
  Moved : (table : ℕ) (rows : Weighted) → Change

-- the bag that comes with an item of this number: a table has one, without a row
abbrev pub new_bag : ℕ → ItemKind → Bags
new_bag id (Table columns) = (id, empty) ∷ []
new_bag id (View columns query) = []
new_bag id (Index on plan) = []

-- the plan that comes with an item of this number: an index has one
abbrev pub new_plan : ℕ → ItemKind → List (ℕ × Plan)
new_plan id (Table columns) = []
new_plan id (View columns query) = []
new_plan id (Index on plan) = (id, plan) ∷ []

-- the bag to which rows came, each with its weight
abbrev pub added : Counts → Weighted → Counts
added bag rows = bag_of (entries bag ++ rows)

-- the bags once rows came to the table of this number
abbrev pub with_rows : ℕ → Weighted → Bags → Bags
with_rows table rows bags = map (λ bag. if bag.0 == table then (bag.0, added bag.1 rows) else bag) bags

-- the bags without that of the item of this number, where there is one
abbrev pub without_bag : ℕ → Bags → Bags
without_bag id bags = filter (λ bag. not (bag.0 == id)) bags

-- what commands see after a change
abbrev pub changed : Database → Change → Database
changed database (Made item) = record {
  items = database.items ++ item ∷ [];
  next = database.next + 1;
  bags = database.bags ++ new_bag item.id item.kind;
}
changed database (Removed item) =
    record database { items = others item database.items; bags = without_bag item database.bags }
changed database (Moved table rows) = record database { bags = with_rows table rows database.bags }

-- the plans of indexes after a change
abbrev pub more_plans : List (ℕ × Plan) → Change → List (ℕ × Plan)
more_plans plans (Made item) = new_plan item.id item.kind ++ plans
more_plans plans (Removed item) = plans
more_plans plans (Moved table rows) = plans

-- the state after changes, one after another
abbrev pub after_changes : Sequential → List Change → Sequential
after_changes state [] = state
after_changes state (change ∷ changes) =
    after_changes (record { database = changed state.database change; plans = more_plans state.plans change }) changes

-- ---- how two states differ

-- the rows of the table of this number, none where there is no such table
abbrev pub bag_at : Bags → ℕ → Counts
bag_at [] table = empty
bag_at (bag ∷ bags) table = if bag.0 == table then bag.1 else bag_at bags table

-- what comes to the one bag where it becomes the other: each row with the difference of its counts
abbrev pub difference : Counts → Counts → Counts
difference before after = sum_of after (negation_of before)

-- for each table that there is in the end, in order of creation, what came to it since, also where that is nothing. A table that
-- wasn't there before had no row. One that is gone isn't named: what came to it before it went is lost with it
abbrev pub changes_between : Bags → Bags → Bags
changes_between before after = map (λ bag. (bag.0, difference (bag_at before bag.0) bag.1)) after
