-- The rows that tables have, by their numbers.
use Rattle.std.specs.Prelude.{◌≡◌, ◌==◌, ◌≤◌, ℕ, List, [], ◌∷◌, ◌++◌, nat_eq, unwrap_or, if◌then◌else◌}
use Rattle.std.specs.FinMap.{empty, entries}
use Rattle.std.specs.Map.{lookup}
use Rattle.mz_bag.specs.Bag.{Counts}
use Rattle.mz_bag.specs.Mass.{mass}
use Rattle.mz_bag.specs.Weighted.{Weighted}
use Rattle.mz_plan.specs.Masses.{AreWithin}
use Rattle.mz_plan.specs.Meaning.{Leaves}
use Rattle.mz_plan.specs.Small.{most_rows}
use Rattle.mz_plan_laws.specs.Alike.{Alike}

-- tables, each with its bag
abbrev pub Tables : Type 0
Tables = List (ℕ × Counts)

-- the bag of a table, without a row where the table isn't there
abbrev pub bag_at : Tables → ℕ → Counts
bag_at tables item = unwrap_or (lookup (nat_eq item) tables) empty

-- the rows of the tables
abbrev pub rows_of : Tables → Leaves
rows_of tables item = entries (bag_at tables item)

-- what changes list for a table, one behind the other
abbrev pub told_of : List (ℕ × Weighted) → Leaves
told_of [] item = []
told_of (c ∷ cs) item = if c.0 == item then c.1 ++ told_of cs item else told_of cs item

-- a bag has no more rows than a table may, and is another
pub record IsFitting (bag found : Counts) : Type 0 where
  pub same : found ≡ bag
  pub within : mass (entries found) ≤ most_rows

-- a bag with rows more, no more in all than a table may have
pub record IsGrown (bag : Counts) (rows : Weighted) (found : Counts) : Type 0 where
  pub alike : Alike (entries found) (entries bag ++ rows)
  pub within : mass (entries found) ≤ most_rows

-- tables with changes of their rows: each counts so, and none has more rows than it may where none had
pub record AreChanged (told : Leaves) (old new : Tables) : Type 0 where
  pub alike : (item : ℕ) → Alike (rows_of new item) (rows_of old item ++ told item)
  pub within : AreWithin most_rows (rows_of old) → AreWithin most_rows (rows_of new)

-- tables of which one has rows more
abbrev pub AreGrown : ℕ → Weighted → Tables → Tables → Type 0
AreGrown table rows old new = AreChanged (told_of ((table, rows) ∷ [])) old new
