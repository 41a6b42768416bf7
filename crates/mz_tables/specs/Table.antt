-- What a store knows of its table, and what it is to append changes and to compact.
use Rattle.std.specs.Prelude.{◌≡◌, ℕ, ◌+◌, ◌<◌, ◌≤◌, List}
use Rattle.std.specs.FinMap.{empty}
use Rattle.mz_bag.specs.Bag.{Counts, FitsWith}
use Rattle.mz_bag.specs.Weighted.{bag_of, sum_of}
use Rattle.mz_updates.specs.declared.update.Update.{Update}
use Rattle.mz_updates.specs.Contents.{contents}

-- a table's updates, the first time at which it is readable, and the first at which it isn't yet. Of the updates no promise
-- tells more than what they contain from the since on
pub record TableBook : Type 0 where
  pub updates : List Update
  pub since : ℕ
  pub upper : ℕ

-- the rows of the table at a time from the since on
abbrev pub table_at : TableBook → ℕ → Counts
table_at b t = bag_of (contents t b.updates)

-- the table without a row, of which nothing is known before a time
pub record IsFresh (as_of : ℕ) (b : TableBook) : Type 0 where
  pub since : b.since ≡ as_of
  pub upper : b.upper ≡ as_of
  pub no_row : (t : ℕ) → table_at b t ≡ empty

-- with these changes at a time, each row is there within the bound on counts from then on
pub record TakesChanges (w : ℕ) (changes : Counts) (b : TableBook) : Type 0 where
  pub fits : (t : ℕ) → b.since ≤ t → w ≤ t → FitsWith (table_at b t) changes

-- the table with these changes at a time: before it all is as it was, and from it on they are added
pub record IsAppended (w : ℕ) (changes : Counts) (old new : TableBook) : Type 0 where
  pub since : new.since ≡ old.since
  pub upper : new.upper ≡ w + 1
  pub earlier : (t : ℕ) → old.since ≤ t → t < w → table_at new t ≡ table_at old t
  pub later : (t : ℕ) → old.since ≤ t → w ≤ t → table_at new t ≡ sum_of (table_at old t) changes

-- the table, readable from a time on alone
pub record IsCompacted (oldest : ℕ) (old new : TableBook) : Type 0 where
  pub since : new.since ≡ oldest
  pub upper : new.upper ≡ old.upper
  pub same : (t : ℕ) → oldest ≤ t → table_at new t ≡ table_at old t
