-- What an arrangement knows of its rows, and what it is to insert updates and to let the past go.
use Rattle.std.specs.Prelude.{◌≡◌, ℕ, ◌≤◌, Bool, List, length, take, filter}
use Rattle.std.specs.FinMap.{empty, entries}
use Rattle.mz_value.specs.declared.datum.Datum.{Datum}
use Rattle.mz_value.specs.Row.{row_eq}
use Rattle.mz_bag.specs.Bag.{Counts, FitsWith}
use Rattle.mz_bag.specs.Weighted.{Weighted, bag_of, sum_of}
use Rattle.mz_updates.specs.declared.update.Update.{Update}
use Rattle.mz_updates.specs.Contents.{contents}

-- updates, the first time at which they can be read, and the first at which not all of them are there yet. Of the updates
-- no promise tells more than what they contain from the since on
pub record Arranged : Type 0 where
  pub updates : List Update
  pub since : ℕ
  pub upper : ℕ

-- the rows at a time from the since on
abbrev pub rows_at : Arranged → ℕ → Counts
rows_at a t = bag_of (contents t a.updates)

-- the arrangement without a row, of which nothing is known before a time
pub record IsFresh (as_of : ℕ) (a : Arranged) : Type 0 where
  pub since : a.since ≡ as_of
  pub upper : a.upper ≡ as_of
  pub no_row : (t : ℕ) → rows_at a t ≡ empty

-- with these updates, each row is there within the bound on counts at each time from the since on
pub record TakesUpdates (us : List Update) (a : Arranged) : Type 0 where
  pub fits : (t : ℕ) → a.since ≤ t → FitsWith (rows_at a t) (bag_of (contents t us))

-- the arrangement with these updates: at each time from the since on, what they contain is added
pub record IsInserted (us : List Update) (next : ℕ) (old new : Arranged) : Type 0 where
  pub since : new.since ≡ old.since
  pub upper : new.upper ≡ next
  pub rows : (t : ℕ) → old.since ≤ t → rows_at new t ≡ sum_of (rows_at old t) (bag_of (contents t us))

-- the same arrangement, readable from a time on alone
pub record IsSameFrom (oldest : ℕ) (old new : Arranged) : Type 0 where
  pub since : new.since ≡ oldest
  pub upper : new.upper ≡ old.upper
  pub rows : (t : ℕ) → oldest ≤ t → rows_at new t ≡ rows_at old t

-- ---- keys

-- whether a row begins with the values of a key
abbrev pub begins_with : List Datum → List Datum → Bool
begins_with key row = row_eq key (take (length key) row)

-- the rows of a list that begin with the values of a key, with their weights
abbrev pub of_key : List Datum → Weighted → Weighted
of_key key ws = filter (λ w. begins_with key w.0) ws

-- and those of a bag, with their counts
abbrev pub rows_of_key : List Datum → Counts → Counts
rows_of_key key rows = bag_of (of_key key (entries rows))
