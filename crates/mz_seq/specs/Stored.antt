-- How the rows of a table are stored.
use Rattle.std.specs.Prelude.{◌≡◌, ◌≢◌, ◌≤◌, ℕ, ℤ, pos, ◌≤ℤ◌, true, false, Bool, List, is_some, unwrap_or}
use Rattle.std.specs.FinMap.{entries}
use Rattle.std.specs.Map.{lookup}
use Rattle.mz_value.specs.Row.{row_eq}
use Rattle.mz_value.specs.declared.datum.Datum.{Datum}
use Rattle.mz_bag.specs.Bag.{Counts, count_in, map_of, IsBag}
use Rattle.mz_bag.specs.Weighted.{Weighted, bag_of, sum_of, negation_of}
use Rattle.mz_plan.specs.Small.{most_rows}
use Rattle.mz_log.specs.CarriedOut.{rows_in}

-- the count that is stored for a row, 0 where there is none
abbrev pub count_at : Weighted → List Datum → ℤ
count_at stored row = unwrap_or (lookup (row_eq row) stored) (pos 0)

-- a count is stored for the row
abbrev pub has_row : Weighted → List Datum → Bool
has_row stored row = is_some (lookup (row_eq row) stored)

-- a count is stored for each row that a bag counts
pub record Covers (stored : Weighted) (bag : Counts) : Type 0 where
  pub covers : (row : List Datum) → has_row stored row ≡ false → count_in bag row ≡ pos 0

-- a row that is stored with the count 0 is one to which something came since the mark
abbrev pub IsUsed : Weighted → Counts → List Datum → Type 0
IsUsed stored changes row = has_row stored row ≡ true → count_at stored row ≡ pos 0 → count_in changes row ≢ pos 0

-- each row that is stored is there, or something came to it since the mark
pub record AreUsed (stored : Weighted) (changes : Counts) : Type 0 where
  pub used : (row : List Datum) → IsUsed stored changes row

-- the rows of a table: those whose stored count isn't 0
abbrev pub rows_now : Weighted → Counts
rows_now stored = bag_of (entries (map_of stored))

-- its rows at the mark: those of now, less what came since
abbrev pub rows_then : Weighted → Counts → Counts
rows_then stored changes = sum_of (rows_now stored) (negation_of changes)

-- a bag is what a table may have: no count is negative, and there are so many rows, which are no more than a table may have
pub record IsTable (rows : ℕ) (bag : Counts) : Type 0 where
  pub counts : (row : List Datum) → pos 0 ≤ℤ count_in bag row
  pub number : rows ≡ rows_in bag
  pub few : rows ≤ most_rows

-- what is stored of a table: the rows, their number now and at the mark, and what came since
pub record IsKept (stored : Weighted) (rows before : ℕ) (changes : Counts) : Type 0 where
  pub covers : Covers stored changes
  pub used : AreUsed stored changes
  pub no_zero : IsBag changes
  pub now : IsTable rows (rows_now stored)
  pub then : IsTable before (rows_then stored changes)
