-- Bags of rows: how often each row is there.
use Rattle.std.specs.Prelude.{ℕ, ◌≢◌, ◌^◌, ℤ, pos, neg_ℤ, ◌≤ℤ◌, ◌+ℤ◌, List, Some, unwrap_or, if◌then◌else◌}
use Rattle.std.specs.Ordering.{int_eq}
use Rattle.std.specs.FinMap.{FinMap, get, insert, remove, from_entries}
use Rattle.mz_value.specs.declared.datum.Datum.{Datum}
use Rattle.mz_value.specs.Row.{row_cmp}

-- a bag as the map from each row that is there to its count
abbrev pub Counts : Type 0
Counts = FinMap row_cmp ℤ

-- the map of a list of rows with their counts, in any order
abbrev pub map_of : List (List Datum × ℤ) → Counts
map_of es = from_entries es

-- the count of a row, 0 where it is not there
abbrev pub count_in : Counts → List Datum → ℤ
count_in bag row = unwrap_or (get bag row) (pos 0)

-- the bag with another count of one row, which is gone where that is 0
abbrev pub with_count : Counts → List Datum → ℤ → Counts
with_count bag row n = if int_eq n (pos 0) then remove bag row else insert bag row n

-- the greatest count of a row
abbrev pub most_count : ℕ
most_count = 2 ^ 100

-- the bound on every count: from the negative of the greatest to the greatest
pub record Fits (z : ℤ) : Type 0 where
  pub low : neg_ℤ (pos most_count) ≤ℤ z
  pub high : z ≤ℤ pos most_count

-- no row is there with the count 0
pub record IsBag (bag : Counts) : Type 0 where
  pub no_zero : (row : List Datum) → get bag row ≢ Some (pos 0)

-- what a stored bag is: it has no zero, and each count is within the bound
pub record IsStored (bag : Counts) : Type 0 where
  pub no_zero : IsBag bag
  pub fits : (row : List Datum) → Fits (count_in bag row)

-- the count of each row in both bags together is within the bound
pub record FitsWith (first second : Counts) : Type 0 where
  pub fits : (row : List Datum) → Fits (count_in first row +ℤ count_in second row)
