-- Lists that count no row below 0.
use Rattle.std.specs.Prelude.{pos, ◌≤ℤ◌, List}
use Rattle.mz_value.specs.declared.datum.Datum.{Datum}
use Rattle.mz_bag.specs.Weighted.{Weighted, count}

-- no row's count is negative
pub record IsNotNegative (ws : Weighted) : Type 0 where
  pub counts : (row : List Datum) → pos 0 ≤ℤ count row ws
