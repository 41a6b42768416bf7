-- What distinct rows are kept by, and how they go through a change.
use Rattle.std.specs.Prelude.{◌≡◌, ℤ, pos, negsuc, ◌+◌, ◌+ℤ◌, ◌≤◌, ◌^◌, Bool, true, false, not, List, [], ◌∷◌, ◌++◌}
use Rattle.std.specs.Ordering.{int_eq}
use Rattle.mz_value.specs.declared.datum.Datum.{Datum}
use Rattle.mz_bag.specs.Bag.{Counts, count_in, with_count}
use Rattle.mz_bag.specs.Mass.{mass}
use Rattle.mz_bag.specs.Weighted.{Weighted, count}
use Rattle.mz_plan.specs.Operators.{distinct}
use Rattle.mz_plan_laws.specs.Alike.{Alike}

-- a bag counts each row as often as a list does
pub record IsCountOf (bag : Counts) (ws : Weighted) : Type 0 where
  pub each : (row : List Datum) → count_in bag row ≡ count row ws

-- a row with this count is there
abbrev pub is_there : ℤ → Bool
is_there n = not (int_eq n (pos 0))

-- the change of one distinct row: it comes where it wasn't there and is, and goes where it was and isn't
abbrev pub turned : List Datum → Bool → Bool → Weighted
turned row false true = (row, pos 1) ∷ []
turned row true false = (row, negsuc 0) ∷ []
turned row was is = []

-- a row came in: it is counted, and its change among the distinct rows is behind the output
pub record IsCounted (bag more : Counts) (row : List Datum) (diff : ℤ) (old new : Weighted) : Type 0 where
  pub added : more ≡ with_count bag row (count_in bag row +ℤ diff)
  pub pushed : new ≡ old ++ turned row (is_there (count_in bag row)) (is_there (count_in more row))

-- the rows of a change came in, and this was made of them
pub record AreCounted (bag now : Counts) (left out : Weighted) : Type 0 where
  pub keeps : (ws : Weighted) → IsCountOf bag ws → IsCountOf now (ws ++ left)
  pub gives : (ws : Weighted) → IsCountOf bag ws → Alike (distinct (ws ++ left)) (distinct ws ++ out)
  pub light : mass out ≤ mass left

-- there is room for rows that are still to come
pub record HasRoom (bag : Counts) (rest : Weighted) : Type 0 where
  pub ws : Weighted
  pub counts : IsCountOf bag ws
  pub within : mass ws + mass rest ≤ 2 ^ 100

-- some of the rows came in, and there is room for those that are left
pub record IsOn (bag now : Counts) (left rest out : Weighted) : Type 0 where
  pub done : Weighted
  pub all : done ++ rest ≡ left
  pub counted : AreCounted bag now done out
  pub room : HasRoom now rest
