-- How a store keeps its updates: in order of their times, all below the upper.
use Rattle.std.specs.Prelude.{ℕ, ◌≤◌, List, [], ◌∷◌, ⊤}
use Rattle.std.specs.List.{AllByRecursion as Each}
use Rattle.mz_updates.specs.declared.update.Update.{Update}
use Rattle.mz_updates.specs.Contents.{FitsFrom, IsBefore}
use Rattle.mz_tables.specs.Table.{TableBook}

-- no update is later than one behind it
abbrev pub IsOrdered : List Update → Type 0
IsOrdered [] = ⊤
IsOrdered (u ∷ us) = Each (λ v. u.time ≤ v.time) us × IsOrdered us

-- what holds of each book that is kept: besides the order, each row is there within the bound from the since on
pub record IsKept (b : TableBook) : Type 0 where
  pub ordered : IsOrdered b.updates
  pub before : IsBefore b.upper b.updates
  pub fits : FitsFrom b.since b.updates

-- a book of these updates
abbrev pub book : List Update → ℕ → ℕ → TableBook
book us since upper = record { updates = us; since = since; upper = upper }
