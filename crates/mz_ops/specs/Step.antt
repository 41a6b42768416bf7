-- What an operator makes of updates of its sides: a step from one time to the next.
use Rattle.std.specs.Prelude.{ℕ, ◌+◌, ◌<◌, ◌≤◌, ◌^◌, List, ◌++◌}
use Rattle.mz_bag.specs.Mass.{mass}
use Rattle.mz_bag.specs.Weighted.{Weighted}
use Rattle.mz_plan_laws.specs.Alike.{Alike}
use Rattle.mz_updates.specs.declared.update.Update.{Update}
use Rattle.mz_updates.specs.Contents.{weights, contents, changes, IsBefore}
use Rattle.mz_ops.specs.Change.{Load, Meaning, Standing}

-- a step: whatever updates the operator stood for, it stands for the longer lists after it, and at each
-- time what the output contains is what the meaning has more on these than on those before
pub record IsStep (meaning : Meaning) (before after : List Update → List Update → Type 0)
    (left right out : List Update) : Type 0 where
  pub stands : (us vs : List Update) → before us vs → after (us ++ left) (vs ++ right)
  pub gives : (us vs : List Update) → before us vs → (t : ℕ)
      → Alike (meaning (contents t (us ++ left)) (contents t (vs ++ right)))
      (meaning (contents t us) (contents t vs) ++ contents t out)

-- an operator stands for updates before a time where it stands for all that they contain
pub record StandsBefore (upper : ℕ) (stands : Standing) (us vs : List Update) : Type 0 where
  pub left : IsBefore upper us
  pub right : IsBefore upper vs
  pub stand : stands (weights us) (weights vs)

-- one side of an operator through a step: its rows before each time, and its change then, in some
-- lists that count so
pub record Side (us : List Update) : Type 0 where
  pub rows : ℕ → Weighted
  pub change : ℕ → Weighted
  pub changes : (t : ℕ) → Alike (change t) (changes t us)
  pub next : (t : ℕ) → Alike (rows (t + 1)) (rows t ++ change t)

-- a step within the bound: the operator stands for some rows before it, and at each time of it both
-- sides and their changes make a load within 2^100, each in some list that counts so
pub record IsBearableStep (stands : Standing) (load : Load) (upper next : ℕ)
    (left right : List Update) : Type 0 where
  pub first : Side left
  pub second : Side right
  pub stand : stands (first.rows upper) (second.rows upper)
  pub within : (t : ℕ) → upper ≤ t → t < next
      → load (mass (first.rows t)) (mass (second.rows t))
      (mass (first.change t)) (mass (second.change t)) ≤ 2 ^ 100
