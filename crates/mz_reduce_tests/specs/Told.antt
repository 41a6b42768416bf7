-- What an operator was told from its first step on, and what it answered.
use Rattle.std.specs.Prelude.{ℕ, List, [], ◌++◌}
use Rattle.mz_plan_laws.specs.Alike.{Alike}
use Rattle.mz_updates.specs.declared.update.Update.{Update}
use Rattle.mz_updates.specs.Contents.{contents}
use Rattle.mz_ops.specs.Change.{Meaning}

-- the operator stands for all that it was told, and at each time what it answered contains what is made of that, more than of
-- nothing
pub record IsTold (meaning : Meaning) (stands : List Update → List Update → Type 0) (left right out : List Update) : Type 0 where
  pub stand : stands left right
  pub gives : (t : ℕ) → Alike (meaning (contents t left) (contents t right)) (meaning [] [] ++ contents t out)
