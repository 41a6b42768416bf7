-- How a step goes through its times.
use Rattle.std.specs.Prelude.{◌≡◌, ℕ, ◌≤◌, List, ◌++◌}
use Rattle.mz_bag.specs.Weighted.{Weighted}
use Rattle.mz_updates.specs.declared.update.Update.{Update}
use Rattle.mz_updates.specs.Consolidated.{IsConsolidated}
use Rattle.mz_updates.specs.Contents.{stamped, HasSums, IsBefore, IsFrom}
use Rattle.mz_ops.specs.Change.{IsChange, IsWithin, Load, Meaning, Standing}
use Rattle.mz_ops.specs.Moments.{IsRun}
use Rattle.mz_ops.specs.Step.{IsBearableStep, IsStep, StandsBefore}

-- the changes of one time were told, and what came of them is behind the output
pub record IsTold (meaning : Meaning) (load : Load) (before after : Standing) (time : ℕ)
    (lefts rights lefts_after rights_after old new : List Update) : Type 0 where
  pub left : Weighted
  pub right : Weighted
  pub made : Weighted
  pub left_run : IsRun time lefts left lefts_after
  pub right_run : IsRun time rights right rights_after
  pub change : IsChange meaning before after left right made
  pub within : IsWithin before load left right made
  pub output : new ≡ old ++ stamped time made

-- the updates of one side that are to be told: consolidated, from a time on and below another
pub record IsToCome (lower upper : ℕ) (us : List Update) : Type 0 where
  pub from : IsFrom lower us
  pub before : IsBefore upper us
  pub once : IsConsolidated us

-- all is ready for a step
pub record IsReady (stands : Standing) (load : Load) (lower upper : ℕ)
    (lefts rights : List Update) : Type 0 where
  pub later : lower ≤ upper
  pub left : IsToCome lower upper lefts
  pub right : IsToCome lower upper rights
  pub bears : IsBearableStep stands load lower upper lefts rights

-- the step was made
pub record HasStepped (meaning : Meaning) (before after : Standing) (lower upper : ℕ)
    (lefts rights out : List Update) : Type 0 where
  pub law : IsStep meaning (StandsBefore lower before) (StandsBefore upper after) lefts rights out
  pub from : IsFrom lower out
  pub until : IsBefore upper out
  pub sums : HasSums out
