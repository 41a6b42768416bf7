-- That a statement changes nothing.
use Rattle.std.specs.Prelude.{◌≡◌, []}
use Rattle.mz_log.specs.CarriedOut.{Outcome}
use Rattle.mz_log.specs.Sequential.{Sequential}

-- the state is left as it was, and there is no change
pub record IsUnchanged (before : Sequential) (outcome : Outcome) : Type 0 where
  pub state : outcome.state ≡ before
  pub changes : outcome.changes ≡ []
