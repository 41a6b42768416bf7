-- The words that are said of the states of a log.
use Rattle.std.specs.Prelude.{◌≡◌, ℕ}
use Rattle.mz_log.specs.Log.{Log}
use Rattle.mz_books.specs.States.{newest_state, state_at}

-- from this time on statements see the items and the plans of the newest state
pub record IsNewest (log : Log) (time : ℕ) : Type 0 where
  pub items : (state_at log time).database.items ≡ (newest_state log).database.items
  pub plans : (state_at log time).plans ≡ (newest_state log).plans
