-- That a command is carried out.
use Rattle.std.specs.Prelude.{ℕ, ◌≡◌, Bool, true, false, List}
use Rattle.mz_plan.specs.declared.plan.Plan.{Plan}
use Rattle.mz_plan.specs.declared.resolved.Resolved.{Resolved}
use Rattle.mz_plan.specs.declared.resolved.Resolved.TheVariants.{Query}
use Rattle.mz_log.specs.CarriedOut.{Command, carried_out}
use Rattle.mz_log.specs.Sequential.{Database}
use Rattle.mz_log.specs.declared.reply.SeqReply.{SeqReply}

-- a query
abbrev pub is_query : Resolved → Bool
is_query (Query plan) = true
is_query asked = false

-- whatever the plans of indexes are: a command that is carried out is told this, and leaves that database
pub record IsDone (asked : Resolved) (before after : Database) (reply : SeqReply) : Type 0 where
  pub told : (plans : List (ℕ × Plan)) → Command reply ≡ (carried_out (record { database = before; plans = plans }) asked).response
  pub left : (plans : List (ℕ × Plan)) → after ≡ (carried_out (record { database = before; plans = plans }) asked).state.database
