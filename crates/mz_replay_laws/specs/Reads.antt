-- What is said of reads, their plans and their peeks.
use Rattle.std.specs.Prelude.{◌≡◌, ℕ, Ok}
use Rattle.mz_statement.specs.declared.statement.Statement.{Statement}
use Rattle.mz_plan.specs.declared.plan.Plan.{Plan}
use Rattle.mz_log.specs.Log.{Log}
use Rattle.mz_books.specs.Clusters.{cluster_of}
use Rattle.mz_books.specs.States.{query_plan, scope_of, state_at}
use Rattle.mz_state_laws.specs.Evaluable.{IsEvaluable}
use Rattle.mz_state_laws.specs.Reads.{ReadsThere}
use Rattle.mz_state_laws.specs.Well.{scope_in}

-- a read of a query at a time has a plan: that of the query as it is submitted, and likewise in the
-- state at the time. It may be evaluated over that state, and reads only what is there then
pub record HasPlan (log : Log) (session time : ℕ) (statement : Statement) : Type 0 where
  pub plan : Plan
  pub submitted : query_plan (scope_of log session) statement ≡ Ok plan
  pub own_time : query_plan (scope_in (state_at log time) (cluster_of log session)) statement
      ≡ Ok plan
  pub readable : IsEvaluable (state_at log time) plan
  pub there : ReadsThere (state_at log time) plan
