-- Queries that are read over the tables of now.
use Rattle.std.proofs.Common.{◌≡◌, ◌≢◌, ℕ, Result, Ok, Err, refl, sym, ap, subst}
use Rattle.std.specs.Prelude.{IfOk}
use Rattle.std.specs.FinMap.{entries}
use Rattle.mz_bag.specs.Weighted.{Weighted, bag_of}
use Rattle.mz_plan.specs.Bound.{IsBoundedIn}
use Rattle.mz_plan.specs.declared.plan.Plan.{Plan}
use Rattle.mz_plan.specs.declared.resolved.Resolved.{Resolved}
use Rattle.mz_plan.specs.declared.scope.Scope.{Scope}
use Rattle.mz_plan.specs.declared.tables.TableBags.{TableBags}
use Rattle.mz_statement.specs.Kind.{kind_of}
use Rattle.mz_statement.specs.declared.statement.Kind.{Kind}
use Rattle.mz_statement.specs.declared.statement.Kind.TheVariants as kind
use Rattle.mz_statement.specs.declared.statement.Statement.{Statement}
use Rattle.mz_log.specs.CarriedOut.{rows_of}
use Rattle.mz_refusal.specs.declared.fault.CallFault.{CallFault}
use Rattle.mz_refusal.specs.declared.fault.CallFault.TheVariants as fault
use Rattle.mz_resolution.specs.Resolution.{resolution}
use Rattle.mz_resolution.specs.Steps.{Step}
use Rattle.mz_select.specs.Gives.{Fails, Is}
use Rattle.mz_books.specs.States.{plan_of, query_plan}
use Rattle.mz_replay_laws.proofs.QueryPlans.{plan_readable}
use Rattle.mz_state_laws.specs.Evaluable.{AreOf}
use Rattle.mz_state_laws.specs.Well.{IsWell}
use Rattle.mz_state_laws.proofs.Evaluable.{bounded_in}
use Rattle.mz_core.specs.declared.calls.Submitted.{Submitted}
use Rattle.mz_kept.specs.Kept.{Kept, state_of}
use Rattle.mz_kept.specs.Taken.{IsQueued, IsRead, IsStatementTaken, IsWaiting}

-- ---- plans

-- the plan of what a statement resolves to is that of the query
pub plan_is : (scope : Scope) (statement : Statement) (asked : Resolved) (result : Result Plan CallFault) → resolution scope statement ≡ Ok asked
    → Is result (plan_of (Ok asked)) → Is result (query_plan scope statement)
unfolding query_plan
plan_is scope statement asked result is own = subst (λ step. Is result (plan_of step)) (sym is) own

-- and what is refused has none
pub plan_fails : (scope : Scope) (statement : Statement) (why : CallFault) → Fails why (resolution scope statement)
    → Fails why (query_plan scope statement)
unfolding query_plan
plan_fails scope statement (fault.Refused why) is = ap plan_of is
plan_fails scope statement fault.Memory is = tt

-- ---- reads

-- the plan of a query is bounded over the tables of now
pub plan_bounded : (k : Kept) (statement : Statement) (plan : Plan) → IsWell (state_of k) → kind_of statement ≡ kind.Query
    → query_plan (record { items = k.database.items; cluster = 0 }) statement ≡ Ok plan
    → (tables : TableBags) → AreOf (state_of k) tables → IsBoundedIn tables plan
plan_bounded k statement plan well is planned tables are =
    bounded_in (state_of k) tables are plan (plan_readable (state_of k) well 0 statement is plan planned)

-- a read that waits with the rows of the plan
pub plan_waits : (k mid new : Kept) (session : ℕ) (plan : Plan) (rows : Weighted) (told : Submitted) → mid ≡ k
    → rows ≡ entries (bag_of (rows_of (state_of k) plan)) → IsWaiting mid new session rows told
    → IsWaiting k new session (entries (bag_of (rows_of (state_of k) plan))) told
plan_waits k mid new session plan rows told same own waits =
    subst (λ all. IsWaiting k new session all told) own (subst (λ before. IsWaiting before new session rows told) same waits)

-- so a query is read where memory lasts
pub read_if : {E : Type 0} (k mid new : Kept) (session : ℕ) (step : Step Plan) (plan : Plan) (rows : Weighted) (result : Result Submitted E)
    → mid ≡ k → step ≡ Ok plan → rows ≡ entries (bag_of (rows_of (state_of k) plan)) → IfOk result (λ told. IsWaiting mid new session rows told)
    → IfOk result (λ told. IsRead k new session step told)
read_if k mid new session step plan rows (Ok told) same planned own waits =
    subst (λ s. IsRead k new session s told) (sym planned) (plan_waits k mid new session plan rows told same own waits)
read_if k mid new session step plan rows (Err fault) same planned own waits = tt

-- a statement that is no query is queued
pub other_queued : {E : Type 0} (k new : Kept) (session : ℕ) (statement : Statement) (own : Kind) (result : Result Submitted E) → own ≢ kind.Query
    → IfOk result (λ told. IsQueued k new session statement told) → IfOk result (λ told. IsStatementTaken k new session statement own told)
other_queued k new session statement kind.Command result other queued = queued
other_queued k new session statement kind.Query result other queued = absurd (other refl)
other_queued k new session statement kind.Start result other queued = queued
other_queued k new session statement kind.Commit result other queued = queued
other_queued k new session statement kind.Retain result other queued = queued
other_queued k new session statement kind.ShowFrontiers result other queued = queued
other_queued k new session statement kind.Set result other queued = queued
