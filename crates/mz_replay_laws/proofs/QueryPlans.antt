-- What is known of the plan of a query in a well state.
use Rattle.std.proofs.Common.{◌≡◌, ℕ, List, Option, Ok, Err, ap}
use Rattle.std.specs.Prelude.{IfOk}
use Rattle.std.specs.FinMap.{entries}
use Rattle.mz_bag.specs.Weighted.{bag_of}
use Rattle.mz_statement.specs.Kind.{kind_of}
use Rattle.mz_statement.specs.declared.query.Select.{Select}
use Rattle.mz_statement.specs.declared.statement.Kind.TheVariants as kind
use Rattle.mz_statement.specs.declared.statement.Statement.{Statement}
use Rattle.mz_statement.specs.declared.statement.Statement.TheVariants as statement
use Rattle.mz_plan.specs.declared.plan.Plan.{Plan}
use Rattle.mz_plan.specs.declared.resolved.Resolved.{Resolved}
use Rattle.mz_plan.specs.declared.resolved.Resolved.TheVariants as resolved
use Rattle.mz_plan.specs.declared.scope.Scope.{Scope}
use Rattle.mz_resolution.specs.Resolution.{resolution}
use Rattle.mz_resolution.specs.Steps.{Step}
use Rattle.mz_resolve_laws.specs.OfScope.{AsksOfScope, IsOfScope}
use Rattle.mz_resolve_laws.proofs.ScopeStatements.{asks_fits}
use Rattle.mz_log.specs.CarriedOut.{Rows, carried_or_refused, rows_of, seq}
use Rattle.mz_log.specs.Sequential.{Sequential}
use Rattle.mz_books.specs.States.{plan_of, query_plan}
use Rattle.mz_state_laws.specs.Evaluable.{AsksEvaluable, IsEvaluable}
use Rattle.mz_state_laws.specs.Reads.{AsksThere, ReadsThere}
use Rattle.mz_state_laws.specs.Well.{IsWell, scope_in}
use Rattle.mz_state_laws.proofs.Evaluable.{query_evaluable}
use Rattle.mz_state_laws.proofs.ReadsThere.{query_there}
use Rattle.mz_replay_laws.proofs.Accepted.{of_ok}

-- what gave a plan asks for a query
planned : (step : Step Resolved) (plan : Plan) → plan_of step ≡ Ok plan → step ≡ Ok (resolved.Query plan)
planned (Ok (resolved.Query own)) plan h = cc
planned (Ok (resolved.CreateTable name columns)) plan h = absurd (cc)
planned (Ok (resolved.CreateView name columns query)) plan h = absurd (cc)
planned (Ok (resolved.CreateIndex name on own cluster)) plan h = absurd (cc)
planned (Ok (resolved.Drop id)) plan h = absurd (cc)
planned (Ok (resolved.Insert table rows)) plan h = absurd (cc)
planned (Ok (resolved.Delete table cond)) plan h = absurd (cc)
planned (Err refusal) plan h = absurd (cc)

-- so a statement with a plan resolves to it
resolves : (scope : Scope) (said : Statement) (plan : Plan) → query_plan scope said ≡ Ok plan → resolution scope said ≡ Ok (resolved.Query plan)
unfolding query_plan
resolves scope said plan h = planned (resolution scope said) plan h

-- and is told its rows
pub query_told : (state : Sequential) (cluster : ℕ) (said : Statement) (plan : Plan) → query_plan (scope_in state cluster) said ≡ Ok plan
    → (seq state cluster said).response ≡ Rows (entries (bag_of (rows_of state plan)))
unfolding seq
query_told state cluster said plan h = ap (λ step. (carried_or_refused state step).response) (resolves (scope_in state cluster) said plan h)

-- what holds of each query holds of a statement of that kind
of_query : (P : Resolved → Type 0) (scope : Scope)
    → ((query : List Select) (as_of : Option ℕ) → IfOk (resolution scope (statement.Query query as_of)) P)
    → (said : Statement) → kind_of said ≡ kind.Query → IfOk (resolution scope said) P
of_query P scope h (statement.Query query as_of) is = h query as_of
of_query P scope h (statement.CreateTable name columns) is = absurd (cc)
of_query P scope h (statement.CreateView name query) is = absurd (cc)
of_query P scope h (statement.CreateIndex name on) is = absurd (cc)
of_query P scope h (statement.DropTable name) is = absurd (cc)
of_query P scope h (statement.DropView name) is = absurd (cc)
of_query P scope h (statement.DropIndex name) is = absurd (cc)
of_query P scope h (statement.Insert name rows) is = absurd (cc)
of_query P scope h (statement.Delete name test) is = absurd (cc)
of_query P scope h statement.Start is = absurd (cc)
of_query P scope h statement.Commit is = absurd (cc)
of_query P scope h statement.ShowFrontiers is = absurd (cc)
of_query P scope h (statement.Retain name keep) is = absurd (cc)
of_query P scope h (statement.SetIsolation strict) is = absurd (cc)
of_query P scope h (statement.SetCluster name) is = absurd (cc)

-- its plan reads what is there
pub plan_there : (state : Sequential) → IsWell state → (cluster : ℕ) (said : Statement) → kind_of said ≡ kind.Query → (plan : Plan)
    → query_plan (scope_in state cluster) said ≡ Ok plan → ReadsThere state plan
plan_there state well cluster said is plan h =
    of_ok (resolution (scope_in state cluster) said) (resolved.Query plan) (AsksThere state) (resolves (scope_in state cluster) said plan h)
    (of_query (AsksThere state) (scope_in state cluster) (query_there state well cluster) said is)

-- and may be evaluated
pub plan_readable : (state : Sequential) → IsWell state → (cluster : ℕ) (said : Statement) → kind_of said ≡ kind.Query → (plan : Plan)
    → query_plan (scope_in state cluster) said ≡ Ok plan → IsEvaluable state plan
plan_readable state well cluster said is plan h =
    of_ok (resolution (scope_in state cluster) said) (resolved.Query plan) (AsksEvaluable state) (resolves (scope_in state cluster) said plan h)
    (of_query (AsksEvaluable state) (scope_in state cluster) (query_evaluable state well cluster) said is)

-- and names what the scope has
pub plan_of_scope : (scope : Scope) (said : Statement) → kind_of said ≡ kind.Query → (plan : Plan) → query_plan scope said ≡ Ok plan
    → IsOfScope scope plan
plan_of_scope scope said is plan h =
    of_ok (resolution scope said) (resolved.Query plan) (AsksOfScope scope) (resolves scope said plan h)
    (of_query (AsksOfScope scope) scope (asks_fits scope) said is)
