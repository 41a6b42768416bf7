-- A pending peek waits for the rows that its query is told in the state at its time.
use Rattle.std.proofs.Common.{◌≡◌, ℕ, Option, Some, sym, ap, subst, ◌∙◌}
use Rattle.std.specs.Prelude.{Contains}
use Rattle.std.specs.FinMap.{empty, entries}
use Rattle.std.specs.Option.{option_map_or}
use Rattle.mz_statement.specs.declared.statement.Statement.{Statement}
use Rattle.mz_plan.specs.declared.command.PendingPeek.{PendingPeek}
use Rattle.mz_plan.specs.declared.plan.Plan.{Plan}
use Rattle.mz_log.specs.Log.{Log}
use Rattle.mz_books.specs.Calls.{Call, calls}
use Rattle.mz_log.specs.CarriedOut.{Rows}
use Rattle.mz_books.specs.Collections.{collections}
use Rattle.mz_books.specs.History.{IsToldIn}
use Rattle.mz_books.specs.Holds.{pending}
use Rattle.mz_books.specs.Owed.{peek_rows}
use Rattle.mz_books.specs.States.{plan_at, state_at}
use Rattle.mz_books.specs.Legal.{Legal}
use Rattle.mz_replay_laws.proofs.Found.{of_plan_in, plan_in}
use Rattle.mz_call_laws.proofs.Lists.{each_has, has_from}
use Rattle.mz_replay_laws.proofs.SaidCalls.{EachSaid}
use Rattle.mz_replay_laws.proofs.PeekRows.{AsksOf, IsAsked, all_asked}

-- the rows that it waits for are those of the plan that was found
rows_found : (log : Log) (waiting : PendingPeek) (plan : Plan) → plan_in waiting.collection (collections log) ≡ Some plan
    → peek_rows log waiting ≡ entries (plan_at log plan waiting.time)
rows_found log waiting plan found =
    ap entries (of_plan_in (λ own. plan_at log own waiting.time) waiting.collection (collections log)
    ∙ ap (λ own. option_map_or (λ own. plan_at log own waiting.time) own empty) found)

-- so they are what the statement is told
pub asked_rows : (log : Log) (waiting : PendingPeek) (said : Option Statement) (cluster : ℕ) → IsAsked log waiting said cluster
    → IsToldIn (state_at log waiting.time) cluster said (Rows (peek_rows log waiting))
asked_rows log waiting said cluster h =
    subst (λ says. IsToldIn (state_at log waiting.time) cluster says (Rows (peek_rows log waiting))) (sym h.says)
    (h.told ∙ ap Rows (sym (rows_found log waiting h.plan h.found)))

-- and so it is with the call of each pending peek
pub peek_told : (log : Log) → Legal log → (waiting : PendingPeek) (call : Call) → Contains (pending log) waiting → Contains (calls log) call
    → call.peek ≡ Some waiting.peek → IsToldIn (state_at log waiting.time) call.cluster call.statement (Rows (peek_rows log waiting))
peek_told log l waiting call pends has own =
    asked_rows log waiting call.statement call.cluster
    (each_has (λ c. AsksOf log waiting c.peek c.statement c.cluster) call (calls log)
    (each_has (λ w. EachSaid (AsksOf log w) (calls log)) waiting (pending log) (all_asked log l) (has_from waiting (pending log) pends))
    (has_from call (calls log) has) own)
