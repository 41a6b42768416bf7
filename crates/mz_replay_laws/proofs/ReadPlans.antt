-- A read that was accepted: its plan, and what it reads.
use Rattle.std.proofs.Common.{◌≡◌, ℕ, ◌∷◌, Ok, sym, ap, subst, ◌∙◌}
use Rattle.mz_statement.specs.declared.statement.Statement.{Statement}
use Rattle.mz_log.specs.declared.entry.Entry.TheVariants.{Read}
use Rattle.mz_log.specs.Log.{Log}
use Rattle.mz_books.specs.Clusters.{cluster_of}
use Rattle.mz_log.specs.CarriedOut.{Rows, seq}
use Rattle.mz_books.specs.Collections.{collections, plan_or_none, with_read}
use Rattle.mz_books.specs.States.{plan_at, query_plan, scope_of, state_at}
use Rattle.mz_books.specs.Situation.{situation}
use Rattle.mz_books.specs.Legal.{Legal}
use Rattle.std.specs.FinMap.{entries}
use Rattle.mz_state_laws.specs.Well.{scope_in}
use Rattle.mz_replay_laws.specs.Reads.{HasPlan}
use Rattle.mz_replay_laws.specs.Well.{IsNewest}
use Rattle.mz_replay_laws.proofs.Accepted.{IsReadIn, answered_of}
use Rattle.mz_replay_laws.proofs.Dropped.{plan_rows}
use Rattle.mz_replay_laws.proofs.ItemsStay.{newest_from_ddl}
use Rattle.mz_replay_laws.proofs.QueryPlans.{plan_of_scope, plan_readable, plan_there, query_told}
use Rattle.mz_replay_laws.proofs.Served.{IsServed, read_served}
use Rattle.mz_replay_laws.proofs.WellStates.{states_well}

-- what is known of a read that was accepted
pub accepted_read : (log : Log) (session call peek time : ℕ) (statement : Statement) (collection : ℕ)
    → Legal (Read session call peek time statement collection ∷ log) → IsReadIn (situation log session) peek time statement collection
accepted_read log session call peek time statement collection l =
    let may = l.1.may in
    (answered_of log session may.text may.asked (Read session call peek time statement collection) may.answered).1

-- items of the newest state are those of the read's time
newest_items : (log : Log) → Legal log → (session call peek time : ℕ) (statement : Statement) (collection : ℕ)
    → Legal (Read session call peek time statement collection ∷ log) → IsNewest log time
newest_items log l session call peek time statement collection read =
    newest_from_ddl log l time (accepted_read log session call peek time statement collection read).settled

-- so its plan is that of its own time
pub read_plan : (log : Log) (session call peek time : ℕ) (statement : Statement) (collection : ℕ)
    → Legal (Read session call peek time statement collection ∷ log) → HasPlan log session time statement
read_plan log session call peek time statement collection l =
    let is = accepted_read log session call peek time statement collection l in
    let newest = newest_items log l.0 session call peek time statement collection l in
    let own : query_plan (scope_in (state_at log time) (cluster_of log session)) statement ≡ Ok is.plan =
    ap (λ items. query_plan (record { items = items; cluster = cluster_of log session }) statement) newest.items ∙ is.resolved in
    record {
      plan = is.plan;
      submitted = is.resolved;
      own_time = own;
      readable = plan_readable (state_at log time) (states_well log l.0 time) (cluster_of log session) statement is.query is.plan own;
      there = plan_there (state_at log time) (states_well log l.0 time) (cluster_of log session) statement is.query is.plan own;
    }

-- and it is told the rows that its plan has at its time
pub read_told : (log : Log) → Legal log → (session time : ℕ) (statement : Statement) → (has : HasPlan log session time statement)
    → (seq (state_at log time) (cluster_of log session) statement).response ≡ Rows (entries (plan_at log has.plan time))
read_told log l session time statement has =
    query_told (state_at log time) (cluster_of log session) statement has.plan has.own_time
    ∙ ap (λ bag. Rows (entries bag)) (sym (plan_rows log l time has.plan has.there))

-- the collection that it reads has these rows
pub read_collection : (log : Log) (session call peek time : ℕ) (statement : Statement) (collection : ℕ)
    → (l : Legal (Read session call peek time statement collection ∷ log))
    → IsServed log collection (collections (Read session call peek time statement collection ∷ log)) time
    (read_plan log session call peek time statement collection l).plan
unfolding read_plan accepted_read
read_collection log session call peek time statement collection l =
    let is = accepted_read log session call peek time statement collection l in
    subst (λ own. IsServed log collection (with_read collection peek (cluster_of log session) own time (collections log)) time is.plan)
    (sym (ap plan_or_none is.resolved))
    (read_served log l.0 collection peek (cluster_of log session) time (newest_items log l.0 session call peek time statement collection l) is.plan
    (plan_of_scope (scope_of log session) statement is.query is.plan is.resolved) is.reads)
