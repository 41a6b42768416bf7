-- The rows that reads wait for: they stay as the log grows, and those of a new read are those of its plan over the tables of now.
use Rattle.std.proofs.Common.{◌≡◌, ℕ, List, [], ◌∷◌, None, Some, Ok, inl, inr, map, refl, sym, ap, ◌∙◌}
use Rattle.std.specs.FinMap.{empty, entries}
use Rattle.std.specs.Option.{option_map_or}
use Rattle.mz_bag.specs.Weighted.{Weighted, bag_of}
use Rattle.mz_plan.specs.declared.command.PendingPeek.{PendingPeek}
use Rattle.mz_plan.specs.declared.plan.Plan.{Plan}
use Rattle.mz_print.specs.Print.{print_of}
use Rattle.mz_statement.specs.declared.statement.Statement.{Statement}
use Rattle.mz_log.specs.CarriedOut.{Rows, rows_of}
use Rattle.mz_log.specs.Log.{Log}
use Rattle.mz_log.specs.declared.entry.Entry.{Entry}
use Rattle.mz_log.specs.declared.entry.Entry.TheVariants.{Read}
use Rattle.mz_books.specs.Calls.{Call, calls, new_call}
use Rattle.mz_books.specs.Clusters.{cluster_of}
use Rattle.mz_books.specs.Collections.{collections}
use Rattle.mz_books.specs.Holds.{pending}
use Rattle.mz_books.specs.Legal.{Legal}
use Rattle.mz_books.specs.Owed.{peek_rows}
use Rattle.mz_books.specs.Rounds.{read_time}
use Rattle.mz_books.specs.States.{newest_state, plan_at, query_plan, scope_of}
use Rattle.mz_call_laws.proofs.Lists.{each_has, has_right}
use Rattle.mz_call_laws.proofs.PendingCalls.{pending_call}
use Rattle.mz_call_laws.specs.Members.{Has}
use Rattle.mz_replay_laws.proofs.Collected.{found_stays}
use Rattle.mz_replay_laws.proofs.Found.{of_plan_in, plan_in}
use Rattle.mz_replay_laws.proofs.PeekRows.{AsksOf, IsAsked, all_asked}
use Rattle.mz_replay_laws.proofs.PeekTold.{asked_rows}
use Rattle.mz_replay_laws.proofs.QueryPlans.{query_told}
use Rattle.mz_replay_laws.proofs.SaidCalls.{EachSaid}
use Rattle.mz_replay_laws.proofs.Steady.{plan_stays}
use Rattle.mz_core.specs.Told.{read_of}

-- a pending peek is asked by its call
asked_by : (log : Log) → Legal log → (waiting : PendingPeek) → Has waiting (pending log) → (call : Call) → Has call (calls log)
    → call.peek ≡ Some waiting.peek → IsAsked log waiting call.statement call.cluster
asked_by log l waiting has call there own =
    each_has (λ c. AsksOf log waiting c.peek c.statement c.cluster) call (calls log)
    (each_has (λ w. EachSaid (AsksOf log w) (calls log)) waiting (pending log) (all_asked log l) has) there own

-- the rows of a plan that is found
rows_of_found : (log : Log) (waiting : PendingPeek) (plan : Plan) → plan_in waiting.collection (collections log) ≡ Some plan
    → peek_rows log waiting ≡ entries (plan_at log plan waiting.time)
rows_of_found log waiting plan found =
    ap entries (of_plan_in (λ own. plan_at log own waiting.time) waiting.collection (collections log)
    ∙ ap (λ own. option_map_or (λ own. plan_at log own waiting.time) own empty) found)

-- a pending peek waits for the same rows once an entry has come
pub rows_stay : (log : Log) (entry : Entry) → Legal (entry ∷ log) → (waiting : PendingPeek) → Has waiting (pending log)
    → peek_rows (entry ∷ log) waiting ≡ peek_rows log waiting
rows_stay log entry l waiting has =
    let asks = pending_call log l.0 waiting has in
    let asked = asked_by log l.0 waiting has asks.call asks.there asks.is.peek in
    rows_of_found (entry ∷ log) waiting asked.plan (found_stays log (entry ∷ []) waiting.collection asked.plan asked.found)
    ∙ (ap entries (plan_stays log (entry ∷ []) asked.plan waiting.time l asked.readable) ∙ sym (rows_of_found log waiting asked.plan asked.found))

-- so the reads that wait stay as they are
all_stay : (log : Log) (entry : Entry) (peeks : List PendingPeek)
    → ((waiting : PendingPeek) → Has waiting peeks → peek_rows (entry ∷ log) waiting ≡ peek_rows log waiting)
    → map (read_of (entry ∷ log)) peeks ≡ map (read_of log) peeks
all_stay log entry [] same = refl
all_stay log entry (waiting ∷ peeks) same = λ i.
    record {
      peek = waiting.peek;
      session = waiting.session;
      call = waiting.call;
      time = waiting.time;
      rows = same waiting (inl refl) i;
    } ∷ all_stay log entry peeks (λ w has. same w (inr has)) i

-- those of the log among them
pub reads_stay : (log : Log) (entry : Entry) → Legal (entry ∷ log)
    → map (read_of (entry ∷ log)) (pending log) ≡ map (read_of log) (pending log)
reads_stay log entry l = all_stay log entry (pending log) (rows_stay log entry l)

-- ---- a new read

-- what is told as rows is rows
rows_same : (some more : Weighted) → Rows some ≡ Rows more → some ≡ more
rows_same some more e = cc

-- the call of a new read
abbrev new_read : Log → ℕ → ℕ → ℕ → Statement → Call
new_read log session call peek statement =
    new_call session call (read_time log) (print_of statement) None (Some statement) (cluster_of log session) (Some peek)

-- a new read waits for the rows of its plan over the tables of now
pub new_rows : (log : Log) (session call peek : ℕ) (statement : Statement) (collection : ℕ) (plan : Plan)
    → Legal (Read session call peek (read_time log) statement collection ∷ log) → query_plan (scope_of log session) statement ≡ Ok plan
    → peek_rows (Read session call peek (read_time log) statement collection ∷ log)
    (record { peek = peek; session = session; call = call; collection = collection; time = read_time log })
    ≡ entries (bag_of (rows_of (newest_state log) plan))
new_rows log session call peek statement collection plan l is =
    let later : Log = Read session call peek (read_time log) statement collection ∷ log in
    let waiting : PendingPeek = record { peek = peek; session = session; call = call; collection = collection; time = read_time log } in
    let new : Call = new_read log session call peek statement in
    let asked = asked_by later l waiting (has_right waiting (pending log) (waiting ∷ []) (inl refl)) new
    (has_right new (calls log) (new ∷ []) (inl refl)) refl in
    rows_same _ _ (sym (asked_rows later waiting new.statement new.cluster asked) ∙ query_told (newest_state log) 0 statement plan is)
