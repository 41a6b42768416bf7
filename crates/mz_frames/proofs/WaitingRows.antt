-- The rows that pending peeks wait for: they stay, and those of a new peek are what its query is told.
use Rattle.std.proofs.Common.{◌≡◌, ℕ, List, [], ◌∷◌, ◌++◌, map, Ok, Some, refl, sym, ap, ap₂, ◌∙◌}
use Rattle.std.specs.Prelude.{Contains}
use Rattle.std.specs.FinMap.{empty, entries}
use Rattle.std.specs.List.{AllByRecursion as Each}
use Rattle.std.specs.Option.{option_map_or}
use Rattle.mz_bag.specs.Weighted.{Weighted, bag_of}
use Rattle.mz_statement.specs.declared.statement.Statement.{Statement}
use Rattle.mz_plan.specs.declared.command.PendingPeek.{PendingPeek}
use Rattle.mz_plan.specs.declared.plan.Plan.{Plan}
use Rattle.mz_resolution.specs.Steps.{Step}
use Rattle.mz_log.specs.declared.entry.Entry.{Entry}
use Rattle.mz_log.specs.declared.entry.Entry.TheVariants.{Read}
use Rattle.mz_log.specs.CarriedOut.{rows_of}
use Rattle.mz_log.specs.Log.{Log}
use Rattle.mz_books.specs.Calls.{Call, calls}
use Rattle.mz_books.specs.Collections.{collections}
use Rattle.mz_books.specs.Holds.{pending}
use Rattle.mz_books.specs.Legal.{Legal}
use Rattle.mz_books.specs.Owed.{peek_rows}
use Rattle.mz_books.specs.Rounds.{read_time}
use Rattle.mz_books.specs.States.{newest_state, plan_at, query_plan, scope_of, state_at}
use Rattle.mz_call_laws.specs.Members.{Has}
use Rattle.mz_call_laws.proofs.Lists.{each_from, each_has, has_from}
use Rattle.mz_call_laws.proofs.PendingCalls.{pending_call}
use Rattle.mz_call_laws.proofs.Times.{legal_earlier}
use Rattle.mz_replay_laws.proofs.Collected.{found_stays}
use Rattle.mz_replay_laws.proofs.Dropped.{plan_rows}
use Rattle.mz_replay_laws.proofs.Found.{of_plan_in, plan_in}
use Rattle.mz_replay_laws.proofs.PeekRows.{AsksOf, IsAsked, all_asked}
use Rattle.mz_replay_laws.proofs.ReadPlans.{read_collection, read_plan}
use Rattle.mz_replay_laws.proofs.SaidCalls.{EachSaid}
use Rattle.mz_replay_laws.proofs.Steady.{plan_stays}

-- ---- rows that stay

-- the rows that a peek waits for are those of the plan that is found
rows_found : (log : Log) (waiting : PendingPeek) (plan : Plan) → plan_in waiting.collection (collections log) ≡ Some plan
    → peek_rows log waiting ≡ entries (plan_at log plan waiting.time)
rows_found log waiting plan found =
    ap entries (of_plan_in (λ own. plan_at log own waiting.time) waiting.collection (collections log)
    ∙ ap (λ own. option_map_or (λ own. plan_at log own waiting.time) own empty) found)

-- that of a pending peek is found, and its time may be read
rows_of_asked : (log later : Log) → Legal (later ++ log) → (waiting : PendingPeek) → (call : Call) → IsAsked log waiting call.statement call.cluster
    → peek_rows (later ++ log) waiting ≡ peek_rows log waiting
rows_of_asked log later l waiting call asked =
    rows_found (later ++ log) waiting asked.plan (found_stays log later waiting.collection asked.plan asked.found)
    ∙ ap entries (plan_stays log later asked.plan waiting.time l asked.readable)
    ∙ sym (rows_found log waiting asked.plan asked.found)

-- so its rows stay
pub rows_stay : (log later : Log) → Legal (later ++ log) → (waiting : PendingPeek) → Has waiting (pending log)
    → peek_rows (later ++ log) waiting ≡ peek_rows log waiting
rows_stay log later l waiting there =
    let before = legal_earlier log later l in
    let asked = pending_call log before waiting there in
    rows_of_asked log later l waiting asked.call
    (each_has (λ c. AsksOf log waiting c.peek c.statement c.cluster) asked.call (calls log)
    (each_has (λ w. EachSaid (AsksOf log w) (calls log)) waiting (pending log) (all_asked log before) there) asked.there asked.is.peek)

-- of a pending peek, in the words of std
pub pending_rows_stay : (log later : Log) → Legal (later ++ log) → (waiting : PendingPeek) → Contains (pending log) waiting
    → peek_rows (later ++ log) waiting ≡ peek_rows log waiting
pending_rows_stay log later l waiting there = rows_stay log later l waiting (has_from waiting (pending log) there)

-- of each pending peek
pub each_rows_stay : (log : Log) (entry : Entry) → Legal (entry ∷ log)
    → Each (λ waiting. peek_rows (entry ∷ log) waiting ≡ peek_rows log waiting) (pending log)
each_rows_stay log entry l = each_from _ (pending log) (λ waiting there. rows_stay log (entry ∷ []) l waiting there)

-- where two functions agree at each member, they make the same list
pub map_each : {A B : Type 0} (f g : A → B) (xs : List A) → Each (λ x. f x ≡ g x) xs → map f xs ≡ map g xs
map_each f g [] e = refl
map_each f g (x ∷ xs) e = ap₂ (λ y ys. y ∷ ys) e.0 (map_each f g xs e.1)

-- so what is made of peeks and their rows stays
pub mapped_rows_stay : {A : Type 0} (f : PendingPeek → Weighted → A) (log : Log) (entry : Entry) → Legal (entry ∷ log)
    → map (λ waiting. f waiting (peek_rows (entry ∷ log) waiting)) (pending log) ≡ map (λ waiting. f waiting (peek_rows log waiting)) (pending log)
mapped_rows_stay f log entry l =
    map_each _ _ (pending log) (each_from _ (pending log) (λ waiting there. ap (f waiting) (rows_stay log (entry ∷ []) l waiting there)))

-- the rows themselves stay
pub all_rows_stay : (log : Log) (entry : Entry) → Legal (entry ∷ log)
    → map (peek_rows (entry ∷ log)) (pending log) ≡ map (peek_rows log) (pending log)
all_rows_stay log entry l = mapped_rows_stay (λ waiting rows. rows) log entry l

-- ---- rows of a new peek

-- the peek of a read
abbrev pub peek_of : ℕ → ℕ → ℕ → ℕ → ℕ → PendingPeek
peek_of session call peek time collection =
    record { peek = peek; session = session; call = call; collection = collection; time = time }

-- a step that gave one value gave no other
same_given : (step : Step Plan) (plan other : Plan) → step ≡ Ok plan → step ≡ Ok other → other ≡ plan
same_given step plan other is also = cc

-- it waits for the rows of its plan in the state at its time
pub new_rows : (log : Log) (session call peek time : ℕ) (statement : Statement) (collection : ℕ) (plan : Plan)
    → Legal (Read session call peek time statement collection ∷ log) → query_plan (scope_of log session) statement ≡ Ok plan
    → peek_rows (Read session call peek time statement collection ∷ log) (peek_of session call peek time collection)
    ≡ entries (bag_of (rows_of (state_at log time) plan))
new_rows log session call peek time statement collection plan l is =
    let longer = Read session call peek time statement collection ∷ log in
    let has = read_plan log session call peek time statement collection l in
    let served = read_collection log session call peek time statement collection l in
    rows_found longer (peek_of session call peek time collection) served.own served.found
    ∙ ap entries (served.rows ∙ plan_rows log l.0 time has.plan has.there)
    ∙ ap (λ own. entries (bag_of (rows_of (state_at log time) own))) (same_given (query_plan (scope_of log session) statement) plan has.plan is has.submitted)

-- where it is read at the read time, in the newest state
pub newest_rows : (log : Log) (session call peek time : ℕ) (statement : Statement) (collection : ℕ) (plan : Plan)
    → Legal (Read session call peek time statement collection ∷ log) → query_plan (scope_of log session) statement ≡ Ok plan
    → time ≡ read_time log
    → peek_rows (Read session call peek time statement collection ∷ log) (peek_of session call peek time collection)
    ≡ entries (bag_of (rows_of (newest_state log) plan))
newest_rows log session call peek time statement collection plan l is now =
    new_rows log session call peek time statement collection plan l is
    ∙ ap (λ at. entries (bag_of (rows_of (state_at log at) plan))) now
