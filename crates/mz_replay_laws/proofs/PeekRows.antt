-- A pending peek is asked for: what it reads has the rows that the statement of its call is told at its time.
use Rattle.std.proofs.Common.{◌≡◌, ℕ, ◌≤◌, Bool, true, false, List, [], ◌∷◌, Option, Some, refl, sym, ap, subst, ◌∙◌, true≢false, arith}
use Rattle.std.specs.FinMap.{entries}
use Rattle.std.specs.List.{AllByRecursion as Each}
use Rattle.mz_statement.specs.declared.statement.Statement.{Statement}
use Rattle.mz_plan.specs.declared.command.PendingPeek.{PendingPeek}
use Rattle.mz_plan.specs.declared.plan.Plan.{Plan}
use Rattle.mz_plan_laws.proofs.TypedValues.{each_append, each_kept, each_weaker}
use Rattle.mz_log.specs.declared.entry.Entry.{Entry}
use Rattle.mz_log.specs.declared.entry.Entry.TheVariants.{Read, Finish, Cancel, Queue, Instant, Refused}
use Rattle.mz_log.specs.Log.{Log}
use Rattle.mz_books.specs.Clusters.{cluster_of}
use Rattle.mz_books.specs.Calls.{Call, calls}
use Rattle.mz_log.specs.CarriedOut.{Rows, seq}
use Rattle.mz_books.specs.Collections.{collections}
use Rattle.mz_books.specs.Holds.{peeks_made, pending}
use Rattle.mz_books.specs.Rounds.{read_time}
use Rattle.mz_books.specs.States.{plan_at, state_at}
use Rattle.mz_books.specs.Legal.{Legal}
use Rattle.mz_replay_laws.proofs.Collected.{found_stays}
use Rattle.mz_replay_laws.proofs.Found.{plan_in}
use Rattle.mz_replay_laws.proofs.Lists.{each_both}
use Rattle.mz_replay_laws.proofs.Peeks.{IsLow, all_made}
use Rattle.mz_replay_laws.proofs.ReadPlans.{accepted_read, read_collection, read_plan, read_told}
use Rattle.mz_replay_laws.proofs.SaidCalls.{EachSaid, SaidOfNew, Saying, said_on}
use Rattle.mz_replay_laws.proofs.Steady.{plan_stays, state_stays}
use Rattle.mz_call_laws.proofs.Times.{read_rises}

-- what a statement is told in the state at a peek's time are the rows of the collection that the peek reads
pub record IsAsked (log : Log) (waiting : PendingPeek) (said : Option Statement) (cluster : ℕ) : Type 0 where
  pub plan : Plan
  pub found : plan_in waiting.collection (collections log) ≡ Some plan
  pub readable : waiting.time ≤ read_time log
  pub statement : Statement
  pub says : said ≡ Some statement
  pub told : (seq (state_at log waiting.time) cluster statement).response ≡ Rows (entries (plan_at log plan waiting.time))

-- so it is with a call, if the peek is its
abbrev pub AsksOf : Log → PendingPeek → Saying
AsksOf log waiting peek said cluster = peek ≡ Some waiting.peek → IsAsked log waiting said cluster

-- and stays so
asked_on : (log : Log) (entry : Entry) → Legal (entry ∷ log) → (waiting : PendingPeek) (said : Option Statement) (cluster : ℕ)
    → IsAsked log waiting said cluster → IsAsked (entry ∷ log) waiting said cluster
asked_on log entry l waiting said cluster h =
    let rises = read_rises log (entry ∷ []) l in
    let readable = h.readable in
    record {
      plan = h.plan;
      found = found_stays log (entry ∷ []) waiting.collection h.plan h.found;
      readable = omega arith;
      statement = h.statement;
      says = h.says;
      told = ap (λ state. (seq state cluster h.statement).response) (state_stays log (entry ∷ []) waiting.time l readable)
          ∙ h.told ∙ ap (λ bag. Rows (entries bag)) (sym (plan_stays log (entry ∷ []) h.plan waiting.time l readable));
    }

-- each call of each of these peeks
abbrev pub AllAsked : Log → List PendingPeek → List Call → Type 0
AllAsked log peeks cs = Each (λ waiting. EachSaid (AsksOf log waiting) cs) peeks

-- the peeks that were pending, where the entry makes no call of one of them
older : (log : Log) (entry : Entry) → Legal (entry ∷ log) → (peeks : List PendingPeek)
    → Each (λ waiting. SaidOfNew (AsksOf (entry ∷ log) waiting) log entry) peeks → AllAsked log peeks (calls log)
    → AllAsked (entry ∷ log) peeks (calls (entry ∷ log))
older log entry l peeks new h =
    each_weaker (λ waiting. SaidOfNew (AsksOf (entry ∷ log) waiting) log entry × EachSaid (AsksOf log waiting) (calls log))
    (λ waiting. EachSaid (AsksOf (entry ∷ log) waiting) (calls (entry ∷ log)))
    (λ waiting k. said_on (AsksOf (entry ∷ log) waiting) log entry k.0
    (each_weaker (λ c. AsksOf log waiting c.peek c.statement c.cluster) (λ c. AsksOf (entry ∷ log) waiting c.peek c.statement c.cluster)
    (λ c asks is. asked_on log entry l waiting c.statement c.cluster (asks is)) (calls log) k.1))
    peeks (each_both (λ waiting. SaidOfNew (AsksOf (entry ∷ log) waiting) log entry) (λ waiting. EachSaid (AsksOf log waiting) (calls log)) peeks new h)

-- the entry is a read
abbrev is_read_entry : Entry → Bool
is_read_entry (Read session call peek time statement collection) = true
is_read_entry entry = false

-- any other makes no call of a peek
none_new : (longer log : Log) (waiting : PendingPeek) (entry : Entry) → is_read_entry entry ≡ false → SaidOfNew (AsksOf longer waiting) log entry
none_new longer log waiting (Read session call peek time statement collection) other = absurd (true≢false other)
none_new longer log waiting (Queue session call statement) other = λ is. absurd (cc)
none_new longer log waiting (Instant session call statement time) other = λ is. absurd (cc)
none_new longer log waiting (Refused session call text refusal) other = λ is. absurd (cc)
none_new longer log waiting entry other = tt

-- what holds of all values holds of each
each_any : (P : PendingPeek → Type 0) → ((waiting : PendingPeek) → P waiting) → (peeks : List PendingPeek) → Each P peeks
each_any P f [] = tt
each_any P f (waiting ∷ peeks) = (f waiting, each_any P f peeks)

-- so peeks that were pending are asked still
older_other : (log : Log) (entry : Entry) → Legal (entry ∷ log) → is_read_entry entry ≡ false → AllAsked log (pending log) (calls log)
    → AllAsked (entry ∷ log) (pending log) (calls (entry ∷ log))
older_other log entry l other h =
    older log entry l (pending log)
    (each_any (λ waiting. SaidOfNew (AsksOf (entry ∷ log) waiting) log entry) (λ waiting. none_new (entry ∷ log) log waiting entry other) (pending log)) h

-- a read is asked for what it reads
asked_new : (log : Log) (session call peek time : ℕ) (statement : Statement) (collection : ℕ)
    → (l : Legal (Read session call peek time statement collection ∷ log)) → (waiting : PendingPeek)
    → waiting ≡ record { peek = peek; session = session; call = call; collection = collection; time = time }
    → IsAsked (Read session call peek time statement collection ∷ log) waiting (Some statement) (cluster_of log session)
asked_new log session call peek time statement collection l waiting is =
    let has = read_plan log session call peek time statement collection l in
    let served = read_collection log session call peek time statement collection l in
    subst (λ w. IsAsked (Read session call peek time statement collection ∷ log) w (Some statement) (cluster_of log session)) (sym is) (record {
      plan = served.own;
      found = served.found;
      readable = (accepted_read log session call peek time statement collection l).readable;
      statement = statement;
      says = refl;
      told = read_told log l.0 session time statement has ∙ ap (λ bag. Rows (entries bag)) (sym served.rows);
    })

-- so each pending peek of a legal log is asked
pub all_asked : (log : Log) → Legal log → AllAsked log (pending log) (calls log)
all_asked [] l = tt
all_asked (Read session call peek time statement collection ∷ log) l =
    let longer = Read session call peek time statement collection ∷ log in
    let made = all_made log l.0 in
    let next = (accepted_read log session call peek time statement collection l).next_peek in
    let new : PendingPeek = record { peek = peek; session = session; call = call; collection = collection; time = time } in
    each_append (λ waiting. EachSaid (AsksOf longer waiting) (calls longer)) (pending log) (new ∷ [])
    (older log (Read session call peek time statement collection) l (pending log)
    (each_weaker (λ waiting. waiting.peek ≤ peeks_made log) (λ waiting. AsksOf longer waiting (Some peek) (Some statement) (cluster_of log session))
    (λ waiting low is. let same : peek ≡ waiting.peek = cc in absurd (omega (arith, low, same, next))) (pending log) made.peeks)
    (all_asked log l.0)) (
      said_on (AsksOf longer new) log (Read session call peek time statement collection)
          (λ _. asked_new log session call peek time statement collection l new refl)
          (each_weaker (λ c. IsLow (peeks_made log) c.peek c.statement c.cluster) (λ c. AsksOf longer new c.peek c.statement c.cluster)
          (λ c low is. absurd (omega (arith, low peek is, next))) (calls log) made.calls),
      tt,
    )
all_asked (Finish peek rows ∷ log) l =
    each_kept _ _ (pending log) (older_other log (Finish peek rows) l refl (all_asked log l.0))
all_asked (Cancel session call ∷ log) l =
    each_kept _ _ (pending log) (older_other log (Cancel session call) l refl (all_asked log l.0))
all_asked (entry ∷ log) l = older_other log entry l refl (all_asked log l.0)
