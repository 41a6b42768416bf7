-- A legal log replays: bucket by bucket, by induction on the log.
use Rattle.std.proofs.Common.{◌≡◌, ℕ, zero, suc, ◌≤◌, max, true, List, [], ◌∷◌, Some, None, is_some, IsSome, IfSome, refl, sym, ap, ◌∙◌, subst, arith}
use Rattle.std.specs.Prelude.{Contains}
use Rattle.std.specs.List.{AllByRecursion as Each}
use Rattle.std.proofs.lemmas.Bool.{false≢true}
use Rattle.mz_plan_laws.proofs.TypedValues.{each_weaker}
use Rattle.mz_statement.specs.declared.statement.Statement.{Statement}
use Rattle.mz_statement.specs.declared.statement.Statement.TheVariants.{ShowFrontiers}
use Rattle.mz_log.specs.declared.entry.Entry.TheVariants.{Queue, Apply, Read, Finish, Refused, Instant, Cancel}
use Rattle.mz_log.specs.declared.reply.Reply.TheVariants as reply
use Rattle.mz_log.specs.Log.{Log}
use Rattle.mz_print.specs.Print.{print_of}
use Rattle.mz_books.specs.Clusters.{cluster_of}
use Rattle.mz_books.specs.Rounds.{read_time}
use Rattle.mz_books.specs.Calls.{Call, calls, instant_reply, new_call}
use Rattle.mz_books.specs.History.{IsReplyFrom, ReplayFrom, Replays, after_reply, history}
use Rattle.mz_log.specs.Sequential.{Sequential, opening}
use Rattle.mz_books.specs.States.{state_at}
use Rattle.mz_books.specs.Legal.{Legal}
use Rattle.mz_call_laws.proofs.Lists.{each_has, has_from}
use Rattle.mz_call_laws.proofs.Timed.{timed}
use Rattle.mz_replay_laws.specs.Replays.{after_calls, calls_until}
use Rattle.mz_call_laws.proofs.Buckets.{by_time_upto}
use Rattle.mz_replay_laws.proofs.UpTo.{until_upto}
use Rattle.mz_replay_laws.proofs.Reaches.{Reaches, after_at, before, buckets_replay, reaches_more}
use Rattle.mz_replay_laws.proofs.Replayed.{applied_bucket}
use Rattle.mz_replay_laws.proofs.ToldCalls.{cancelled_plain, end_reaches, finish_reaches, refusal_reaches}

-- what is carried out at once leaves the state
instant_leaves : (log : Log) (statement : Statement) (time : ℕ) (state : Sequential) (c : Call)
    → after_reply state c (Some (instant_reply log statement time)) ≡ state
instant_leaves log ShowFrontiers time state c = refl
instant_leaves log statement time state c = refl

-- and shows its own time
instant_fine : (log : Log) (statement : Statement) (time : ℕ) (state : Sequential) (c : Call) → time ≡ c.stored.time
    → IsReplyFrom state c (instant_reply log statement time)
instant_fine log ShowFrontiers time state c own = own
instant_fine log statement time state c own = own

-- the call of it keeps each bucket
instant_reaches : (log : Log) (session number : ℕ) (statement : Statement) (time t : ℕ) (state : Sequential)
    → Reaches t (state_at log t) state (calls log) → Reaches t (state_at log t) state (calls (Instant session number statement time ∷ log))
instant_reaches log session number statement time t state r =
    let new : Call =
    new_call session number time (print_of statement) (Some (instant_reply log statement time)) (Some statement) (cluster_of log session) None in
    reaches_more t (state_at log t) state (calls log) new (λ s. instant_leaves log statement time s new)
    (λ s e. record { told = instant_fine log statement time s new refl; last = λ some. absurd (false≢true some) }) r

-- the log of no entry has the opening state at each time
before_all : (t : ℕ) → before (λ _. opening) t ≡ opening
before_all zero = refl
before_all (suc t) = refl

-- the bucket of each time leads from the state before that time to the state at it
buckets : (log : Log) → Legal log → (t : ℕ) → Reaches t (state_at log t) (before (state_at log) t) (calls log)
buckets [] l t = before_all t
buckets (Queue session call statement ∷ log) l t =
    reaches_more t (state_at log t) _ (calls log) _ (λ state. refl)
    (λ state e. record { told = tt; last = λ some. absurd (false≢true some) }) (buckets log l.0 t)
buckets (Instant session call statement time ∷ log) l t =
    instant_reaches log session call statement time t _ (buckets log l.0 t)
buckets (Read session call peek time statement collection ∷ log) l t =
    reaches_more t (state_at log t) _ (calls log) _ (λ state. refl) (λ state e. record { told = tt; last = λ some. e }) (buckets log l.0 t)
buckets (Refused session call text refusal ∷ log) l t =
    refusal_reaches session call text refusal _ _ t (state_at log t) _ (calls log) (buckets log l.0 t)
buckets (Apply time replies ∷ log) l t = applied_bucket log time replies l t (buckets log l.0 t)
buckets (Finish peek rows ∷ log) l t = finish_reaches log peek rows l t _ (buckets log l.0 t)
buckets (Cancel session call ∷ log) l t =
    end_reaches reply.Cancelled cancelled_plain session call t (state_at log t) _ (calls log) (buckets log l.0 t)
buckets (entry ∷ log) l t = buckets log l.0 t

-- so the buckets in a row replay, and they are the history
pub legal_replay : (log : Log) → Legal log → Replays log
legal_replay log l =
    subst (ReplayFrom opening) (sym (by_time_upto (read_time log) (calls log) (timed log l).done))
    (buckets_replay (state_at log) (calls log) (buckets log l) (read_time log)).0

-- the calls up to a time leave the state at it
pub state_replayed : (log : Log) (time : ℕ) → Legal log → after_calls opening (calls_until time (history log)) ≡ state_at log time
state_replayed log t l =
    let n = max t (read_time log) in
    let all : Each (λ c. c.stored.time ≤ n) (calls log) =
    each_weaker (λ c. c.stored.time ≤ read_time log) (λ c. c.stored.time ≤ n) (λ c u. omega arith) (calls log) (timed log l).done in
    ap (λ cs. after_calls opening (calls_until t cs)) (by_time_upto n (calls log) all)
    ∙ ap (after_calls opening) (until_upto t n (calls log) (omega arith)) ∙ (buckets_replay (state_at log) (calls log) (buckets log l) t).1

-- ---- reads

-- what a bucket says of its reads
reaches_reads : (t : ℕ) (end state : Sequential) (cs : List Call) → Reaches t end state cs
    → Each (λ c. c.stored.time ≡ t → is_some c.peek ≡ true → IfSome c.stored.reply (IsReplyFrom end c)) cs
reaches_reads t end state [] r = tt
reaches_reads t end state (c ∷ cs) r = (
  (λ own some. let fine = r.0 own in subst (λ s. IfSome c.stored.reply (IsReplyFrom s c)) (fine.last some) fine.told),
  reaches_reads t end (after_at t state c) cs r.1,
)

-- a read that has its reply has what its query is told in the state at its time
pub read_replied : (log : Log) (call : Call) → Legal log → Contains (calls log) call → IsSome call.peek
    → IfSome call.stored.reply (IsReplyFrom (state_at log call.stored.time) call)
read_replied log call l has some =
    each_has (λ c. c.stored.time ≡ call.stored.time → is_some c.peek ≡ true
    → IfSome c.stored.reply (IsReplyFrom (state_at log call.stored.time) c)) call (calls log)
    (reaches_reads call.stored.time (state_at log call.stored.time) _ (calls log) (buckets log l call.stored.time))
    (has_from call (calls log) has) refl some
