-- In a legal log the calls are timed: none is past the read time, nor past the time of its session's transaction.
use Rattle.std.proofs.Common.{◌≡◌, ◌==◌, [], ◌∷◌, refl, sym, subst, arith}
use Rattle.mz_rules.proofs.Each.{each_filter, each_map}
use Rattle.mz_statement.specs.declared.statement.Statement.TheVariants.{Start, Commit}
use Rattle.mz_log.specs.declared.entry.Entry.TheVariants.{Queue, Apply, Read, Finish, Refused, Instant, Cancel, Close}
use Rattle.mz_log.specs.declared.reply.Reply.TheVariants as reply
use Rattle.mz_log.specs.Log.{Log}
use Rattle.mz_books.specs.Rounds.{queued, read_time}
use Rattle.mz_books.specs.Clusters.{cluster_of}
use Rattle.mz_books.specs.Calls.{calls, ended, finished, replied_in, seen_in}
use Rattle.mz_books.specs.Legal.{Legal}
use Rattle.mz_call_laws.proofs.Times.{round_later}
use Rattle.mz_call_laws.proofs.Replied.{ended_is, finished_is}
use Rattle.mz_call_laws.proofs.Transactions.{SessionUntil, Timed, begun, kept_own, kept_time, not_ended, refused_keeps, seen_until, seen_within}
use Rattle.mz_call_laws.proofs.TimedSteps.{instant_done, instant_inside, queue_timed, read_timed, round_done, round_own, start_or_before}

-- only a round moves the read time, to its own, and gives calls a later time
pub timed : (log : Log) → Legal log → Timed log
timed [] l = record { done = tt; inside = λ session time is. absurd (cc) }
timed (Queue session number statement ∷ log) l = queue_timed log session number statement l.1.may (timed log l.0)
timed (Read session number peek time statement collection ∷ log) l =
    read_timed log session number peek time statement collection l.1.may (timed log l.0)
timed (Instant session number Start time ∷ log) l =
    let k = timed log l.0 in
    record {
      done = instant_done log session number time Start l.1.may k;
      inside = λ other at is. start_or_before log session number time l.1.may k other at (begun (session == other) time at _ is);
    }
timed (Instant session number Commit time ∷ log) l =
    let k = timed log l.0 in
    record {
      done = instant_done log session number time Commit l.1.may k;
      inside = λ other at is. instant_inside log session number time Commit l.1.may k other at (not_ended (session == other) _ at is);
    }
timed (Instant session number statement time ∷ log) l =
    let k = timed log l.0 in
    record {
      done = instant_done log session number time statement l.1.may k;
      inside = instant_inside log session number time statement l.1.may k;
    }
timed (Refused session number text refusal ∷ log) l =
    let k = timed log l.0 in
    let told = reply.Refused refusal in
    let change = ended_is (λ c time. time ≡ c.stored.time) (λ c. refl) session number (λ own. told) in
    record {
      done = refused_keeps _ session number (cluster_of log session) (seen_in session (calls log)) text told (calls log)
          (λ c. kept_time (read_time log) c _ (change c)) (seen_until session (read_time log) (calls log) k.done) k.done;
      inside = λ other at is. record {
        readable = (k.inside other at is).readable;
        none_queued = each_filter _ _ (queued log) (k.inside other at is).none_queued;
        seen = refused_keeps _ session number (cluster_of log session) (seen_in session (calls log)) text told (calls log)
            (λ c. kept_own other at c _ (change c))
            (λ own. seen_within session at (calls log) (subst (λ s. SessionUntil s at (calls log)) (sym own) (k.inside other at is).seen))
            (k.inside other at is).seen;
      };
    }
timed (Apply time replies ∷ log) l =
    let k = timed log l.0 in
    let later = round_later log time replies l in
    record {
      done = each_map _ _ (replied_in time replies) (λ c until. round_done (read_time log) time replies c later until) (calls log) k.done;
      inside = λ other at is.
          let before = (k.inside other at is).readable in
          record {
            readable = omega arith;
            none_queued = each_filter _ _ (queued log) (k.inside other at is).none_queued;
            seen = each_map _ _ (replied_in time replies)
                (λ c until. round_own log time replies l other at (k.inside other at is).none_queued c until)
                (calls log) (k.inside other at is).seen;
          };
    }
timed (Finish peek rows ∷ log) l =
    let k = timed log l.0 in
    let change = finished_is (λ c time. time ≡ c.stored.time) (λ c. refl) peek rows in
    record {
      done = each_map _ _ (finished peek rows) (λ c. kept_time (read_time log) c _ (change c)) (calls log) k.done;
      inside = λ other at is. record {
        readable = (k.inside other at is).readable;
        none_queued = (k.inside other at is).none_queued;
        seen = each_map _ _ (finished peek rows) (λ c. kept_own other at c _ (change c)) (calls log) (k.inside other at is).seen;
      };
    }
timed (Cancel session number ∷ log) l =
    let k = timed log l.0 in
    let change = ended_is (λ c time. time ≡ c.stored.time) (λ c. refl) session number reply.Cancelled in
    record {
      done = each_map _ _ (ended session number reply.Cancelled) (λ c. kept_time (read_time log) c _ (change c)) (calls log) k.done;
      inside = λ other at is. record {
        readable = (k.inside other at is).readable;
        none_queued = each_filter _ _ (queued log) (k.inside other at is).none_queued;
        seen = each_map _ _ (ended session number reply.Cancelled) (λ c. kept_own other at c _ (change c)) (calls log)
            (k.inside other at is).seen;
      };
    }
timed (Close session ∷ log) l =
    let k = timed log l.0 in
    record {
      done = k.done;
      inside = λ other at is.
          let before = k.inside other at (not_ended (session == other) _ at is) in
          record { readable = before.readable; none_queued = before.none_queued; seen = before.seen };
    }
timed (entry ∷ log) l =
    let k = timed log l.0 in
    record {
      done = k.done;
      inside = λ other at is.
          let before = k.inside other at is in
          record { readable = before.readable; none_queued = before.none_queued; seen = before.seen };
    }
