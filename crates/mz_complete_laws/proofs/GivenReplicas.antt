-- What a log gives to the calls on replicas, clusters, feeds and packets keeps it good.
use Rattle.std.specs.Prelude.{IfSome, bytes_eq}
use Rattle.std.proofs.Common.{◌≡◌, ℕ, ◌+◌, ◌<◌, ◌&&◌, Bool, true, false, cond, List, [], ◌∷◌, ◌++◌, filter, find, length, map, Option, None, Some, is_some, nat_le, refl, sym, subst, arith, length-append}
use Rattle.std.specs.List.{AllByRecursion as Each, list_any}
use Rattle.std.specs.Option.{option_map_or}
use Rattle.std.proofs.lemmas.Bool.{cond_both, leb-false}
use Rattle.mz_plan.specs.declared.command.Command.{Command}
use Rattle.mz_plan.specs.declared.command.Command.TheVariants.{Peek}
use Rattle.mz_rules.specs.Joining.{allowances}
use Rattle.mz_rules.proofs.Each.{each_map, each_of, each_one}
use Rattle.mz_log.specs.declared.entry.Entry.TheVariants.{Apply, Read, Finish, Cancel, Fed, Absorbed, Join, Crash, Cluster}
use Rattle.mz_log.specs.declared.stream.Report.{Report}
use Rattle.mz_log.specs.declared.stream.Stream.{Stream}
use Rattle.mz_log.specs.Log.{Log}
use Rattle.mz_books.specs.Entries.{after}
use Rattle.mz_books.specs.Clusters.{clusters}
use Rattle.mz_books.specs.Collections.{collections}
use Rattle.mz_books.specs.Holds.{is_of_call, is_peek, pending}
use Rattle.mz_books.specs.Since.{settled}
use Rattle.mz_books.specs.Streams.{asking_lines, crashed, ending_lines, fed, incarnations, is_live_of, is_stream, live_stream, new_lines, newer_report, replica_cluster, reporting, streams, told_more}
use Rattle.mz_books.specs.Legal.{Legal, MayAbsorb, MayJoin, most_clusters}
use Rattle.mz_books.specs.GivenReplicas.{absorb_given, add_cluster_given, add_given, crash_given, join_given, most_replicas, rejoin_given, replicas_added}
use Rattle.mz_books.specs.Safe.{Good}
use Rattle.mz_call_laws.proofs.Lists.{each_has, found}
use Rattle.mz_event_laws.proofs.GoodLogs.{event_good}
use Rattle.mz_complete_laws.proofs.GivenGood.{given_either}

-- ---- options

-- what is some is some value
is_value : {A : Type 0} (o : Option A) → is_some o ≡ true → (x : A) × (o ≡ Some x)
is_value None e = absurd (cc)
is_value (Some x) e = (x, refl)

-- what isn't some is none
is_none_else : {A : Type 0} (o : Option A) → is_some o ≡ false → o ≡ None
is_none_else None e = refl
is_none_else (Some x) e = absurd (cc)

-- ---- clusters of streams

-- the stream is of a cluster that there is
abbrev IsOfCluster : Log → Stream → Type 0
IsOfCluster log s = s.cluster < length (clusters log)

-- so it is still when lines are told
told_cluster : (log : Log) (lines : ℕ → List Command) (s : Stream) → IsOfCluster log s → IsOfCluster log (told_more lines s)
told_cluster log lines s h =
    cond_both s.live (record s { commands = s.commands ++ lines s.cluster }) s (IsOfCluster log) (λ _. h) (λ _. h)

all_told : (log : Log) (lines : ℕ → List Command) → Each (IsOfCluster log) (streams log) → Each (IsOfCluster log) (map (told_more lines) (streams log))
all_told log lines p = each_map (IsOfCluster log) (IsOfCluster log) (told_more lines) (told_cluster log lines) (streams log) p

-- so it is with each stream of a legal log
stream_clusters : (log : Log) → Legal log → Each (IsOfCluster log) (streams log)
stream_clusters [] l = (omega arith, tt)
stream_clusters (Apply time replies ∷ log) l =
    all_told log (new_lines (collections log) (collections (Apply time replies ∷ log))) (stream_clusters log l.0)
stream_clusters (Read session call peek time statement collection ∷ log) l =
    all_told log (λ cluster. new_lines (collections log) (collections (Read session call peek time statement collection ∷ log)) cluster
    ++ asking_lines (collections (Read session call peek time statement collection ∷ log)) (Peek peek collection time) collection cluster)
    (stream_clusters log l.0)
stream_clusters (Finish peek rows ∷ log) l =
    all_told log (ending_lines (collections log) (filter (is_peek peek) (pending log))) (stream_clusters log l.0)
stream_clusters (Cancel session call ∷ log) l =
    all_told log (ending_lines (collections log) (filter (is_of_call session call) (pending log))) (stream_clusters log l.0)
stream_clusters (Fed r i taken to ∷ log) l =
    each_map (IsOfCluster log) (IsOfCluster log) (fed r i (settled log))
    (λ s h. cond_both (is_stream r i s) (record s { commands = s.commands ++ allowances (settled log) s.commands }) s (IsOfCluster log) (λ _. h) (λ _. h))
    (streams log) (stream_clusters log l.0)
stream_clusters (Absorbed r i turn taken ready frontiers ∷ log) l =
    let new : Report = record { turn = turn; taken = taken; ready = ready } in
    each_map (IsOfCluster log) (IsOfCluster log) (reporting r i new)
    (λ s h. cond_both (s.live && is_stream r i s) (record s { report = newer_report new s.report }) s (IsOfCluster log) (λ _. h) (λ _. h))
    (streams log) (stream_clusters log l.0)
stream_clusters (Join r i cluster ∷ log) l = each_one (IsOfCluster log) (streams log) _ (stream_clusters log l.0) l.1.may.known
stream_clusters (Crash r ∷ log) l =
    each_map (IsOfCluster log) (IsOfCluster log) (crashed r)
    (λ s h. cond_both (bytes_eq s.replica r) (record s { live = false }) s (IsOfCluster log) (λ _. h) (λ _. h))
    (streams log) (stream_clusters log l.0)
stream_clusters (Cluster name ∷ log) l =
    each_of (IsOfCluster log) (IsOfCluster (Cluster name ∷ log)) (λ s h. omega (arith, h, length-append (clusters log) (name ∷ [])))
    (streams log) (stream_clusters log l.0)
stream_clusters (entry ∷ log) l = stream_clusters log l.0

-- ---- losing and joining

-- a replica is lost
pub crash_good : (log : Log) (replica : List ℕ) → Good log → Good (after (crash_given log replica).entries log)
crash_good log replica good =
    given_either log (is_some (live_stream log replica)) _ _
    (λ e. let own = is_value (live_stream log replica) e in event_good log (Crash replica) good (record { own = own.0; live = own.1 }))
    (λ e. good)

-- one joins that may
join_good : (log : Log) (replica : List ℕ) (cluster : ℕ) → Good log → MayJoin log replica (incarnations log replica + 1) cluster
    → Good (after (join_given log replica cluster).entries log)
join_good log replica cluster good may = event_good log (Join replica (incarnations log replica + 1) cluster) good may

-- the cluster of a stream that is found
cluster_known : (log : Log) → Legal log → (test : Stream → Bool) (cluster : ℕ) → (o : Option Stream) → find test (streams log) ≡ o
    → option_map_or (λ s. Some s.cluster) o None ≡ Some cluster → cluster < length (clusters log)
cluster_known log l test cluster None is e = absurd (cc)
cluster_known log l test cluster (Some s) is e =
    let same : s.cluster ≡ cluster = cc in
    subst (λ n. n < length (clusters log)) same (each_has (IsOfCluster log) s (streams log) (stream_clusters log l) (found test (streams log) s is).1)

-- one that was lost joins again
rejoin_by : (log : Log) (replica : List ℕ) → Good log → (cluster : Option ℕ) → replica_cluster log replica ≡ cluster
    → Good (after (rejoin_given log replica cluster).entries log)
rejoin_by log replica good None is = good
rejoin_by log replica good (Some cluster) is =
    given_either log (is_some (live_stream log replica)) _ _
    (λ e. good)
    (λ e. join_good log replica cluster good (record {
      none_live = is_none_else (live_stream log replica) e;
      next_incarnation = refl;
      known = cluster_known log good.legal (λ s. bytes_eq s.replica replica) cluster (find (λ s. bytes_eq s.replica replica) (streams log)) refl is;
      own_cluster = subst (λ o. IfSome o (λ own. cluster ≡ own)) (sym is) refl;
    }))

pub rejoin_good : (log : Log) (replica : List ℕ) → Good log → Good (after (rejoin_given log replica (replica_cluster log replica)).entries log)
rejoin_good log replica good = rejoin_by log replica good (replica_cluster log replica) refl

-- a replica without a stream has no live one
none_lives : (replica : List ℕ) (ss : List Stream) → option_map_or (λ s. Some s.cluster) (find (λ s. bytes_eq s.replica replica) ss) None ≡ None
    → find (is_live_of replica) ss ≡ None
none_lives replica [] e = refl
none_lives replica (s ∷ ss) e = by (bytes_eq s.replica replica) s.live (none_lives replica ss) e
  where
    by : (own live : Bool)
        → (option_map_or (λ x. Some x.cluster) (find (λ x. bytes_eq x.replica replica) ss) None ≡ None → find (is_live_of replica) ss ≡ None)
        → option_map_or (λ x. Some x.cluster) (cond own (Some s) (find (λ x. bytes_eq x.replica replica) ss)) None ≡ None
        → cond (live && own) (Some s) (find (is_live_of replica) ss) ≡ None
    by true live later h = absurd (cc)
    by false true later h = later h
    by false false later h = later h

-- a replica is added to a cluster that there is
pub add_good : (log : Log) (replica : List ℕ) (cluster : Option ℕ) → Good log → IfSome cluster (λ own. own < length (clusters log))
    → Good (after (add_given log replica cluster).entries log)
add_good log replica None good known = good
add_good log replica (Some cluster) good known =
    given_either log (is_some (replica_cluster log replica)) _ _ (λ e. good)
    (λ e. let none = is_none_else (replica_cluster log replica) e in
    given_either log (nat_le most_replicas (replicas_added log)) _ _ (λ f. good)
    (λ f. join_good log replica cluster good (record {
      none_live = none_lives replica (streams log) none;
      next_incarnation = refl;
      known = known;
      own_cluster = subst (λ o. IfSome o (λ own. cluster ≡ own)) (sym none) tt;
    })))

-- a cluster is added
pub add_cluster_good : (log : Log) (name : List ℕ) → Good log → Good (after (add_cluster_given log name).entries log)
add_cluster_good log name good =
    given_either log (list_any (bytes_eq name) (clusters log)) _ _ (λ e. good)
    (λ new. given_either log (nat_le most_clusters (length (clusters log))) _ _ (λ f. good)
    (λ few. event_good log (Cluster name) good (record { new_name = new; room = leb-false most_clusters (length (clusters log)) few })))

-- ---- packets

-- a packet that may be absorbed is
pub absorb_good : (log : Log) (replica : List ℕ) (incarnation turn taken ready : ℕ) (frontiers : List (ℕ × ℕ)) → Good log
    → MayAbsorb log replica incarnation taken ready frontiers
    → Good (after (absorb_given log replica incarnation turn taken ready frontiers).entries log)
absorb_good log replica incarnation turn taken ready frontiers good may =
    event_good log (Absorbed replica incarnation turn taken ready frontiers) good may
