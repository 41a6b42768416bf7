-- What a log gives the calls on holds, replicas, feeds and packets.
use Rattle.std.specs.Prelude.{ℕ, ◌+◌, ◌==◌, List, ◌||◌, Bool, not, Option, None, Some, Ok, bytes_eq, filter, find, is_some, length, map, nat_le, nat_lt, unwrap_or, if◌then◌else◌, ⊤}
use Rattle.std.specs.List.{list_any}
use Rattle.std.specs.Option.{option_map_or}
use Rattle.mz_plan.specs.declared.command.Place.{Place}
use Rattle.mz_refusal.specs.declared.refusal.Refusal.{Refusal}
use Rattle.mz_refusal.specs.declared.refusal.Refusal.TheVariants as refusal
use Rattle.mz_resolution.specs.Steps.{◌>>=◌}
use Rattle.mz_rules.specs.declared.capability.Collection.{Collection}
use Rattle.mz_rules.specs.declared.capability.Hold.{Hold}
use Rattle.mz_log.specs.declared.entry.Entry.TheVariants.{Acquire, Down, Release, Fed, Absorbed, Join, Crash, Cluster}
use Rattle.mz_log.specs.declared.stream.Stream.{Stream}
use Rattle.mz_log.specs.Log.{Log}
use Rattle.mz_books.specs.Clusters.{clusters}
use Rattle.mz_books.specs.Rounds.{read_time}
use Rattle.mz_books.specs.States.{items}
use Rattle.mz_books.specs.Collections.{collections, is_called}
use Rattle.mz_books.specs.Holds.{holds_taken, is_peek, pending}
use Rattle.mz_books.specs.Since.{settled, since}
use Rattle.mz_books.specs.Streams.{fed, incarnations, live_stream, replica_cluster, streams}
use Rattle.mz_books.specs.Feeds.{feed_to}
use Rattle.mz_books.specs.Owed.{answers_of}
use Rattle.mz_books.specs.Answer.{held_item, not_before, refused_if}
use Rattle.mz_books.specs.Legal.{most_clusters}
use Rattle.mz_books.specs.Given.{Given, gives, gives_or_refuses, refuses}

-- ---- holds

-- the number of the collection in the catalog that has this name, 0 where there is none
abbrev pub collection_called : List ℕ → List Collection → ℕ
collection_called name cs = option_map_or (λ c. c.number) (find (is_called name) cs) 0

-- a hold is taken on the table or index of a name, at a time: its number
abbrev pub acquire_given : Log → List ℕ → ℕ → Given ℕ Refusal
acquire_given log name time = gives_or_refuses log (do
  _ ← held_item (items log) name
  _ ← refused_if (nat_lt (read_time log) time) (refusal.AfterRead time (read_time log))
  _ ← not_before time (since log (collection_called name (collections log)))
  Ok (Acquire (holds_taken log + 1) (collection_called name (collections log)) time, holds_taken log + 1))

-- a live hold is moved to a time
abbrev pub downgrade_given : Log → Hold → ℕ → Given ⊤ Refusal
downgrade_given log hold time = gives_or_refuses log (do
  _ ← refused_if (nat_lt time hold.time) (refusal.BelowHold hold.time time)
  _ ← refused_if (nat_lt (read_time log) time) (refusal.AfterRead time (read_time log))
  Ok (Down hold.number time, tt))

-- a live hold is given back
abbrev pub release_given : Log → ℕ → Given ⊤ ⊤
release_given log hold = gives log (Release hold) tt

-- ---- feeds

-- why no feed is made
pub data FeedRefusal : Type 0 where
  NotLive : FeedRefusal
  OldIncarnation : (live asked : ℕ) → FeedRefusal
  Behind : (kept asked : ℕ) → FeedRefusal
  Ahead : (length read : ℕ) (asked : Place) → FeedRefusal
  AfterRead : (asked read : ℕ) → FeedRefusal

-- the first cause, or no refusal
abbrev pub or_first : {A : Type 0} → Bool → FeedRefusal → Given A FeedRefusal → Given A FeedRefusal
or_first cause refusal given = if cause then refuses refusal else given

-- how many lines the report that counts says were taken
abbrev pub kept_taken : Stream → ℕ
kept_taken s = option_map_or (λ report. report.taken) s.report 0

-- a feed for a place of a live incarnation, up to the sinces and a time that is asked for: the last time that it has
abbrev pub fed_to : Log → Stream → Place → ℕ → Given ℕ FeedRefusal
fed_to log s place asked =
    gives log (Fed s.replica s.incarnation (length (fed s.replica s.incarnation (settled log) s).commands)
    (feed_to asked place.ready (settled log))) (feed_to asked place.ready (settled log))

-- the same, or why it is refused, in this order: the place is one of another incarnation, it has taken fewer lines than the replica has
-- reported, it has taken more than there are or has later contents than the newest, or the time asked for is after the read time
abbrev pub feed_for : Log → Stream → Place → ℕ → Given ℕ FeedRefusal
feed_for log s place asked =
    or_first (not (place.incarnation == s.incarnation)) (OldIncarnation s.incarnation place.incarnation)
    (or_first (nat_lt place.taken (kept_taken s)) (Behind (kept_taken s) place.taken)
    (or_first (not (nat_le place.taken (length s.commands)) || not (nat_le place.ready (read_time log + 1)))
    (Ahead (length s.commands) (read_time log) place)
    (or_first (nat_lt (read_time log) asked) (AfterRead asked (read_time log))
    (fed_to log s place asked))))

-- a feed is made for a replica that stands at a place, up to a time, or else up to the read time
abbrev pub feed_given : Log → Option Stream → Place → Option ℕ → Given ℕ FeedRefusal
feed_given log None place upto = refuses NotLive
feed_given log (Some s) place upto = feed_for log s place (unwrap_or upto (read_time log))

-- ---- packets

-- what became of an answer: its peek has its rows, or was pending no more
pub data Absorption : Type 0 where
  Finished : (peek : ℕ) → Absorption
  NotPending : (peek : ℕ) → Absorption

-- what becomes of an answer to the peek of this number
abbrev pub absorption : Log → ℕ → Absorption
absorption log peek = if list_any (is_peek peek) (pending log) then Finished peek else NotPending peek

-- a packet is absorbed: what became of each of its answers, in order
abbrev pub absorb_given : Log → List ℕ → ℕ → ℕ → ℕ → ℕ → List (ℕ × ℕ) → Given (List Absorption) ⊤
absorb_given log replica incarnation turn taken ready frontiers =
    gives log (Absorbed replica incarnation turn taken ready frontiers)
    (map (absorption log) (answers_of log replica incarnation taken ready))

-- ---- replicas

-- why a replica doesn't join, or isn't lost
pub data ReplicaRefusal : Type 0 where
  NoReplica : ReplicaRefusal
  IsLive : ReplicaRefusal
  IsNotLive : ReplicaRefusal
  IsTaken : ReplicaRefusal
  NoCluster : ReplicaRefusal
  TooManyOf : (limit : ℕ) → ReplicaRefusal

-- how many replicas may be added, the one of the opening counted
abbrev pub most_replicas : ℕ
most_replicas = 8

-- how many replicas were added
abbrev pub replicas_added : Log → ℕ
replicas_added log = length (filter (λ s. s.incarnation == 1) (streams log))

-- a live replica is lost
abbrev pub crash_given : Log → List ℕ → Given ⊤ ReplicaRefusal
crash_given log replica = if is_some (live_stream log replica) then gives log (Crash replica) tt else refuses IsNotLive

-- a replica joins as its next incarnation: that number
abbrev pub join_given : Log → List ℕ → ℕ → Given ℕ ReplicaRefusal
join_given log replica cluster =
    gives log (Join replica (incarnations log replica + 1) cluster) (incarnations log replica + 1)

-- a replica that was lost joins again
abbrev pub rejoin_given : Log → List ℕ → Option ℕ → Given ℕ ReplicaRefusal
rejoin_given log replica None = refuses NoReplica
rejoin_given log replica (Some cluster) =
    if is_some (live_stream log replica) then refuses IsLive else join_given log replica cluster

-- a replica is added to a cluster, which has this number where there is one
abbrev pub add_given : Log → List ℕ → Option ℕ → Given ℕ ReplicaRefusal
add_given log replica None = refuses NoCluster
add_given log replica (Some cluster) =
    if is_some (replica_cluster log replica) then refuses IsTaken
    else if nat_le most_replicas (replicas_added log) then refuses (TooManyOf most_replicas)
    else join_given log replica cluster

-- a cluster is added: its number
abbrev pub add_cluster_given : Log → List ℕ → Given ℕ ReplicaRefusal
add_cluster_given log name =
    if list_any (bytes_eq name) (clusters log) then refuses IsTaken
    else if nat_le most_clusters (length (clusters log)) then refuses (TooManyOf most_clusters)
    else gives log (Cluster name) (length (clusters log))
