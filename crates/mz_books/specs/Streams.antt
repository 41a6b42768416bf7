-- Streams: what each incarnation of each replica is told, in order, and the report that counts of it.
use Rattle.std.specs.Prelude.{ℕ, ◌==◌, ◌&&◌, List, [], ◌∷◌, ◌++◌, Bool, true, false, Option, None, Some, bytes_eq, codes, drop, filter, find, length, map, nat_le, nat_lt, if◌then◌else◌}
use Rattle.std.specs.List.{list_any}
use Rattle.std.specs.Option.{option_map_or}
use Rattle.mz_plan.specs.declared.command.Command.{Command}
use Rattle.mz_plan.specs.declared.command.Command.TheVariants.{Peek, Retire}
use Rattle.mz_plan.specs.declared.command.PendingPeek.{PendingPeek}
use Rattle.mz_rules.specs.Joining.{allowances, creations, is_made_in, joining}
use Rattle.mz_rules.specs.declared.capability.Collection.{Collection}
use Rattle.mz_rules.specs.declared.capability.Settled.{Settled}
use Rattle.mz_log.specs.declared.entry.Entry.TheVariants.{Apply, Read, Finish, Cancel, Fed, Absorbed, Join, Crash}
use Rattle.mz_log.specs.declared.stream.Report.{Report}
use Rattle.mz_log.specs.declared.stream.Stream.{Stream}
use Rattle.mz_log.specs.Log.{Log}
use Rattle.mz_books.specs.Collections.{collections}
use Rattle.mz_books.specs.Holds.{is_of_call, is_peek, pending}
use Rattle.mz_books.specs.Since.{settled}

-- ---- what an entry tells the replicas of a cluster

-- one of the collections has this number, and the replicas of the cluster make it
abbrev pub is_kept_in : ℕ → List Collection → ℕ → Bool
is_kept_in cluster cs number = list_any (λ c. (c.number == number) && is_made_in cluster c) cs

-- the item and the number of each collection, for plans to name collections where they named items
abbrev pub item_numbers : List Collection → List (ℕ × ℕ)
item_numbers cs = map (λ c. (c.item, c.number)) cs

-- a line for each collection that the second list has beyond the first
abbrev pub new_lines : List Collection → List Collection → ℕ → List Command
new_lines before after cluster = creations (item_numbers after) cluster (drop (length before) after)

-- the line that asks for a peek, in the cluster whose replicas make its collection
abbrev pub asking_lines : List Collection → Command → ℕ → ℕ → List Command
asking_lines cs line collection cluster = if is_kept_in cluster cs collection then line ∷ [] else []

-- a line that ends each of these peeks, in the cluster whose replicas make its collection
abbrev pub ending_lines : List Collection → List PendingPeek → ℕ → List Command
ending_lines cs ended cluster =
    map (λ peek. Retire peek.peek) (filter (λ peek. is_kept_in cluster cs peek.collection) ended)

-- ---- what becomes of a stream

-- the stream with the further lines of its cluster, if it is live
abbrev pub told_more : (ℕ → List Command) → Stream → Stream
told_more lines s = if s.live then record s { commands = s.commands ++ lines s.cluster } else s

-- the stream is that of this incarnation of the replica
abbrev pub is_stream : List ℕ → ℕ → Stream → Bool
is_stream replica incarnation s = bytes_eq s.replica replica && (s.incarnation == incarnation)

-- the stream with the allowances of a feed, if it is the one that is fed
abbrev pub fed : List ℕ → ℕ → List Settled → Stream → Stream
fed replica incarnation ss s =
    if is_stream replica incarnation s then record s { commands = s.commands ++ allowances ss s.commands } else s

-- a report goes on from another: it is of a later turn, and neither of fewer lines taken nor of an earlier time
abbrev pub goes_on_from : Report → Report → Bool
goes_on_from new old = nat_lt old.turn new.turn && nat_le old.taken new.taken && nat_le old.ready new.ready

-- the report that counts once a new one has come: the new one, unless there is one that it doesn't go on from
abbrev pub newer_report : Report → Option Report → Option Report
newer_report new None = Some new
newer_report new (Some old) = if goes_on_from new old then Some new else Some old

-- the stream with a report, if it is live and that of this incarnation
abbrev pub reporting : List ℕ → ℕ → Report → Stream → Stream
reporting replica incarnation new s =
    if s.live && is_stream replica incarnation s then record s { report = newer_report new s.report } else s

-- the stream once the replica was lost
abbrev pub crashed : List ℕ → Stream → Stream
crashed replica s = if bytes_eq s.replica replica then record s { live = false } else s

-- ---- all streams

-- the replica that there is at the opening
abbrev pub first_replica : List ℕ
first_replica = codes "r1"

-- the stream of a replica that joins, with its first lines
abbrev pub joining_stream : List ℕ → ℕ → ℕ → List Command → Stream
joining_stream replica incarnation cluster lines =
    record { replica = replica; incarnation = incarnation; cluster = cluster; live = true; commands = lines; report = None }

-- the streams of all incarnations in order of joining, those that were lost among them
abbrev pub streams : Log → List Stream
streams [] = joining_stream first_replica 1 0 [] ∷ []
streams (Apply time replies ∷ log) =
    map (told_more (new_lines (collections log) (collections (Apply time replies ∷ log)))) (streams log)
streams (Read session call peek time statement collection ∷ log) =
    map (told_more (λ cluster.
    new_lines (collections log) (collections (Read session call peek time statement collection ∷ log)) cluster
    ++ asking_lines (collections (Read session call peek time statement collection ∷ log))
    (Peek peek collection time) collection cluster)) (streams log)
streams (Finish peek rows ∷ log) =
    map (told_more (ending_lines (collections log) (filter (is_peek peek) (pending log)))) (streams log)
streams (Cancel session call ∷ log) =
    map (told_more (ending_lines (collections log) (filter (is_of_call session call) (pending log)))) (streams log)
streams (Fed replica incarnation taken to ∷ log) = map (fed replica incarnation (settled log)) (streams log)
streams (Absorbed replica incarnation turn taken ready frontiers ∷ log) =
    map (reporting replica incarnation (record { turn = turn; taken = taken; ready = ready })) (streams log)
streams (Join replica incarnation cluster ∷ log) =
    streams log ++ joining_stream replica incarnation cluster (joining cluster (settled log) (pending log)) ∷ []
streams (Crash replica ∷ log) = map (crashed replica) (streams log)
streams (entry ∷ log) = streams log

-- ---- what is read off them

-- the lines of a stream, none where there is no such stream
abbrev pub lines_in : Option Stream → List Command
lines_in None = []
lines_in (Some s) = s.commands

-- what an incarnation of a replica is told
abbrev pub stream_of : Log → List ℕ → ℕ → List Command
stream_of log replica incarnation = lines_in (find (is_stream replica incarnation) (streams log))

-- the stream is a live one of the replica
abbrev pub is_live_of : List ℕ → Stream → Bool
is_live_of replica s = s.live && bytes_eq s.replica replica

-- the live stream of the replica, where it has one
abbrev pub live_stream : Log → List ℕ → Option Stream
live_stream log replica = find (is_live_of replica) (streams log)

-- the streams of a replica
abbrev pub streams_of : Log → List ℕ → List Stream
streams_of log replica = filter (λ s. bytes_eq s.replica replica) (streams log)

-- how often a replica has joined
abbrev pub incarnations : Log → List ℕ → ℕ
incarnations log replica = length (streams_of log replica)

-- the cluster of a replica that has joined: that of its first joining, and so of each
abbrev pub replica_cluster : Log → List ℕ → Option ℕ
replica_cluster log replica = option_map_or (λ s. Some s.cluster) (find (λ s. bytes_eq s.replica replica) (streams log)) None
