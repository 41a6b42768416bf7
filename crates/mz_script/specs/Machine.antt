-- The machine of a script: what its lines do on replicas, feeds and packets, and what each line does.
use Rattle.std.specs.Prelude.{ℕ, ◌+◌, ◌==◌, ◌&&◌, List, [], ◌∷◌, ◌++◌, Bool, Option, None, Some, Result, Ok, Err, bytes_eq, codes, decimal, drop, filter, find, flat_map, length, map, nat_le, not, position, slice_get, if◌then◌else◌, ⊤}
use Rattle.std.specs.Option.{option_map_or}
use Rattle.mz_plan.specs.declared.command.Command.{Command}
use Rattle.mz_plan.specs.declared.command.PendingPeek.{PendingPeek}
use Rattle.mz_plan.specs.declared.command.Place.{Place}
use Rattle.mz_refusal.specs.declared.refusal.Limited.TheVariants.{Feeds}
use Rattle.mz_refusal.specs.declared.refusal.Refusal.TheVariants.{TooMany}
use Rattle.mz_log.specs.Log.{Log}
use Rattle.mz_books.specs.Entries.{after}
use Rattle.mz_books.specs.Clusters.{clusters}
use Rattle.mz_books.specs.Holds.{is_peek, pending}
use Rattle.mz_books.specs.Sessions.{session_name}
use Rattle.mz_books.specs.Streams.{live_stream, stream_of}
use Rattle.mz_books.specs.Feeds.{feeds, packet_answers, packet_frontiers}
use Rattle.mz_books.specs.Owed.{peek_rows}
use Rattle.mz_books.specs.Given.{Given}
use Rattle.mz_books.specs.GivenReplicas.{FeedRefusal, AfterRead, ReplicaRefusal, NoReplica, IsLive, IsNotLive, IsTaken, NoCluster, TooManyOf, absorb_given, feed_given}
use Rattle.mz_script.specs.Texts.{line_end, refused_words}
use Rattle.mz_script.specs.EventTexts.{absorbed_text, feed_text, finished_text, line_of, none_of, not_pending_text, of_name, packet_text, stale_text}
use Rattle.mz_script.specs.ScriptLine.{Machine, LiveReplica, NumberedFeed, Said, fresh_place, only_says, says, with_log}

-- ---- joining and crashing

-- the limit of what there may be only so many of, as it is written
abbrev pub limit_words : List ℕ → ℕ → List ℕ
limit_words what limit = codes "refused 17: " ++ (what ++ (codes " " ++ decimal limit))

-- why a replica doesn't join, or isn't lost, or a cluster isn't added
abbrev pub replica_refusal : List ℕ → List ℕ → List ℕ → ReplicaRefusal → List ℕ
replica_refusal what name cluster NoReplica = none_of (codes "replica") name
replica_refusal what name cluster IsLive = of_name name (codes "is live")
replica_refusal what name cluster IsNotLive = of_name name (codes "is not live")
replica_refusal what name cluster IsTaken = of_name name (codes "is taken")
replica_refusal what name cluster NoCluster = none_of (codes "cluster") cluster
replica_refusal what name cluster (TooManyOf limit) = line_of (limit_words what limit)

-- the machine with a replica that has just joined
abbrev pub with_replica : Machine → List ℕ → ℕ → Machine
with_replica machine name incarnation = record machine {
  replicas = machine.replicas ++ record { name = name; place = fresh_place incarnation; front = machine.log } ∷ [];
}

-- a replica joined, or why it didn't
abbrev pub joined : Machine → List ℕ → List ℕ → Given ℕ ReplicaRefusal → Result ℕ ReplicaRefusal → Said
joined machine name cluster given (Ok incarnation) =
    only_says (with_replica (with_log machine (after given.entries machine.log)) name incarnation)
    (of_name name (codes "joined as " ++ decimal incarnation))
joined machine name cluster given (Err refusal) = only_says machine (replica_refusal (codes "replicas") name cluster refusal)

-- the number of a cluster
abbrev pub cluster_number : Log → List ℕ → Option ℕ
cluster_number log cluster = position (bytes_eq cluster) (clusters log)

-- a replica is added, or joins again, as it is given
abbrev pub joins : Machine → List ℕ → List ℕ → Given ℕ ReplicaRefusal → Said
joins machine name cluster given = joined machine name cluster given given.answer

-- the machine without a replica
abbrev pub without_replica : Machine → List ℕ → Machine
without_replica machine name =
    record machine { replicas = filter (λ replica. not (bytes_eq replica.name name)) machine.replicas }

-- a replica was lost, or why it wasn't
abbrev pub crashed : Machine → List ℕ → Given ⊤ ReplicaRefusal → Result ⊤ ReplicaRefusal → Said
crashed machine name given (Ok done) =
    only_says (without_replica (with_log machine (after given.entries machine.log)) name) (of_name name (codes "crashed"))
crashed machine name given (Err refusal) = only_says machine (replica_refusal (codes "replicas") name [] refusal)

-- a cluster was added, or why it wasn't
abbrev pub added : Machine → List ℕ → Given ℕ ReplicaRefusal → Result ℕ ReplicaRefusal → Said
added machine name given (Ok number) =
    says machine (after given.entries machine.log)
    (codes "cluster " ++ (decimal number ++ (codes ": " ++ (name ++ line_end))))
added machine name given (Err refusal) = only_says machine (replica_refusal (codes "clusters") name name refusal)

-- ---- feeds

-- the lines of a feed: those of its replica's stream that its place hadn't taken
abbrev pub feed_lines : NumberedFeed → List Command
feed_lines feed = drop feed.place.taken (stream_of feed.front feed.replica feed.place.incarnation)

-- the last time that a feed has the changes of
abbrev pub last_of : NumberedFeed → ℕ
last_of feed = option_map_or (λ made. made.to) (slice_get (feeds feed.front) 0) 0

-- how many feeds may be numbered
abbrev pub most_feeds : ℕ
most_feeds = 4096

-- the live replica of a name
abbrev pub replica_called : Machine → List ℕ → Option LiveReplica
replica_called machine name = find (λ replica. bytes_eq replica.name name) machine.replicas

-- the feed that a log ends with, for a replica at its place
abbrev pub feed_at : LiveReplica → Log → NumberedFeed
feed_at replica front = record { replica = replica.name; place = replica.place; front = front }

-- a feed gets the next number
abbrev pub numbered : Machine → NumberedFeed → Said
numbered machine feed = record {
  machine = record machine { log = feed.front; feeds = machine.feeds ++ feed ∷ [] };
  text = feed_text (length machine.feeds + 1) feed.replica feed.place (feed_lines feed) (last_of feed);
}

-- a feed was made for a replica, or why it wasn't. That there is room for its number is asked last
abbrev pub fed : Machine → LiveReplica → Given ℕ FeedRefusal → Result ℕ FeedRefusal → Said
fed machine replica given (Ok to) =
    if nat_le most_feeds (length machine.feeds) then only_says machine (line_of (refused_words (TooMany Feeds most_feeds)))
    else numbered machine (feed_at replica (after given.entries machine.log))
fed machine replica given (Err (AfterRead asked read)) =
    only_says machine (codes "asked " ++ (decimal asked ++ (codes ", read " ++ (decimal read ++ line_end))))
fed machine replica given (Err refusal) = only_says machine (of_name replica.name (codes "is not live"))

-- what a log gives a feed for a replica at its own place
abbrev pub own_feed : Machine → LiveReplica → Option ℕ → Given ℕ FeedRefusal
own_feed machine replica upto = feed_given machine.log (live_stream machine.log replica.name) replica.place upto

-- a feed is made
abbrev pub makes_feed : Machine → List ℕ → Option ℕ → Option LiveReplica → Said
makes_feed machine name upto None = only_says machine (of_name name (codes "is not live"))
makes_feed machine name upto (Some replica) =
    fed machine replica (own_feed machine replica upto) (own_feed machine replica upto).answer

-- ---- packets

-- how many lines the replica of a packet has taken, and for which time it is ready
abbrev pub taken_of : NumberedFeed → ℕ
taken_of feed = length (stream_of feed.front feed.replica feed.place.incarnation)

-- the place of a replica once it took a feed
abbrev pub next_place : NumberedFeed → Place
next_place feed = record {
  incarnation = feed.place.incarnation;
  turn = feed.place.turn + 1;
  taken = taken_of feed;
  ready = last_of feed + 1;
}

-- the peeks that a packet answers
abbrev pub answers_to : NumberedFeed → List ℕ
answers_to packet = packet_answers (stream_of packet.front packet.replica packet.place.incarnation) (last_of packet + 1)

-- a live replica once it took a feed, if that is for it
abbrev pub moved_replica : NumberedFeed → LiveReplica → LiveReplica
moved_replica feed replica =
    if bytes_eq replica.name feed.replica then record replica { place = next_place feed; front = feed.front } else replica

-- the machine once the replica of a feed took it
abbrev pub moved_on : NumberedFeed → Machine → Machine
moved_on feed machine = record machine { replicas = map (moved_replica feed) machine.replicas }

-- two places are one
abbrev pub same_place : Place → Place → Bool
same_place one other =
    ((one.incarnation == other.incarnation) && (one.turn == other.turn)) && ((one.taken == other.taken) && (one.ready == other.ready))

-- a replica takes a feed, if it is for the place where it stands: a packet gets the next number
abbrev pub takes : Machine → ℕ → NumberedFeed → Option LiveReplica → Said
takes machine number feed None = only_says machine (of_name feed.replica (codes "is not live"))
takes machine number feed (Some replica) =
    if same_place replica.place feed.place
    then only_says (moved_on feed (record machine { packets = machine.packets ++ feed ∷ [] }))
    (packet_text (length machine.packets + 1) feed.replica feed.place.incarnation feed.place.turn (last_of feed + 1)
    (length (answers_to feed)))
    else only_says machine (stale_text number feed.replica replica.place feed.place)

-- the feed of a number is taken
abbrev pub takes_feed : Machine → ℕ → Option NumberedFeed → Said
takes_feed machine number None = only_says machine (none_of (codes "feed") (decimal number))
takes_feed machine number (Some feed) = takes machine number feed (replica_called machine feed.replica)

-- what a log gives a packet
abbrev pub absorbs : Log → NumberedFeed → Log
absorbs log packet =
    after (absorb_given log packet.replica packet.place.incarnation packet.place.turn (taken_of packet) (last_of packet + 1)
    (packet_frontiers (stream_of packet.front packet.replica packet.place.incarnation) (last_of packet + 1))).entries log

-- what is said of the answer to a peek: its rows, where it is pending
abbrev pub answer_text : Log → List ℕ → Option PendingPeek → List ℕ
answer_text log otherwise None = otherwise
answer_text log otherwise (Some peek) =
    finished_text (session_name log peek.session) peek.call peek.time (peek_rows log peek)

-- the packet of a number is absorbed
abbrev pub absorbs_packet : Machine → ℕ → Option NumberedFeed → Said
absorbs_packet machine number None = only_says machine (none_of (codes "packet") (decimal number))
absorbs_packet machine number (Some packet) =
    says machine (absorbs machine.log packet)
    (absorbed_text number
    ++ flat_map (λ peek. answer_text machine.log (not_pending_text peek) (find (is_peek peek) (pending machine.log)))
    (answers_to packet))
