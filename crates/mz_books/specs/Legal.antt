-- Legal logs: each entry may follow those before it, in its turn. When an entry may follow a log is one record an entry.
use Rattle.std.specs.Prelude.{◌≡◌, ℕ, ◌+◌, ◌==◌, ◌&&◌, ◌<◌, ◌≤◌, ◌⊎◌, List, [], ◌∷◌, find, length, take, bytes_eq, true, false, None, Some, Ok, Contains, IfSome, ⊤}
use Rattle.std.specs.List.{AllByRecursion as Each, list_any}
use Rattle.mz_time.specs.Frontier.{Le}
use Rattle.mz_time.specs.declared.frontier.Frontier.TheVariants.{At}
use Rattle.mz_bag.specs.Weighted.{Weighted}
use Rattle.mz_statement.specs.declared.statement.Statement.{Statement}
use Rattle.mz_grammar.specs.Asked.{IsAsked}
use Rattle.mz_grammar.specs.declared.asked.Asked.{Asked}
use Rattle.mz_print.specs.Print.{print_of}
use Rattle.mz_plan.specs.declared.command.Place.{Place}
use Rattle.mz_refusal.specs.declared.refusal.Refusal.{Refusal}
use Rattle.mz_refusal.specs.declared.refusal.Refusal.TheVariants.{TimeSpent}
use Rattle.mz_log.specs.declared.entry.Entry.{Entry}
use Rattle.mz_log.specs.declared.entry.Entry.TheVariants.{Opened, Queue, Begin, Apply, Read, Finish, Refused, Instant, Cancel, Close, Acquire, Down, Release, Fed, Absorbed, Join, Crash, Cluster}
use Rattle.mz_log.specs.declared.entry.Replied.{Replied}
use Rattle.mz_log.specs.declared.stream.Stream.{Stream}
use Rattle.mz_log.specs.Log.{Log}
use Rattle.mz_books.specs.Clusters.{cluster_of, clusters}
use Rattle.mz_books.specs.Rounds.{Round, greatest_round_time, is_in_round, last_time, open_round, queued, read_time, rounds}
use Rattle.mz_books.specs.States.{newest_state, replies_to}
use Rattle.mz_books.specs.Collections.{collections, is_in_catalog}
use Rattle.mz_books.specs.Holds.{holds, holds_taken, is_peek, pending}
use Rattle.mz_books.specs.Since.{settled, since}
use Rattle.mz_books.specs.Sessions.{IsOpened, is_closed, outstanding, sessions}
use Rattle.mz_books.specs.Streams.{fed, incarnations, is_stream, live_stream, replica_cluster, stream_of, streams}
use Rattle.mz_books.specs.Feeds.{feed_to, feeds, is_feed, packet_frontiers}
use Rattle.mz_books.specs.Owed.{IsInTurn, owed, peek_rows}
use Rattle.mz_books.specs.Answer.{answer}

-- ---- sessions

-- how many sessions may be opened
abbrev pub most_sessions : ℕ
most_sessions = 64

-- a session may be opened under a new name, as long as there are fewer than the most
pub record MayOpen (log : Log) (name : List ℕ) : Type 0 where
  pub new_name : list_any (bytes_eq name) (sessions log) ≡ false
  pub room : length (sessions log) < most_sessions

-- a call may be made by what a text asks for, in a session that was opened: its entry is what the session is answered
pub record MayCall (log : Log) (session : ℕ) (entry : Entry) : Type 0 where
  pub opened : IsOpened log session
  pub text : List ℕ
  pub asked : Asked
  pub asks : IsAsked text asked
  pub answered : answer log session text asked ≡ Ok entry

-- a command that waits may be refused where no round is open, because no time is left behind the last one
pub record MaySpend (log : Log) (session call : ℕ) (text : List ℕ) (refusal : Refusal) : Type 0 where
  pub statement : Statement
  pub waits : Contains (queued log) (record { session = session; call = call; statement = statement })
  pub own_text : text ≡ print_of statement
  pub none_open : open_round log ≡ None
  pub spent : refusal ≡ TimeSpent (last_time log)

-- a call may be cancelled that has no reply and isn't in the open round
pub record MayCancel (log : Log) (session call : ℕ) : Type 0 where
  pub waits : outstanding log session ≡ Some call
  pub in_none : is_in_round session call (open_round log) ≡ false

-- a session may be closed that is open, and each of whose calls has its reply
pub record MayClose (log : Log) (session : ℕ) : Type 0 where
  pub opened : IsOpened log session
  pub unclosed : is_closed log session ≡ false
  pub none_waits : outstanding log session ≡ None

-- ---- rounds

-- a round may begin where none is open, with the next number and a time after the last one
pub record MayBegin (log : Log) (number time : ℕ) : Type 0 where
  pub none_open : open_round log ≡ None
  pub next_number : number ≡ rounds log + 1
  pub later : last_time log < time
  pub in_range : time ≤ greatest_round_time

-- the open round may be applied: at its own time, with its commands in order and the replies of the sequential object, which begins with
-- the state at the read time
pub record MayApply (log : Log) (time : ℕ) (replies : List Replied) : Type 0 where
  pub round : Round
  pub is_open : open_round log ≡ Some round
  pub own_time : time ≡ round.time
  pub own_replies : replies ≡ replies_to (cluster_of log) (newest_state log) round.commands

-- ---- peeks and holds

-- a peek may finish that is pending, with the rows that it waits for
pub record MayFinish (log : Log) (peek : ℕ) (rows : Weighted) : Type 0 where
  pub waits : list_any (is_peek peek) (pending log) ≡ true
  pub own_rows : Each (λ waiting. waiting.peek ≡ peek → rows ≡ peek_rows log waiting) (pending log)

-- the next hold may be taken on a table or index of the catalog, from its since up to the read time
pub record MayAcquire (log : Log) (hold collection time : ℕ) : Type 0 where
  pub next_hold : hold ≡ holds_taken log + 1
  pub present : list_any (λ c. (c.number == collection) && is_in_catalog c) (collections log) ≡ true
  pub at_since : Le (since log collection) (At time)
  pub readable : time ≤ read_time log

-- there is a live hold of this number
abbrev pub IsLive : Log → ℕ → Type 0
IsLive log hold = list_any (λ live. live.number == hold) (holds log) ≡ true

-- no BEGIN took the hold of this number
abbrev pub IsFree : Log → ℕ → Type 0
IsFree log hold = Each (λ live. live.number ≡ hold → live.owner ≡ None) (holds log)

-- a live hold that no BEGIN took may be moved on, up to the read time
pub record MayMove (log : Log) (hold time : ℕ) : Type 0 where
  pub live : IsLive log hold
  pub free : IsFree log hold
  pub forward : Each (λ live. live.number ≡ hold → live.time ≤ time) (holds log)
  pub readable : time ≤ read_time log

-- a live hold may be given back. One that a BEGIN took goes only where it is owed
pub record MayRelease (log : Log) (hold : ℕ) : Type 0 where
  pub live : IsLive log hold
  pub free : owed log ≡ [] → IsFree log hold

-- ---- replicas

-- a live replica may be fed all lines of its stream, up to a time that is readable, as from a standing of it that the log allows
pub record MayFeed (log : Log) (replica : List ℕ) (incarnation taken to : ℕ) : Type 0 where
  pub own : Stream
  pub is_own : find (is_stream replica incarnation) (streams log) ≡ Some own
  pub live : own.live ≡ true
  pub all_taken : taken ≡ length (fed replica incarnation (settled log) own).commands
  pub place : Place
  pub own_incarnation : place.incarnation ≡ incarnation
  pub taken_before : place.taken ≤ length own.commands
  pub ready_before : place.ready ≤ read_time log + 1
  pub asked : ℕ
  pub asked_readable : asked ≤ read_time log
  pub own_to : to ≡ feed_to asked place.ready (settled log)

-- a packet may be absorbed that comes from a replica which took a feed that was made
pub record MayAbsorb (log : Log) (replica : List ℕ) (incarnation taken ready : ℕ) (frontiers : List (ℕ × ℕ)) : Type 0 where
  pub of_feed : list_any (is_feed replica incarnation taken ready) (feeds log) ≡ true
  pub own_frontiers : frontiers ≡ packet_frontiers (take taken (stream_of log replica incarnation)) ready

-- a replica may join that isn't live, as its next incarnation, in its own cluster, or where it is new in any that there is
pub record MayJoin (log : Log) (replica : List ℕ) (incarnation cluster : ℕ) : Type 0 where
  pub none_live : live_stream log replica ≡ None
  pub next_incarnation : incarnation ≡ incarnations log replica + 1
  pub known : cluster < length (clusters log)
  pub own_cluster : IfSome (replica_cluster log replica) (λ own. cluster ≡ own)

-- a replica may be lost that is live
pub record MayCrash (log : Log) (replica : List ℕ) : Type 0 where
  pub own : Stream
  pub live : live_stream log replica ≡ Some own

-- how many clusters there may be
abbrev pub most_clusters : ℕ
most_clusters = 8

-- a cluster may be added under a new name, as long as there are fewer than the most
pub record MayAdd (log : Log) (name : List ℕ) : Type 0 where
  pub new_name : list_any (bytes_eq name) (clusters log) ≡ false
  pub room : length (clusters log) < most_clusters

-- ---- legal logs

-- the entry may follow the log
abbrev pub MayFollow : Log → Entry → Type 0
MayFollow log (Opened name) = MayOpen log name
MayFollow log (Queue session call statement) = MayCall log session (Queue session call statement)
MayFollow log (Begin number time) = MayBegin log number time
MayFollow log (Apply time replies) = MayApply log time replies
MayFollow log (Read session call peek time statement collection) =
    MayCall log session (Read session call peek time statement collection)
MayFollow log (Finish peek rows) = MayFinish log peek rows
MayFollow log (Refused session call text refusal) =
    MayCall log session (Refused session call text refusal) ⊎ MaySpend log session call text refusal
MayFollow log (Instant session call statement time) = MayCall log session (Instant session call statement time)
MayFollow log (Cancel session call) = MayCancel log session call
MayFollow log (Close session) = MayClose log session
MayFollow log (Acquire hold collection time) = MayAcquire log hold collection time
MayFollow log (Down hold time) = MayMove log hold time
MayFollow log (Release hold) = MayRelease log hold
MayFollow log (Fed replica incarnation taken to) = MayFeed log replica incarnation taken to
MayFollow log (Absorbed replica incarnation turn taken ready frontiers) =
    MayAbsorb log replica incarnation taken ready frontiers
MayFollow log (Join replica incarnation cluster) = MayJoin log replica incarnation cluster
MayFollow log (Crash replica) = MayCrash log replica
MayFollow log (Cluster name) = MayAdd log name

-- the entry may follow the log, and is what is owed where anything is
pub record Follows (log : Log) (entry : Entry) : Type 0 where
  pub may : MayFollow log entry
  pub in_turn : IsInTurn (owed log) entry

-- each entry follows those before it
abbrev pub Legal : Log → Type 0
Legal [] = ⊤
Legal (entry ∷ log) = Legal log × Follows log entry
