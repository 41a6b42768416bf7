-- What each line of a script does, and what it is answered with.
use Rattle.std.specs.Prelude.{ℕ, ◌+◌, List, [], ◌∷◌, None, Some, Result, Ok, Err, Option, find, flat_map, length, slice_get, ◌-◌, ◌==◌, if◌then◌else◌}
use Rattle.std.specs.Ordering.{nat_cmp, is_le}
use Rattle.std.specs.Cmp.Lexicographic.{slice_cmp}
use Rattle.mz_books.specs.Entries.{after}
use Rattle.mz_books.specs.Rounds.{queued}
use Rattle.mz_books.specs.Holds.{is_peek, pending}
use Rattle.mz_books.specs.Streams.{replica_cluster}
use Rattle.mz_books.specs.Given.{Given}
use Rattle.mz_books.specs.GivenReplicas.{FeedRefusal, add_cluster_given, add_given, crash_given, rejoin_given}
use Rattle.mz_script.specs.EventTexts.{unreadable_text}
use Rattle.mz_script.specs.declared.script_line.ScriptLine.{ScriptLine}
use Rattle.mz_script.specs.declared.script_line.ScriptLine.TheVariants.{Skipped, Unreadable, Says, Tick, BeginRound, FinishRound, CommitRound, Settle, AddReplica, CrashReplica, RejoinReplica, AddCluster, MakeFeed, TakeFeed, AbsorbPacket, TakeHold, MoveHold, GiveBack, CancelCall, CloseSession}
use Rattle.mz_script.specs.ScriptLine.{Machine, LiveReplica, NumberedFeed, Said, and_then, only_says, says}
use Rattle.mz_script.specs.Script.{begins, cancels, closes, commits, finishes, finishes_if_open, free_hold, gives_back, moves_hold, session_place, session_says, takes_hold}
use Rattle.mz_script.specs.Machine.{absorbs, absorbs_packet, added, answer_text, answers_to, cluster_number, crashed, feed_at, joins, makes_feed, moved_on, own_feed, replica_called, takes_feed}

-- ---- settle

-- the names with one more, which stands before those that are greater by their bytes
abbrev pub put_name : List ℕ → List (List ℕ) → List (List ℕ)
put_name name [] = name ∷ []
put_name name (other ∷ others) =
    if is_le (slice_cmp nat_cmp name other) then name ∷ other ∷ others else other ∷ put_name name others

-- the names of replicas, sorted
abbrev pub sorted_names : List LiveReplica → List (List ℕ)
sorted_names [] = []
sorted_names (replica ∷ replicas) = put_name replica.name (sorted_names replicas)

-- a replica takes a feed, and its packet is absorbed. Only the finished peeks are told
abbrev pub turned : Machine → NumberedFeed → Said
turned machine feed =
    says (moved_on feed machine) (absorbs feed.front feed)
    (flat_map (λ peek. answer_text feed.front [] (find (is_peek peek) (pending feed.front))) (answers_to feed))

-- a replica is fed, if a feed is made for it
abbrev pub fed_and_turned : Machine → LiveReplica → Given ℕ FeedRefusal → Result ℕ FeedRefusal → Said
fed_and_turned machine replica given (Ok to) = turned machine (feed_at replica (after given.entries machine.log))
fed_and_turned machine replica given (Err refusal) = only_says machine []

-- the replica of a name makes a turn
abbrev pub turns_one : Machine → Option LiveReplica → Said
turns_one machine None = only_says machine []
turns_one machine (Some replica) =
    fed_and_turned machine replica (own_feed machine replica None) (own_feed machine replica None).answer

-- the replicas of these names make a turn each, one after another
abbrev pub turns : List (List ℕ) → Machine → Said
turns [] machine = only_says machine []
turns (name ∷ names) machine = and_then (turns_one machine (replica_called machine name)) (turns names)

-- all live replicas make a turn each, in order of their names
abbrev pub turns_all : Machine → Said
turns_all machine = turns (sorted_names machine.replicas) machine

-- a round is begun and applied, where a command waits
abbrev pub commits_if_queued : Machine → Said
commits_if_queued machine = if length (queued machine.log) == 0 then only_says machine [] else commits machine

-- the open round is applied, a round is made where a command waits, and all live replicas make two turns
abbrev pub settles : Machine → Said
settles machine = and_then (and_then (and_then (finishes_if_open machine) commits_if_queued) turns_all) turns_all

-- ---- lines

-- the member of a number, counted from 1
abbrev pub nth : {A : Type 0} → List A → ℕ → Option A
nth xs number = if number == 0 then None else slice_get xs (number - 1)

-- what a line of this number does
abbrev pub does : Machine → ℕ → ScriptLine → Said
does machine line Skipped = only_says machine []
does machine line Unreadable = only_says machine (unreadable_text line)
does machine line (Says name text asked) = session_says machine name text asked (session_place machine.log name)
does machine line (Tick moment) = only_says (record machine { moment = moment }) []
does machine line BeginRound = begins machine
does machine line FinishRound = finishes machine
does machine line CommitRound = commits machine
does machine line Settle = settles machine
does machine line (AddReplica replica cluster) =
    joins machine replica cluster (add_given machine.log replica (cluster_number machine.log cluster))
does machine line (CrashReplica replica) =
    crashed machine replica (crash_given machine.log replica) (crash_given machine.log replica).answer
does machine line (RejoinReplica replica) =
    joins machine replica [] (rejoin_given machine.log replica (replica_cluster machine.log replica))
does machine line (AddCluster cluster) =
    added machine cluster (add_cluster_given machine.log cluster) (add_cluster_given machine.log cluster).answer
does machine line (MakeFeed replica upto) = makes_feed machine replica upto (replica_called machine replica)
does machine line (TakeFeed feed) = takes_feed machine feed (nth machine.feeds feed)
does machine line (AbsorbPacket packet) = absorbs_packet machine packet (nth machine.packets packet)
does machine line (TakeHold name time) = takes_hold machine name time
does machine line (MoveHold hold time) = moves_hold machine hold time (free_hold machine.log hold)
does machine line (GiveBack hold) = gives_back machine hold (free_hold machine.log hold)
does machine line (CancelCall name) = cancels machine name (session_place machine.log name)
does machine line (CloseSession name) = closes machine name (session_place machine.log name)

-- the machine with one line more
abbrev pub one_more : Machine → Machine
one_more machine = record machine { lines = machine.lines + 1 }

-- what the next line does. Lines are counted from 1
abbrev pub after_line : Machine → ScriptLine → Said
after_line machine line = does (one_more machine) (machine.lines + 1) line

-- what lines do, one after another
abbrev pub after_lines : List ScriptLine → Machine → Said
after_lines [] machine = only_says machine []
after_lines (line ∷ lines) machine = and_then (after_line machine line) (after_lines lines)
