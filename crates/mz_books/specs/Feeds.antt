-- Feeds that were made, how far a feed goes, and what the packet of a replica tells that has taken one.
use Rattle.std.specs.Prelude.{ℕ, ◌+◌, ◌-◌, ◌==◌, ◌&&◌, max, List, [], ◌∷◌, Bool, true, not, bytes_eq, nat_lt, if◌then◌else◌}
use Rattle.mz_time.specs.declared.frontier.Frontier.{Frontier}
use Rattle.mz_time.specs.declared.frontier.Frontier.TheVariants.{At}
use Rattle.mz_plan.specs.declared.command.Command.{Command}
use Rattle.mz_plan.specs.declared.command.Command.TheVariants.{Create, Peek}
use Rattle.mz_rules.specs.Joining.{is_table}
use Rattle.mz_rules.specs.Streams.{is_dropped, is_retired}
use Rattle.mz_rules.specs.declared.capability.Settled.{Settled}
use Rattle.mz_log.specs.declared.entry.Entry.TheVariants.{Fed}
use Rattle.mz_log.specs.Log.{Log}

-- ---- feeds

-- a feed that was made: whose, how many lines that replica has once it took it, and up to which time it has the changes of tables
pub record MadeFeed : Type 0 where
  pub replica : List ℕ
  pub incarnation : ℕ
  pub taken : ℕ
  pub to : ℕ

-- all feeds that were made, the newest first
abbrev pub feeds : Log → List MadeFeed
feeds [] = []
feeds (Fed replica incarnation taken to ∷ log) =
    record { replica = replica; incarnation = incarnation; taken = taken; to = to } ∷ feeds log
feeds (entry ∷ log) = feeds log

-- the greater of the time and the since, where it is one of a table that isn't done
abbrev pub or_since : Bool → Frontier → ℕ → ℕ
or_since true (At since) time = max since time
or_since table since time = time

-- the greatest since of the tables that aren't done, or 0
abbrev pub greatest_table : List Settled → ℕ
greatest_table [] = 0
greatest_table (s ∷ ss) = or_since (is_table s.collection.kind) s.since (greatest_table ss)

-- the last time that a feed has the changes of, for one who is ready for a time: the time asked for, but from the sinces of all tables
-- on, and not back
abbrev pub feed_to : ℕ → ℕ → List Settled → ℕ
feed_to asked ready ss = max asked (max (greatest_table ss) (ready - 1))

-- a packet with these numbers comes from a replica that took the feed
abbrev pub is_feed : List ℕ → ℕ → ℕ → ℕ → MadeFeed → Bool
is_feed replica incarnation taken ready feed =
    (bytes_eq feed.replica replica && (feed.incarnation == incarnation)) && ((feed.taken == taken) && (feed.to + 1 == ready))

-- ---- packets. A replica has taken some lines, and is ready for a time: it has the contents of tables below that

-- how far each collection has come that is made as of a time and not dropped by the lines
abbrev pub frontiers_in : List Command → ℕ → List Command → List (ℕ × ℕ)
frontiers_in all ready [] = []
frontiers_in all ready (Create collection plan as_of ∷ lines) =
    if is_dropped collection all then frontiers_in all ready lines
    else (collection, max as_of ready) ∷ frontiers_in all ready lines
frontiers_in all ready (line ∷ lines) = frontiers_in all ready lines

-- the frontiers of a packet, in order of collections
abbrev pub packet_frontiers : List Command → ℕ → List (ℕ × ℕ)
packet_frontiers taken ready = frontiers_in taken ready taken

-- the peeks that the lines ask for at times below the one that the replica is ready for, and don't end
abbrev pub answers_in : List Command → ℕ → List Command → List ℕ
answers_in all ready [] = []
answers_in all ready (Peek peek collection time ∷ lines) =
    if nat_lt time ready && not (is_retired peek all) then peek ∷ answers_in all ready lines
    else answers_in all ready lines
answers_in all ready (line ∷ lines) = answers_in all ready lines

-- the peeks that a packet answers, in order
abbrev pub packet_answers : List Command → ℕ → List ℕ
packet_answers taken ready = answers_in taken ready taken
