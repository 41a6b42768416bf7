-- True feeds and packets: what a replica is fed, and what it tells in turn, as a log determines it.
use Rattle.std.specs.Prelude.{◌≡◌, ℕ, ◌+◌, ◌&&◌, ◌≤◌, List, [], ◌∷◌, Bool, not, drop, filter, length, map, nat_lt, IsPermutation, if◌then◌else◌}
use Rattle.std.specs.List.{AllByRecursion as Each}
use Rattle.std.specs.FinMap.{entries}
use Rattle.mz_time.specs.declared.frontier.Frontier.{Frontier}
use Rattle.mz_time.specs.declared.frontier.Frontier.TheVariants.{At, Done}
use Rattle.mz_plan.specs.declared.command.Answer.{Answer}
use Rattle.mz_plan.specs.declared.command.Command.{Command}
use Rattle.mz_plan.specs.declared.command.Command.TheVariants.{Peek}
use Rattle.mz_plan.specs.declared.command.Place.{Place}
use Rattle.mz_rules.specs.Frontiers.{is_at}
use Rattle.mz_rules.specs.Joining.{is_table}
use Rattle.mz_rules.specs.Streams.{is_retired}
use Rattle.mz_rules.specs.declared.capability.Settled.{Settled}
use Rattle.mz_updates.specs.Batch.{IsBatch}
use Rattle.mz_updates.specs.declared.batch.Batch.{Batch}
use Rattle.mz_log.specs.declared.entry.Entry.TheVariants.{Fed}
use Rattle.mz_log.specs.Log.{Log}
use Rattle.mz_books.specs.Rounds.{read_time}
use Rattle.mz_books.specs.Collections.{contents_at}
use Rattle.mz_books.specs.Since.{settled, since}
use Rattle.mz_books.specs.Streams.{stream_of}
use Rattle.mz_books.specs.Feeds.{feed_to, packet_frontiers}

-- ---- feeds

-- the collection is a table that isn't done
abbrev pub is_open_table : Settled → Bool
is_open_table s = is_table s.collection.kind && is_at s.since

-- the numbers of the tables that aren't done
abbrev pub open_tables : Log → List ℕ
open_tables log = map (λ s. s.collection.number) (filter is_open_table (settled log))

-- the time of a frontier, 0 where it is none
abbrev pub time_of : Frontier → ℕ
time_of (At time) = time
time_of Done = 0

-- the batch is that of its table, for one who is ready for a time, up to the last time of a feed
abbrev pub IsBatchOf : Log → ℕ → ℕ → Batch → Type 0
IsBatchOf log ready to batch = IsBatch (contents_at log batch.table) (time_of (since log batch.table)) ready to batch

-- a feed for a replica at a place is true for its front, the log that ends with it: it has the lines of the replica's stream that the
-- place hasn't taken, and a batch for each table that isn't done, up to one last time
pub record IsTrueFeed (front : Log) (replica : List ℕ) (place : Place) (commands : List Command) (batches : List Batch) (to : ℕ) : Type 0 where
  pub before : Log
  pub taken : ℕ
  pub ends : front ≡ Fed replica place.incarnation taken to ∷ before
  pub all_taken : taken ≡ length (stream_of front replica place.incarnation)
  pub taken_before : place.taken ≤ taken
  pub own_commands : commands ≡ drop place.taken (stream_of front replica place.incarnation)
  pub asked : ℕ
  pub own_to : to ≡ feed_to asked place.ready (settled front)
  pub readable : to ≤ read_time front
  pub own_tables : IsPermutation (map (λ batch. batch.table) batches) (open_tables front)
  pub own_batches : Each (IsBatchOf front place.ready to) batches

-- ---- packets

-- the answer to a peek that the front determines: the rows of its collection at its own time
abbrev pub answer_at : Log → ℕ → ℕ → ℕ → Answer
answer_at front peek collection time = record { peek = peek; rows = entries (contents_at front collection time) }

-- the answers to the peeks that the lines ask for at times below the one that the replica is ready for, and don't end
abbrev pub right_answers_in : Log → List Command → ℕ → List Command → List Answer
right_answers_in front all ready [] = []
right_answers_in front all ready (Peek peek collection time ∷ lines) =
    if nat_lt time ready && not (is_retired peek all)
    then answer_at front peek collection time ∷ right_answers_in front all ready lines
    else right_answers_in front all ready lines
right_answers_in front all ready (line ∷ lines) = right_answers_in front all ready lines

-- the answers of a packet, in order of peeks
abbrev pub right_answers : Log → List Command → ℕ → List Answer
right_answers front taken ready = right_answers_in front taken ready taken

-- a packet is true for its front, the log that ends with the feed that its replica took: it tells how far the replica has come, and
-- answers the peeks that it has come to. With the turn, the front determines it
pub record IsTruePacket (front : Log) (replica : List ℕ) (incarnation taken ready : ℕ) (frontiers : List (ℕ × ℕ)) (answers : List Answer) : Type 0 where
  pub before : Log
  pub to : ℕ
  pub ends : front ≡ Fed replica incarnation taken to ∷ before
  pub own_ready : ready ≡ to + 1
  pub own_frontiers : frontiers ≡ packet_frontiers (stream_of front replica incarnation) ready
  pub own_answers : answers ≡ right_answers front (stream_of front replica incarnation) ready
