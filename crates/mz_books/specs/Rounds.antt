-- Rounds and their times: which commands wait, which round is open, and up to which time a read may look.
use Rattle.std.specs.Prelude.{ℕ, List, [], ◌∷◌, ◌++◌, Bool, true, false, not, filter, Option, None, Some, if◌then◌else◌}
use Rattle.std.specs.List.{list_any}
use Rattle.std.specs.Option.{option_map_or}
use Rattle.mz_log.specs.declared.entry.Entry.TheVariants.{Queue, Begin, Apply, Refused, Cancel}
use Rattle.mz_log.specs.declared.entry.Replied.{Replied}
use Rattle.mz_log.specs.declared.reply.SeqReply.{SeqReply}
use Rattle.mz_log.specs.declared.reply.SeqReply.TheVariants.{Created, Dropped}
use Rattle.mz_log.specs.Log.{Log}
use Rattle.mz_books.specs.Entries.{Queued, is_queued_as, is_reply_to}

-- the greatest time
abbrev pub greatest_time : ℕ
greatest_time = 9223372036854775807

-- the greatest time of a round
abbrev pub greatest_round_time : ℕ
greatest_round_time = 9223372036854775806

-- a round that was begun: its number, its time and the commands that it took
pub record Round : Type 0 where
  pub number : ℕ
  pub time : ℕ
  pub commands : List Queued

-- the read time: that of the last round that was applied, or 0
abbrev pub read_time : Log → ℕ
read_time [] = 0
read_time (Apply time replies ∷ log) = time
read_time (entry ∷ log) = read_time log

-- the last time that a round was given, or 0
abbrev pub last_time : Log → ℕ
last_time [] = 0
last_time (Begin number time ∷ log) = time
last_time (entry ∷ log) = last_time log

-- how many rounds were begun
abbrev pub rounds : Log → ℕ
rounds [] = 0
rounds (Begin number time ∷ log) = number
rounds (entry ∷ log) = rounds log

-- an item was made or removed
abbrev pub moves_items : SeqReply → Bool
moves_items (Created item) = true
moves_items Dropped = true
moves_items other = false

-- the time of the last round in which a CREATE or a DROP succeeded, or 0
abbrev pub ddl : Log → ℕ
ddl [] = 0
ddl (Apply time replies ∷ log) = if list_any (λ replied. moves_items replied.reply) replies then time else ddl log
ddl (entry ∷ log) = ddl log

-- the commands to which none of these is the reply
abbrev pub unreplied : List Replied → List Queued → List Queued
unreplied replies commands =
    filter (λ command. not (list_any (is_reply_to command.session command.call) replies)) commands

-- the commands that have no reply yet, in the order in which they were queued
abbrev pub queued : Log → List Queued
queued [] = []
queued (Queue session call statement ∷ log) =
    queued log ++ record { session = session; call = call; statement = statement } ∷ []
queued (Apply time replies ∷ log) = unreplied replies (queued log)
queued (Refused session call text refusal ∷ log) = filter (λ command. not (is_queued_as session call command)) (queued log)
queued (Cancel session call ∷ log) = filter (λ command. not (is_queued_as session call command)) (queued log)
queued (entry ∷ log) = queued log

-- the round that was begun and isn't applied yet, with the commands that waited when it began
abbrev pub open_round : Log → Option Round
open_round [] = None
open_round (Begin number time ∷ log) = Some (record { number = number; time = time; commands = queued log })
open_round (Apply time replies ∷ log) = None
open_round (entry ∷ log) = open_round log

-- the call is a command of the open round
abbrev pub is_in_round : ℕ → ℕ → Option Round → Bool
is_in_round session call round = option_map_or (λ begun. list_any (is_queued_as session call) begun.commands) round false
