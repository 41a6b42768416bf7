-- The log of a machine stays plain as rounds begin and are applied, as it settles, and as sessions say commands and queries.
use Rattle.std.specs.Prelude.{⊤}
use Rattle.std.proofs.Common.{ℕ, ◌+◌, ◌==◌, [], ◌∷◌, filter, length, nat_le, Option, None, Some, Err, is_some, sym, subst}
use Rattle.std.specs.List.{AllByRecursion as Each}
use Rattle.std.proofs.lemmas.Bool.{cond_both}
use Rattle.mz_print.specs.Print.{print_of}
use Rattle.mz_refusal.specs.declared.refusal.Refusal.TheVariants as refusal
use Rattle.mz_rules.proofs.Each.{each_all, each_map}
use Rattle.mz_log.specs.declared.entry.Entry.{Entry}
use Rattle.mz_log.specs.declared.entry.Entry.TheVariants.{Begin, Apply, Finish, Refused, Instant, Close, Fed, Absorbed}
use Rattle.mz_log.specs.Log.{Log}
use Rattle.mz_books.specs.Clusters.{cluster_of}
use Rattle.mz_books.specs.Entries.{after}
use Rattle.mz_books.specs.Given.{Begun, BeginRefusal, Given, NoTime, begin_given, finish_given, gives, next_time, spent}
use Rattle.mz_books.specs.Holds.{pending}
use Rattle.mz_books.specs.Owed.{answers_of, called_for, event, is_answered, peek_rows}
use Rattle.mz_books.specs.Rounds.{Round, greatest_round_time, last_time, open_round, queued, rounds}
use Rattle.mz_books.specs.States.{newest_state, replies_to}
use Rattle.mz_frames.specs.Turns.{IsTurn}
use Rattle.mz_script.specs.LineEvents.{commits_if_queued}
use Rattle.mz_script.specs.Script.{begins, commits, finishes, finishes_if_open}
use Rattle.mz_script.specs.ScriptLine.{Machine, and_then, only_says}
use Rattle.mz_script_laws.specs.Plain.{IsPlain, IsPlainLog}
use Rattle.mz_script_laws.proofs.PlainLogs.{plain_after}

-- ---- events

-- what a plain entry calls for is plain
plain_called : (log : Log) (entry : Entry) → IsPlain entry → Each IsPlain (called_for log entry)
plain_called log (Instant session call statement time) p = absurd p
plain_called log (Close session) p = absurd p
plain_called log (Absorbed replica incarnation turn taken ready frontiers) p =
    let answered = filter (is_answered (answers_of log replica incarnation taken ready)) (pending log) in
    each_map (λ peek. ⊤) IsPlain (λ peek. Finish peek.peek (peek_rows log peek)) (λ peek q. tt) answered (each_all (λ peek. ⊤) (λ peek. tt) answered)
plain_called log entry p = tt

-- so an event of one leaves a plain log
pub plain_event : (log : Log) (entry : Entry) → IsPlain entry → IsPlainLog log → IsPlainLog (event log entry)
plain_event log entry own p = plain_after (called_for log entry) (entry ∷ log) (plain_called log entry own) (own, p)

-- and so does a turn
pub plain_turn : (log later : Log) → IsTurn log later → IsPlainLog log → IsPlainLog later
plain_turn log later t p =
    subst IsPlainLog (sym t.is)
    (plain_event (Fed t.replica t.incarnation t.fed t.to ∷ log) (Absorbed t.replica t.incarnation t.turn t.taken t.ready t.frontiers) tt (tt, p))

-- ---- rounds

-- a round begins, or the commands that wait are refused
begin_plain : (log : Log) (now : ℕ) (round : Option Round) → IsPlainLog log → IsPlainLog (after (begin_given log now round).entries log)
begin_plain log now (Some round) p = p
begin_plain log now None p =
    let time = next_time log now in
    let given : Given Begun BeginRefusal =
    gives log (Begin (rounds log + 1) time) (record { round = rounds log + 1; time = time; commands = length (queued log) }) in
    let none : Given Begun BeginRefusal = record { entries = spent (last_time log) (queued log); answer = Err (NoTime (last_time log) now) } in
    cond_both (nat_le time greatest_round_time) given none (λ g. IsPlainLog (after g.entries log))
    (λ h. plain_event log (Begin (rounds log + 1) time) tt p)
    (λ h. plain_after (spent (last_time log) (queued log)) log
    (each_map (λ c. ⊤) IsPlain (λ c. Refused c.session c.call (print_of c.statement) (refusal.TimeSpent (last_time log))) (λ c q. tt) (queued log)
    (each_all (λ c. ⊤) (λ c. tt) (queued log))) p)

-- the open round is applied
finish_plain : (log : Log) (round : Option Round) → IsPlainLog log → IsPlainLog (after (finish_given log round).entries log)
finish_plain log None p = p
finish_plain log (Some round) p = plain_event log (Apply round.time (replies_to (cluster_of log) (newest_state log) round.commands)) tt p

pub begins_plain : (machine : Machine) → IsPlainLog machine.log → IsPlainLog (begins machine).machine.log
begins_plain machine p = begin_plain machine.log machine.moment (open_round machine.log) p

pub finishes_plain : (machine : Machine) → IsPlainLog machine.log → IsPlainLog (finishes machine).machine.log
finishes_plain machine p = finish_plain machine.log (open_round machine.log) p

-- the open round is applied, if there is one
pub finishes_open_plain : (machine : Machine) → IsPlainLog machine.log → IsPlainLog (finishes_if_open machine).machine.log
finishes_open_plain machine p =
    cond_both (is_some (open_round machine.log)) (finishes machine) (only_says machine []) (λ said. IsPlainLog said.machine.log)
    (λ _. finishes_plain machine p) (λ _. p)

-- both
pub commits_plain : (machine : Machine) → IsPlainLog machine.log → IsPlainLog (commits machine).machine.log
commits_plain machine p =
    cond_both (is_some (open_round machine.log)) (begins machine) (and_then (begins machine) finishes_if_open) (λ said. IsPlainLog said.machine.log)
    (λ _. begins_plain machine p) (λ _. finishes_open_plain (begins machine).machine (begins_plain machine p))

-- so it is where a command waits
pub commits_queued_plain : (machine : Machine) → IsPlainLog machine.log → IsPlainLog (commits_if_queued machine).machine.log
commits_queued_plain machine p =
    cond_both (length (queued machine.log) == 0) (only_says machine []) (commits machine) (λ said. IsPlainLog said.machine.log)
    (λ _. p) (λ _. commits_plain machine p)
