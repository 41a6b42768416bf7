-- A machine stays at rest as rounds begin and are applied.
use Rattle.std.proofs.Common.{◌≡◌, ℕ, ◌+◌, ◌==◌, true, [], length, nat_le, Option, None, Some, Err, is_some, refl, arith}
use Rattle.std.proofs.lemmas.Bool.{cond_both, leb-true}
use Rattle.mz_log.specs.declared.entry.Entry.TheVariants.{Begin, Apply}
use Rattle.mz_log.specs.Log.{Log}
use Rattle.mz_books.specs.Clusters.{cluster_of}
use Rattle.mz_books.specs.Entries.{after}
use Rattle.mz_books.specs.Given.{Begun, BeginRefusal, Given, NoTime, begin_at, begin_given, finish_given, gives, next_time, spent}
use Rattle.mz_books.specs.Legal.{MayApply, MayBegin}
use Rattle.mz_books.specs.Rounds.{Round, greatest_round_time, last_time, open_round, queued, rounds}
use Rattle.mz_books.specs.States.{newest_state, replies_to}
use Rattle.mz_frames.proofs.Spending.{all_spent_legal, all_spent_whole}
use Rattle.mz_script.specs.LineEvents.{commits_if_queued}
use Rattle.mz_script.specs.Script.{begins, commits, finishes, finishes_if_open}
use Rattle.mz_script.specs.ScriptLine.{Machine, and_then, only_says, with_log}
use Rattle.mz_script_laws.specs.Rest.{IsAtRest}
use Rattle.mz_script_laws.proofs.Calm.{spent_calm}
use Rattle.mz_script_laws.proofs.Resting.{rests_after, rests_event, rests_still}

-- ---- a round begins

-- a round may begin at the next time, where that is in range
may_begin : (log : Log) (now : ℕ) → open_round log ≡ None → nat_le (next_time log now) greatest_round_time ≡ true
    → MayBegin log (rounds log + 1) (next_time log now)
may_begin log now shut h = record {
  none_open = shut;
  next_number = refl;
  later = omega arith;
  in_range = leb-true (next_time log now) greatest_round_time h;
}

-- where none is open, a round begins, or the commands that wait are refused
begun_rests : (machine : Machine) → open_round machine.log ≡ None → IsAtRest machine
    → IsAtRest (with_log machine (after (begin_at machine.log machine.moment (next_time machine.log machine.moment)).entries machine.log))
begun_rests machine shut rest =
    let log = machine.log in
    let time = next_time log machine.moment in
    let given : Given Begun BeginRefusal =
    gives log (Begin (rounds log + 1) time) (record { round = rounds log + 1; time = time; commands = length (queued log) }) in
    let none : Given Begun BeginRefusal =
    record { entries = spent (last_time log) (queued log); answer = Err (NoTime (last_time log) machine.moment) } in
    cond_both (nat_le time greatest_round_time) given none (λ g. IsAtRest (with_log machine (after g.entries log)))
    (λ h. rests_event machine (Begin (rounds log + 1) time) tt (may_begin log machine.moment shut h) rest)
    (λ h. rests_after machine (spent (last_time log) (queued log))
    (record { legal = all_spent_legal log rest.legal rest.whole shut; none = all_spent_whole log rest.legal rest.whole shut })
    (spent_calm (last_time log) (queued log)) rest)

-- whether one is open or not
begin_rests : (machine : Machine) (round : Option Round) → open_round machine.log ≡ round → IsAtRest machine
    → IsAtRest (with_log machine (after (begin_given machine.log machine.moment round).entries machine.log))
begin_rests machine None shut rest = begun_rests machine shut rest
begin_rests machine (Some round) is rest = rests_still machine rest

-- so it is with the line
pub begins_rests : (machine : Machine) → IsAtRest machine → IsAtRest (begins machine).machine
begins_rests machine rest = begin_rests machine (open_round machine.log) refl rest

-- ---- a round is applied

-- the open round is applied, where there is one
finish_rests : (machine : Machine) (round : Option Round) → open_round machine.log ≡ round → IsAtRest machine
    → IsAtRest (with_log machine (after (finish_given machine.log round).entries machine.log))
finish_rests machine None shut rest = rests_still machine rest
finish_rests machine (Some round) is rest =
    let log = machine.log in
    let replies = replies_to (cluster_of log) (newest_state log) round.commands in
    let may : MayApply log round.time replies = record { round = round; is_open = is; own_time = refl; own_replies = refl } in
    rests_event machine (Apply round.time replies) tt may rest

-- so it is with the line
pub finishes_rests : (machine : Machine) → IsAtRest machine → IsAtRest (finishes machine).machine
finishes_rests machine rest = finish_rests machine (open_round machine.log) refl rest

-- ---- both

-- the open round is applied, if there is one
pub finishes_open_rests : (machine : Machine) → IsAtRest machine → IsAtRest (finishes_if_open machine).machine
finishes_open_rests machine rest =
    cond_both (is_some (open_round machine.log)) (finishes machine) (only_says machine []) (λ said. IsAtRest said.machine)
    (λ _. finishes_rests machine rest) (λ _. rest)

-- a round begins, and is applied where it did
pub commits_rests : (machine : Machine) → IsAtRest machine → IsAtRest (commits machine).machine
commits_rests machine rest =
    cond_both (is_some (open_round machine.log)) (begins machine) (and_then (begins machine) finishes_if_open) (λ said. IsAtRest said.machine)
    (λ _. begins_rests machine rest) (λ _. finishes_open_rests (begins machine).machine (begins_rests machine rest))

-- so it is where a command waits
pub commits_queued_rests : (machine : Machine) → IsAtRest machine → IsAtRest (commits_if_queued machine).machine
commits_queued_rests machine rest =
    cond_both (length (queued machine.log) == 0) (only_says machine []) (commits machine) (λ said. IsAtRest said.machine)
    (λ _. rest) (λ _. commits_rests machine rest)
