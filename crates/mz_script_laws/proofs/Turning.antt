-- A machine with one replica makes a turn.
use Rattle.std.specs.Prelude.{⊤, bytes_eq, flat_map}
use Rattle.std.proofs.Common.{◌≡◌, ◌+◌, Bool, true, List, [], ◌∷◌, filter, find, map, Some, refl, sym, ap, ◌∙◌, subst}
use Rattle.std.specs.List.{AllByRecursion as Each}
use Rattle.std.proofs.Math.Seq.{take-length}
use Rattle.std.proofs.lemmas.Bool.{cond-true}
use Rattle.std.proofs.lemmas.List.{append-nil}
use Rattle.std.proofs.lemmas.Slice.Eq.{bytes_eq-Decides}
use Rattle.mz_plan.specs.declared.command.PendingPeek.{PendingPeek}
use Rattle.mz_log.specs.declared.stream.Stream.{Stream}
use Rattle.mz_log.specs.Log.{Log}
use Rattle.mz_books.specs.Feeds.{packet_answers}
use Rattle.mz_books.specs.Holds.{is_peek, peeks_made, pending}
use Rattle.mz_books.specs.Legal.{Legal}
use Rattle.mz_books.specs.Owed.{is_answered, owed}
use Rattle.mz_books.specs.Streams.{is_stream, stream_of, streams}
use Rattle.mz_call_laws.proofs.Lists.{each_has, found}
use Rattle.mz_call_laws.proofs.PendingCalls.{pending_rises}
use Rattle.mz_rules.proofs.Each.{each_all}
use Rattle.mz_safe_laws.proofs.Reached.{each_left}
use Rattle.mz_frames.proofs.Turning.{turn_pending}
use Rattle.mz_script.specs.LineEvents.{fed_and_turned, sorted_names, turned, turns, turns_all, turns_one}
use Rattle.mz_script.specs.Machine.{answer_text, answers_to, feed_at, moved_replica, replica_called}
use Rattle.mz_script.specs.ScriptLine.{LiveReplica, Machine, NumberedFeed, and_then}
use Rattle.mz_script_laws.specs.Places.{HasOneReplica, IsPlaced}
use Rattle.mz_script_laws.specs.Turns.{Turned, all_told}
use Rattle.mz_script_laws.proofs.Answered.{all_finished, is_turn, turn_whole, turned_log}
use Rattle.mz_script_laws.proofs.AskedLines.{Rise, answers_rise}
use Rattle.mz_script_laws.proofs.Feeding.{fed_stream, feeds_own, front_legal, front_lines, front_of, front_stream, last_fed}
use Rattle.mz_script_laws.proofs.Merged.{merged}
use Rattle.mz_script_laws.proofs.Standing.{next_replica, placed_turned}
use Rattle.mz_script_laws.proofs.StreamsInOrder.{AsksInOrder, streams_in_order}

-- ---- what is told

-- a list that a test leaves whole passes it
filter_whole : (test : PendingPeek → Bool) (ps : List PendingPeek) → filter test ps ≡ ps → Each (λ p. test p ≡ true) ps
filter_whole test ps e =
    subst (Each (λ p. test p ≡ true)) e
    (each_left (λ p. ⊤) (λ p. test p ≡ true) test (λ p h q. h) ps (each_all (λ p. ⊤) (λ p. tt) ps))

-- the answers of the packet are in order
answers_in_order : (log : Log) (replica : LiveReplica) (p : IsPlaced log replica) → Legal log → owed log ≡ []
    → Rise (answers_to (feed_at replica (front_of log replica p)))
answers_in_order log replica p l none =
    let front = front_of log replica p in
    let s : Stream = fed_stream log replica p in
    let there = (found (is_stream replica.name replica.place.incarnation) (streams front) s (front_stream log replica p)).1 in
    let order = each_has (AsksInOrder (peeks_made front)) s (streams front) (streams_in_order front (front_legal log replica p l none)) there in
    subst (λ lines. Rise (packet_answers lines (last_fed log replica + 1))) (sym (front_lines log replica p))
    (answers_rise s.commands (last_fed log replica + 1) s.commands order.rise)

-- each pending peek is among them
answers_each_peek : (log : Log) (replica : LiveReplica) (p : IsPlaced log replica) → Legal log → owed log ≡ []
    → Each (λ peek. is_answered (answers_to (feed_at replica (front_of log replica p))) peek ≡ true) (pending log)
answers_each_peek log replica p l none =
    let lines = stream_of (front_of log replica p) replica.name replica.place.incarnation in
    subst (λ taken. Each (λ peek. is_answered (packet_answers taken (last_fed log replica + 1)) peek ≡ true) (pending log)) (take-length lines)
    (filter_whole _ (pending log) (all_finished log replica p l none))

-- so what is said is said of each pending peek, in order
told_all : (log : Log) (replica : LiveReplica) (p : IsPlaced log replica) → Legal log → owed log ≡ []
    → flat_map (λ peek. answer_text (front_of log replica p) [] (find (is_peek peek) (pending log))) (answers_to (feed_at replica (front_of log replica p)))
    ≡ all_told log
told_all log replica p l none =
    merged (answer_text (front_of log replica p) []) refl (answers_to (feed_at replica (front_of log replica p))) (pending log)
    (answers_in_order log replica p l none) (pending_rises log l) (answers_each_peek log replica p l none)

-- ---- the machine

-- the replica is found by its name
called : (machine : Machine) (replica : LiveReplica) → machine.replicas ≡ replica ∷ [] → replica_called machine replica.name ≡ Some replica
called machine replica is =
    ap (find (λ other. bytes_eq other.name replica.name)) is ∙ cond-true _ _ _ ((bytes_eq-Decides replica.name replica.name).1 refl)

-- its turn is a feed and what becomes of that
turns_its : (machine : Machine) (replica : LiveReplica) (p : IsPlaced machine.log replica)
    → turns_one machine (Some replica) ≡ turned machine (feed_at replica (front_of machine.log replica p))
turns_its machine replica p = ap (λ given. fed_and_turned machine replica given given.answer) (feeds_own machine.log replica p)

-- all replicas make a turn: that one does
turns_alone : (machine : Machine) (replica : LiveReplica) (p : IsPlaced machine.log replica) → machine.replicas ≡ replica ∷ []
    → turns_all machine ≡ and_then (turned machine (feed_at replica (front_of machine.log replica p))) (turns [])
turns_alone machine replica p is =
    ap (λ rs. turns (sorted_names rs) machine) is
    ∙ ap (λ said. and_then said (turns [])) (ap (turns_one machine) (called machine replica is) ∙ turns_its machine replica p)

-- the machine then has that replica at its next place
one_then : (machine : Machine) (one : HasOneReplica machine) → Legal machine.log → owed machine.log ≡ []
    → HasOneReplica (turned machine (feed_at one.replica (front_of machine.log one.replica one.placed))).machine
one_then machine one l none =
    let feed : NumberedFeed = feed_at one.replica (front_of machine.log one.replica one.placed) in record {
      replica = next_replica machine.log one.replica one.placed;
      is_one = ap (map (moved_replica feed)) one.is_one
          ∙ ap (λ moved. moved ∷ []) (cond-true _ _ _ ((bytes_eq-Decides one.replica.name one.replica.name).1 refl));
      is_first = one.is_first;
      placed = placed_turned machine.log one.replica one.placed l none;
    }

-- so it made a turn
turned_alone : (machine : Machine) (one : HasOneReplica machine) → Legal machine.log → owed machine.log ≡ []
    → Turned machine (and_then (turned machine (feed_at one.replica (front_of machine.log one.replica one.placed))) (turns []))
turned_alone machine one l none =
    let turn = is_turn machine.log one.replica one.placed l none in record {
      turn = turn;
      whole = (turn_whole machine.log one.replica one.placed l none).none;
      none_pending = turn_pending machine.log (turned_log machine.log one.replica one.placed) turn;
      one = one_then machine one l none;
      moment = refl;
      lines = refl;
      feeds = refl;
      packets = refl;
      text = append-nil _ ∙ told_all machine.log one.replica one.placed l none;
    }

-- all replicas of such a machine make a turn
pub turns_made : (machine : Machine) → HasOneReplica machine → Legal machine.log → owed machine.log ≡ [] → Turned machine (turns_all machine)
turns_made machine one l none =
    subst (Turned machine) (sym (turns_alone machine one.replica one.placed one.is_one)) (turned_alone machine one l none)
