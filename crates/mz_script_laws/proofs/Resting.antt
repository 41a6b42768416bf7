-- A machine at rest stays so as calm events come.
use Rattle.std.proofs.Common.{[], ◌∷◌, List, arith, refl}
use Rattle.std.specs.List.{AllByRecursion as Each}
use Rattle.mz_log.specs.declared.entry.Entry.{Entry}
use Rattle.mz_log.specs.Log.{Log}
use Rattle.mz_books.specs.Entries.{after}
use Rattle.mz_books.specs.Legal.{MayFollow}
use Rattle.mz_books.specs.Owed.{called_for, event}
use Rattle.mz_event_laws.proofs.Whole.{IsWhole, event_whole}
use Rattle.mz_books.specs.Streams.{first_replica, joining_stream}
use Rattle.mz_script.specs.ScriptLine.{LiveReplica, Machine, fresh_place, opening_machine, with_log}
use Rattle.mz_script_laws.specs.Places.{IsPlaced}
use Rattle.mz_script_laws.specs.Rest.{IsAtRest}
use Rattle.mz_script_laws.proofs.Calm.{IsCalm, called_calm, placed_after}

-- nothing has happened
pub opening_rests : IsAtRest opening_machine
opening_rests = record {
  legal = tt;
  whole = refl;
  one = record {
    replica = record { name = first_replica; place = fresh_place 1; front = [] };
    is_one = refl;
    is_first = refl;
    placed = record {
      own = joining_stream first_replica 1 0 [];
      is_own = refl;
      is_live = refl;
      in_main = refl;
      reported = omega arith;
      there = omega arith;
      readable = omega arith;
    };
  };
}

-- with another log that is whole, and agrees with each place that the log agreed with
rests_with : (machine : Machine) (log : Log) → IsWhole log → ((replica : LiveReplica) → IsPlaced machine.log replica → IsPlaced log replica)
    → IsAtRest machine → IsAtRest (with_log machine log)
rests_with machine log w places rest = record {
  legal = w.legal;
  whole = w.none;
  one = record {
    replica = rest.one.replica;
    is_one = rest.one.is_one;
    is_first = rest.one.is_first;
    placed = places rest.one.replica rest.one.placed;
  };
}

-- with the log that it has
pub rests_still : (machine : Machine) → IsAtRest machine → IsAtRest (with_log machine machine.log)
rests_still machine rest = rests_with machine machine.log (record { legal = rest.legal; none = rest.whole }) (λ replica p. p) rest

-- after calm entries that leave a whole log
pub rests_after : (machine : Machine) (entries : List Entry) → IsWhole (after entries machine.log) → Each IsCalm entries → IsAtRest machine
    → IsAtRest (with_log machine (after entries machine.log))
rests_after machine entries w calm rest =
    rests_with machine (after entries machine.log) w (λ replica p. placed_after entries machine.log w.legal calm replica p) rest

-- after a calm event
pub rests_event : (machine : Machine) (entry : Entry) → IsCalm entry → MayFollow machine.log entry → IsAtRest machine
    → IsAtRest (with_log machine (event machine.log entry))
rests_event machine entry calm may rest =
    rests_after machine (entry ∷ called_for machine.log entry) (event_whole machine.log entry rest.legal rest.whole may)
    (calm, called_calm machine.log entry) rest
