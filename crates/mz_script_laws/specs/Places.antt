-- Where the replicas of a machine stand, as its log has it.
use Rattle.std.specs.Prelude.{◌≡◌, ◌+◌, ◌≤◌, [], ◌∷◌, Some, find, length}
use Rattle.mz_log.specs.declared.stream.Stream.{Stream}
use Rattle.mz_log.specs.Log.{Log}
use Rattle.mz_books.specs.GivenReplicas.{kept_taken}
use Rattle.mz_books.specs.Rounds.{read_time}
use Rattle.mz_books.specs.Streams.{first_replica, is_stream, live_stream, streams}
use Rattle.mz_script.specs.ScriptLine.{LiveReplica, Machine}

-- a replica stands at a place that the log agrees with: its incarnation is live in the cluster `main`, it has taken no fewer lines than
-- the report that counts says and no more than there are, and it is ready for no later time than the one after the read time
pub record IsPlaced (log : Log) (replica : LiveReplica) : Type 0 where
  pub own : Stream
  pub is_own : find (is_stream replica.name replica.place.incarnation) (streams log) ≡ Some own
  pub is_live : live_stream log replica.name ≡ Some own
  pub in_main : own.cluster ≡ 0
  pub reported : kept_taken own ≤ replica.place.taken
  pub there : replica.place.taken ≤ length own.commands
  pub readable : replica.place.ready ≤ read_time log + 1

-- the machine has the first replica and no other, and its log agrees with where that stands
pub record HasOneReplica (machine : Machine) : Type 0 where
  pub replica : LiveReplica
  pub is_one : machine.replicas ≡ replica ∷ []
  pub is_first : replica.name ≡ first_replica
  pub placed : IsPlaced machine.log replica
