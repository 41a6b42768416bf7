use Rattle.std.proofs.Common.{map}
use Rattle.std.specs.Vec.Iter.{into_iter_items}
use Rattle.mz_dataflow.proofs.Queueing.{IsQueueing}
use Rattle.mz_dataflow.proofs.flowing.queued.Given as goal

-- the lists so far are in queues
abbrev pub invariant-leaves : goal.invariant-leaves
invariant-leaves l = IsQueueing l.fn.offered.items (into_iter_items l.leaf-iterator) (map (λ q. (q.0, q.1.items)) l.queues.items)
