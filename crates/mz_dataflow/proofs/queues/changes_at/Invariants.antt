use Rattle.std.proofs.Common.{map}
use Rattle.mz_dataflow.proofs.Taking.{IsTaking}
use Rattle.mz_dataflow.proofs.queues.changes_at.Given as goal

-- it was taken from the lists before the place
abbrev pub invariant-queues : goal.invariant-queues
invariant-queues l = IsTaking l.time (map (λ q. (q.0, q.1.items)) l.initial.queues.items) (map (λ q. (q.0, q.1.items)) l.queues.items) l.place
    l.changes.items
