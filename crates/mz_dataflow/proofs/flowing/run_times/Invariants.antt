use Rattle.std.proofs.Common.{ℕ, map}
use Rattle.mz_dataflow.specs.Flown.{IsReady}
use Rattle.mz_dataflow.proofs.Underway.{left_over, IsUnderway}
use Rattle.mz_dataflow.proofs.flowing.run_times.Given as goal

-- whatever the times between which the queues lie, some times of them were run
abbrev pub invariant-times : goal.invariant-times
invariant-times l = (lower upper : ℕ) → IsReady lower upper l.initial.nodes.items (map (λ q. (q.0, q.1.items)) l.initial.queues.items)
    → IsUnderway lower upper l.initial.nodes.items l.nodes.items (map (λ q. (q.0, q.1.items)) l.initial.queues.items)
    (map (λ q. (q.0, q.1.items)) l.queues.items) l.out

-- each takes an update
abbrev pub decreases-times : goal.decreases-times
decreases-times l = left_over (map (λ q. (q.0, q.1.items)) l.queues.items)
