use Rattle.std.proofs.Common.{arith}
use Rattle.mz_dataflow.proofs.Taking.{taking_first, taking_last, taking_on}
use Rattle.mz_dataflow.proofs.queues.changes_at.Goals as goal

-- nothing was taken yet
pub queues-init : goal.queues-init
queues-init c = taking_first c.args.time _ _ c.new-changes.ensures.items

-- then from the next list
pub queues-preserved : goal.queues-preserved
queues-preserved c = rw c.in_ok-push.ensures.items (taking_on _ c.args.time c.args.queues.now.items c.queues.queues.items c.queues.place c.queues.changes.items c.index_mut.result.now
    c.taken_at.new.queue c.in_ok-taken.taken c.queues.invariant (omega arith) c.index_mut.ensures.value c.in_ok-taken.ensures)

-- till from all
pub returns : goal.returns
returns c = taking_last _ c.args.time c.args.queues.now.items c.queues.queues.items c.queues.place c.queues.changes.items c.queues.invariant (omega arith)
