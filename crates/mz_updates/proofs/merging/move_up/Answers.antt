use Rattle.std.proofs.Common.{arith, refl}
use Rattle.mz_updates.proofs.MovingUp.{moved_more, moved_all}
use Rattle.mz_updates.proofs.merging.move_up.Goals as goal

-- at first none is
pub updates-init : goal.updates-init
updates-init c = record { done = refl; rest = refl; same_length = refl }

-- then one more
pub updates-preserved : goal.updates-preserved
updates-preserved c = moved_more c.args.since c.args.updates.now.items c.updates.updates.items c.updates.place c.index_mut.result.now c.move_one.new.update
    c.updates.invariant (omega arith) c.index_mut.ensures.value c.move_one.ensures

-- and in the end all
pub returns : goal.returns
returns c = moved_all c.args.since c.args.updates.now.items c.updates.updates.items c.updates.place c.updates.invariant (omega arith)
