use Rattle.mz_ops.proofs.timed.tell.Goals as goal

-- whatever is at the time is within the bound
pub change-requires : goal.change-requires
change-requires g c = c.requires c.in_ok-left.left c.in_ok-right.right c.run_at.new.updates.items c.run_at-2.new.updates.items c.in_ok-left.ensures c.in_ok-right.ensures
