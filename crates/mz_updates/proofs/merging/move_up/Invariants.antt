use Rattle.mz_updates.proofs.MovingUp.{AreMoved}
use Rattle.mz_updates.proofs.merging.move_up.Given as goal

-- the updates before the place are moved
abbrev pub invariant-updates : goal.invariant-updates
invariant-updates l = AreMoved l.since l.initial.updates.items l.updates.items l.place
