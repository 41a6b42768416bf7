use Rattle.std.proofs.Common.{◌≡◌, take}
use Rattle.mz_updates.specs.Contents.{between}
use Rattle.mz_updates.proofs.merging.copied_between.Given as goal

-- those among the updates so far are copied
abbrev pub invariant-updates : goal.invariant-updates
invariant-updates l = l.copy.items ≡ between l.lower l.upper (take l.update-index l.updates)
