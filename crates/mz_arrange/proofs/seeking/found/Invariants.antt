use Rattle.std.proofs.Common.{◌≡◌, take}
use Rattle.mz_arrange.specs.Kept.{found}
use Rattle.mz_arrange.proofs.seeking.found.Given as goal

-- those of the key among the updates so far are copied
abbrev pub invariant-updates : goal.invariant-updates
invariant-updates l = l.copy ≡ found l.key (take l.update-index l.updates)
