use Rattle.std.proofs.Common.{◌≡◌, ◌++◌, drop}
use Rattle.mz_kept.specs.Carrying.{newest_first}
use Rattle.mz_plain.proofs.carry.with_made.Given as goal

-- the plans so far, with those to come, are all of them
abbrev pub invariant-plans : goal.invariant-plans
invariant-plans l = l.all.items ++ drop l.entry-index l.older ≡ newest_first l.fn.made.items l.older
