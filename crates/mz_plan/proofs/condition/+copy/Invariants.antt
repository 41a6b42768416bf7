use Rattle.std.proofs.Common.{◌≡◌, take}
use Rattle.mz_plan.proofs.condition.+copy.Given as goal

-- the conditions so far are copied
abbrev pub invariant-copied-conds : goal.invariant-copied-conds
invariant-copied-conds l = l.copy.items ≡ take l.cond-index l.conds
