use Rattle.std.proofs.Common.{length}
use Rattle.mz_plan.proofs.leaves.+new_number.Given as goal

-- one pair less at each call
abbrev pub decreases-new_number : goal.decreases-new_number
decreases-new_number l = length l.names.now
