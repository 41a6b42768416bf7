use Rattle.std.proofs.Common.{length}
use Rattle.mz_resolve.proofs.commands.+misplaced.Given as goal

-- the columns that are left
abbrev pub decreases-misplaced : goal.decreases-misplaced
decreases-misplaced l = length l.columns.now
