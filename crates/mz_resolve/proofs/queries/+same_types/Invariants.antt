use Rattle.std.proofs.Common.{length}
use Rattle.mz_resolve.proofs.queries.+same_types.Given as goal

-- the columns that are left
abbrev pub decreases-same_types : goal.decreases-same_types
decreases-same_types l = length l.ones.now
