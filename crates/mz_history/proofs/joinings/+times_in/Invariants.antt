use Rattle.std.proofs.Common.{length}
use Rattle.mz_history.proofs.joinings.+times_in.Given as goal

abbrev pub decreases-times_in : goal.decreases-times_in
decreases-times_in l = length l.joinings.now
