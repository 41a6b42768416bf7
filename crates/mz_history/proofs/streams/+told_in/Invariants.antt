use Rattle.std.proofs.Common.{length}
use Rattle.mz_history.proofs.streams.+told_in.Given as goal

abbrev pub decreases-told_in : goal.decreases-told_in
decreases-told_in l = length l.streams.now
