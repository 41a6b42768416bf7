use Rattle.std.proofs.Common.{length}
use Rattle.mz_history.proofs.streams.+kept_in.Given as goal

abbrev pub decreases-kept_in : goal.decreases-kept_in
decreases-kept_in l = length l.streams.now
