use Rattle.std.proofs.Common.{length}
use Rattle.mz_history.proofs.streams.+is_live.Given as goal

abbrev pub decreases-is_live : goal.decreases-is_live
decreases-is_live l = length l.streams.now
