use Rattle.std.proofs.Common.{length}
use Rattle.mz_history.proofs.streams.+lines_from.Given as goal

abbrev pub decreases-lines_from : goal.decreases-lines_from
decreases-lines_from l = length l.streams.now
