use Rattle.std.proofs.Common.{◌-◌, length}
use Rattle.mz_history.proofs.streams.+push_from.Given as goal

abbrev pub decreases-push_from : goal.decreases-push_from
decreases-push_from l = length l.streams.now.items - l.place
