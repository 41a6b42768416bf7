use Rattle.std.proofs.Common.{length}
use Rattle.mz_dataflow.proofs.queues.+next_time.Given as goal

-- one list less at each call
abbrev pub decreases-next_time : goal.decreases-next_time
decreases-next_time l = length l.queues.now
