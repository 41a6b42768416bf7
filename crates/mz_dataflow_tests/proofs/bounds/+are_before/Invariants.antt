use Rattle.std.proofs.Common.{length}
use Rattle.mz_dataflow_tests.proofs.bounds.+are_before.Given as goal

-- one list less at each call
abbrev pub decreases-are_before : goal.decreases-are_before
decreases-are_before l = length l.given.now
