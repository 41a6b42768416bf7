use Rattle.std.proofs.Common.{◌≡◌, ◌++◌, length}
use Rattle.mz_updates.specs.Contents.{stamped}
use Rattle.mz_dataflow.proofs.queues.run_at.Given as goal

-- what was taken, at the time, with what is left, is all
abbrev pub invariant-run : goal.invariant-run
invariant-run l = stamped l.time l.rows.items ++ l.updates.items ≡ l.initial.updates.items

-- each turn takes an update
abbrev pub decreases-run : goal.decreases-run
decreases-run l = length l.updates.items
