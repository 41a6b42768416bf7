use Rattle.std.proofs.Common.{◌≡◌, ◌++◌}
use Rattle.mz_bag.proofs.bag.moved_counts.Given as goal

-- the rows so far are moved, and with those to come they are all
abbrev pub invariant-loop-row : goal.invariant-loop-row
invariant-loop-row l = l.moved.items ++ l.row-iterator ≡ l.fn.counts.entries
