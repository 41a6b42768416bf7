use Rattle.std.proofs.Common.{◌≡◌, ◌++◌}
use Rattle.mz_bag.proofs.bag.copied_counts.Given as goal

-- the rows so far are copied, and with those to come they are all
abbrev pub invariant-loop-row : goal.invariant-loop-row
invariant-loop-row l = l.copy.items ++ l.row-iterator ≡ l.counts.entries
