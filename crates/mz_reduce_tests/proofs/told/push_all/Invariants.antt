use Rattle.std.proofs.Common.{◌≡◌, ◌++◌}
use Rattle.std.specs.Vec.Iter.{into_iter_items}
use Rattle.mz_reduce_tests.proofs.told.push_all.Given as goal

-- the updates so far, and those to come, are all
abbrev pub invariant-more : goal.invariant-more
invariant-more l = l.updates ++ into_iter_items l.row-iterator ≡ l.initial.updates ++ l.fn.more
