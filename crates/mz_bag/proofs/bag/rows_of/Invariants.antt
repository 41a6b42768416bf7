use Rattle.std.proofs.Common.{◌≡◌, ◌++◌}
use Rattle.std.specs.Map.{keys_of}
use Rattle.std.specs.Vec.Iter.{into_iter_items}
use Rattle.mz_bag.proofs.bag.rows_of.Given as goal

-- the rows so far are taken, and with those to come they are all
abbrev pub invariant-loop-row : goal.invariant-loop-row
invariant-loop-row l = l.rows.items ++ keys_of (into_iter_items l.row-iterator) ≡ keys_of l.fn.counted.items
