use Rattle.std.proofs.Common.{◌≡◌, ◌++◌}
use Rattle.std.specs.Vec.Iter.{into_iter_items}
use Rattle.mz_updates.specs.Contents.{stamped}
use Rattle.mz_updates.proofs.merging.stamped_rows.Given as goal

-- the rows so far are stamped, and with those to come they are all
abbrev pub invariant-rows : goal.invariant-rows
invariant-rows l = l.updates.items ++ stamped l.time (into_iter_items l.row-iterator) ≡ stamped l.time l.fn.rows.items
