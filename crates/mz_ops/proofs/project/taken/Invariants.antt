use Rattle.std.proofs.Common.{◌≡◌, ◌++◌}
use Rattle.std.specs.Vec.Iter.{into_iter_items}
use Rattle.mz_plan.specs.Operators.{projected}
use Rattle.mz_ops.proofs.project.taken.Given as goal

-- what is taken, with what is still to be, is all
abbrev pub invariant-rows : goal.invariant-rows
invariant-rows l = l.taken.items ++ projected l.places (into_iter_items l.row-iterator) ≡ projected l.places l.fn.rows.items
