use Rattle.std.proofs.Common.{◌≡◌, ◌++◌}
use Rattle.std.specs.Vec.Iter.{into_iter_items}
use Rattle.mz_eval.proofs.typing.joined.Given as goal

-- the columns so far, with those that are left, are all
abbrev pub invariant-right : goal.invariant-right
invariant-right l = l.columns.items ++ into_iter_items l.column-iterator ≡ l.fn.left.items ++ l.fn.right.items
