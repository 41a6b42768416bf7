use Rattle.std.specs.Vec.Iter.{into_iter_items}
use Rattle.mz_reduce.specs.Counting.{IsOn}
use Rattle.mz_reduce.proofs.distinct.all_in.Given as goal

-- some rows came in, and there is room for the others
abbrev pub invariant-left : goal.invariant-left
invariant-left l = IsOn l.initial.rows l.rows l.fn.left.items (into_iter_items l.row-iterator) l.out.items
