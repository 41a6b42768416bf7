use Rattle.std.specs.Vec.Iter.{into_iter_items}
use Rattle.mz_dataflow.proofs.AddingLaws.{IsAdding}
use Rattle.mz_dataflow.proofs.adding.bag_of.Given as goal

-- the rows so far were added up
abbrev pub invariant-rows : goal.invariant-rows
invariant-rows l = IsAdding l.bag l.fn.rows.items (into_iter_items l.row-iterator)
