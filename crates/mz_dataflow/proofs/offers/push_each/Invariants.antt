use Rattle.std.proofs.Common.{◌≡◌, ◌++◌, length, take}
use Rattle.std.specs.Vec.Iter.{into_iter_items}
use Rattle.mz_dataflow.proofs.offers.push_each.Given as goal

-- the updates so far, and those to come, are all; and what there was stands at the front
abbrev pub invariant-more : goal.invariant-more
invariant-more l = record {
  all : l.updates ++ into_iter_items l.row-iterator ≡ l.initial.updates ++ l.fn.more;
  kept : take (length l.initial.updates) l.updates ≡ l.initial.updates;
}
