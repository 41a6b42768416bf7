use Rattle.std.proofs.Common.{drop}
use Rattle.mz_bag.specs.Weighted.{each_once}
use Rattle.mz_seq.proofs.Making.{Makes}
use Rattle.mz_seq.proofs.change.bag_of_rows.Given as goal

-- the rows so far, with those to come, make the bag
abbrev pub invariant-rows : goal.invariant-rows
invariant-rows l = Makes l.bag (each_once (drop l.row-index l.rows)) (each_once l.rows)
