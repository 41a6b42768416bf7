use Rattle.std.proofs.Common.{◌≡◌, ◌+◌}
use Rattle.mz_bag.specs.Mass.{mass}
use Rattle.mz_bag.specs.Weighted.{negated}
use Rattle.mz_plan.specs.Operators.{filtered}
use Rattle.mz_log.specs.CarriedOut.{meets}
use Rattle.mz_seq.proofs.Making.{Makes}
use Rattle.mz_seq.proofs.change.rows_met.Given as goal

-- the rows so far that meet the condition, with those to come, make the bag and the number
abbrev pub invariant-rows : goal.invariant-rows
invariant-rows l = record {
  makes : Makes l.gone (negated (filtered (meets l.cond) l.row-iterator)) (negated (filtered (meets l.cond) l.counts.entries));
  number : l.number + mass (filtered (meets l.cond) l.row-iterator) ≡ mass (filtered (meets l.cond) l.counts.entries);
}
