use Rattle.std.proofs.Common.{ap, ◌∙◌}
use Rattle.mz_reduce.specs.declared.distinct.Distinct.{Distinct}
use Rattle.mz_reduce.proofs.CountingLaws.{none_counts}
use Rattle.mz_reduce.proofs.distinct.DistinctOp.empty.Goals as goal

-- no row is counted yet
pub returns-clause-fresh : goal.returns-clause-fresh
returns-clause-fresh c = record {
  left = record { each = tt };
  right = record { each = tt };
  stand = none_counts c.fresh.result.core.rows (ap (λ (op : Distinct). op.rows) c.fresh.ensures.core ∙ c.empty.ensures);
}
