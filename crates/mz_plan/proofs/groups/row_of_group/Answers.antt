use Rattle.mz_plan.specs.declared.aggregate.Aggregate.TheVariants.{Count}
use Rattle.mz_plan.proofs.SumRules.{summable_at}
use Rattle.mz_plan.proofs.groups.row_of_group.Goals as goal

-- the sums of each aggregate are within the bound
pub aggregate_of-requires-clause-summable : goal.aggregate_of-requires-clause-summable
aggregate_of-requires-clause-summable c =
    summable_at c.args.group.now c.args.aggregates.now c.aggregates.aggregate-index Count c.aggregates-test.true c.requires.summable
