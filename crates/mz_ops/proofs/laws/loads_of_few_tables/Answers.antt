use Rattle.std.proofs.Common.{le_trans, arith}
use Rattle.mz_plan_laws.proofs.JoinLoads.{join_load}
use Rattle.mz_ops.specs.Laws.{product_loads, sum_loads}
use Rattle.mz_ops.proofs.laws.loads_of_few_tables.Goals as goal

pub returns-clause-joins : goal.returns-clause-joins
returns-clause-joins c = join_load

-- a sum is no greater than the product
pub returns-clause-others : goal.returns-clause-others
returns-clause-others c first second left right m n few less fewer =
    le_trans (product_loads.covers 0 0 m n) (join_load first second 0 0 m n few (omega arith) (omega arith) less fewer)

pub returns-clause-loads : goal.returns-clause-loads
returns-clause-loads c = (product_loads, sum_loads)
