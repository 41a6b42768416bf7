use Rattle.mz_plan_laws.proofs.LiteralTypes.{rows_long}
use Rattle.mz_plan_laws.proofs.RowTypes.{rows_typed, indexes_typed}
use Rattle.mz_plan_laws.proofs.types.rows_have_types.Goals as goal

-- each operator moves values, or adds WIDEs
pub returns-clause-plans : goal.returns-clause-plans
returns-clause-plans c = rows_typed

-- an index is a plan over older ones
pub returns-clause-indexes : goal.returns-clause-indexes
returns-clause-indexes c tables some typed plans formed = record { each = indexes_typed tables some typed plans formed }

-- as many values as types
pub returns-clause-lengths : goal.returns-clause-lengths
returns-clause-lengths c = rows_long
