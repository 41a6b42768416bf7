use Rattle.mz_plan_laws.proofs.LiteralTypes.{types_of_row, row_of_types}
use Rattle.mz_plan_laws.proofs.types.rows_of_literals.Goals as goal

-- value by value
pub returns-clause-types : goal.returns-clause-types
returns-clause-types c = types_of_row

-- an INT that is a literal has 32 bits
pub returns-clause-literals : goal.returns-clause-literals
returns-clause-literals c = row_of_types
