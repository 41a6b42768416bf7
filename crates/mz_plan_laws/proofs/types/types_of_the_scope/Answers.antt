use Rattle.mz_plan_laws.proofs.ScopeTypes.{types_in_scope, formed_in_scope}
use Rattle.mz_plan_laws.proofs.types.types_of_the_scope.Goals as goal

-- a column has a type, and is found at the same place
pub returns-clause-types : goal.returns-clause-types
returns-clause-types c = types_in_scope

-- so the same fits
pub returns-clause-formed : goal.returns-clause-formed
returns-clause-formed c = formed_in_scope
