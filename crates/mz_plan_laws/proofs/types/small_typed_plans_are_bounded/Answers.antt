use Rattle.mz_plan_laws.proofs.RowTypes.{small_typed, small_typed_bounded}
use Rattle.mz_plan_laws.proofs.types.small_typed_plans_are_bounded.Goals as goal

-- SUM takes INTs by its plan
pub returns-clause-small : goal.returns-clause-small
returns-clause-small c = small_typed

-- and so it is bounded
pub returns-clause-bounded : goal.returns-clause-bounded
returns-clause-bounded c = small_typed_bounded
