use Rattle.std.proofs.Common.{◌∙◌}
use Rattle.mz_plan.specs.Operators.{projected}
use Rattle.mz_plan_laws.proofs.OperatorLaws.{projection_linear}
use Rattle.mz_ops.proofs.LinearLaws.{linear_change, projection_within}
use Rattle.mz_ops.proofs.project.ProjectChanging.change.Goals as goal

-- a projection adds up
pub returns-clause-law : goal.returns-clause-law
returns-clause-law c = linear_change (projected c.args.self.now.places) c.args.left c.args._right c.from_vec.result (projection_linear c.args.self.now.places)
    (c.from_vec.ensures ∙ c.in_ok-rows.ensures ∙ (λ i. projected (c.as_slice.ensures i) (c.into_vec.ensures i)))

-- and weighs as much
pub returns-clause-light : goal.returns-clause-light
returns-clause-light c = projection_within c.args.self.now.places c.args.left c.args._right c.from_vec.result
    (c.from_vec.ensures ∙ c.in_ok-rows.ensures ∙ (λ i. projected (c.as_slice.ensures i) (c.into_vec.ensures i)))
