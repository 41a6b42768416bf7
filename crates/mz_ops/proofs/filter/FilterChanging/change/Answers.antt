use Rattle.std.proofs.Common.{ap, ◌∙◌}
use Rattle.mz_plan.specs.Condition.{holds}
use Rattle.mz_plan.specs.Operators.{filtered}
use Rattle.mz_plan_laws.proofs.OperatorLaws.{filter_linear}
use Rattle.mz_ops.proofs.LinearLaws.{filter_within, linear_change}
use Rattle.mz_ops.proofs.filter.FilterChanging.change.Goals as goal

-- a filter adds up
pub returns-clause-law : goal.returns-clause-law
returns-clause-law c = linear_change (filtered (holds c.args.self.now.cond)) c.args.left c.args._right c.from_vec.result (filter_linear (holds c.args.self.now.cond))
    (c.from_vec.ensures ∙ c.keep.ensures ∙ ap (filtered (holds c.args.self.now.cond)) c.into_vec-rows.ensures)

-- and weighs no more
pub returns-clause-light : goal.returns-clause-light
returns-clause-light c = filter_within (holds c.args.self.now.cond) c.args.left c.args._right c.from_vec.result
    (c.from_vec.ensures ∙ c.keep.ensures ∙ ap (filtered (holds c.args.self.now.cond)) c.into_vec-rows.ensures)
