use Rattle.std.proofs.Common.{◌∙◌}
use Rattle.std.proofs.lemmas.Result.{IfOk-weaker}
use Rattle.mz_plan.proofs.OverRules.{renamed_none}
use Rattle.mz_plan.proofs.plan.Plan.try_copy.Goals as goal

-- with no names the plan stays
pub returns : goal.returns
returns c = IfOk-weaker c.renamed.result _ _ (λ copy is. is ∙ renamed_none c.args.self.now) c.renamed.ensures
