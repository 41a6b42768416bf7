use Rattle.std.proofs.Common.{ap, ◌∙◌}
use Rattle.mz_bag.specs.Weighted.{bag_of}
use Rattle.mz_dataflow.specs.Flow.{contents_of}
use Rattle.mz_dataflow.proofs.PlanForms.{plans_of_ints}
use Rattle.mz_dataflow.proofs.laws.outputs_are_plans.Goals as goal

pub returns : goal.returns
returns c = λ plan flow us t s since ints. s.stands.rows t since ∙ ap bag_of (plans_of_ints (contents_of t us) plan ints)
