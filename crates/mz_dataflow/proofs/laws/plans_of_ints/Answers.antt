use Rattle.mz_dataflow.proofs.PlanForms.{plans_of_ints}
use Rattle.mz_dataflow.proofs.laws.plans_of_ints.Goals as goal

pub returns : goal.returns
returns c = plans_of_ints
