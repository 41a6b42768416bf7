use Rattle.mz_dataflow.proofs.PlanLoads.{plan_bears}
use Rattle.mz_dataflow.proofs.laws.loads_of_few_tables.Goals as goal

pub returns : goal.returns
returns c = plan_bears
