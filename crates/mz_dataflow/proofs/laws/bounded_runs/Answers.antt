use Rattle.mz_dataflow.proofs.PlanRuns.{plan_runs}
use Rattle.mz_dataflow.proofs.laws.bounded_runs.Goals as goal

pub returns : goal.returns
returns c = plan_runs
