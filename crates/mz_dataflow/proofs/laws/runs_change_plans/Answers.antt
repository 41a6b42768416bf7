use Rattle.mz_dataflow.proofs.PlanRuns.{bears_still, puts_still, run_changes}
use Rattle.mz_dataflow.proofs.laws.runs_change_plans.Goals as goal

pub returns-clause-change : goal.returns-clause-change
returns-clause-change c = run_changes

pub returns-clause-puts : goal.returns-clause-puts
returns-clause-puts c = puts_still

pub returns-clause-bears : goal.returns-clause-bears
returns-clause-bears c = bears_still
