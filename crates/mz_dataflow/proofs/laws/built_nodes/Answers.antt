use Rattle.mz_dataflow.proofs.PlanRuns.{built_bear, built_puts, built_stand}
use Rattle.mz_dataflow.proofs.laws.built_nodes.Goals as goal

pub returns-clause-puts : goal.returns-clause-puts
returns-clause-puts c = built_puts

pub returns-clause-bears : goal.returns-clause-bears
returns-clause-bears c = built_bear

pub returns-clause-stand : goal.returns-clause-stand
returns-clause-stand c = built_stand
