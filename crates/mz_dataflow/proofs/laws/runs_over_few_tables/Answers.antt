use Rattle.mz_dataflow.proofs.RunBounds.{over_few}
use Rattle.mz_dataflow.proofs.laws.runs_over_few_tables.Goals as goal

pub returns : goal.returns
returns c = over_few
