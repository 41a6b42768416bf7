use Rattle.mz_dataflow.proofs.RunBounds.{of_few}
use Rattle.mz_dataflow.proofs.laws.runs_of_few_updates.Goals as goal

pub returns : goal.returns
returns c = of_few
