use Rattle.mz_dataflow.proofs.Starts.{begun, caught_up}
use Rattle.mz_dataflow.proofs.laws.starts.Goals as goal

pub returns-clause-behind : goal.returns-clause-behind
returns-clause-behind c = caught_up

pub returns-clause-new : goal.returns-clause-new
returns-clause-new c = begun
