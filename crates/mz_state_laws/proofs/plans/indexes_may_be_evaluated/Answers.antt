use Rattle.mz_state_laws.proofs.Evaluable.{index_evaluable}
use Rattle.mz_state_laws.proofs.plans.indexes_may_be_evaluated.Goals as goal

pub returns : goal.returns
returns c state well number = index_evaluable state well number
