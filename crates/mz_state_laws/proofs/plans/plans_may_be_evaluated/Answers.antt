use Rattle.mz_state_laws.proofs.Evaluable.{new_index_evaluable, query_evaluable}
use Rattle.mz_state_laws.proofs.plans.plans_may_be_evaluated.Goals as goal

pub returns : goal.returns
returns c = record { query = query_evaluable; index = new_index_evaluable }
