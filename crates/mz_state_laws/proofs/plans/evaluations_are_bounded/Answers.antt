use Rattle.mz_state_laws.proofs.Evaluable.{bounded_in, means_rows, query_bounded_in}
use Rattle.mz_state_laws.proofs.plans.evaluations_are_bounded.Goals as goal

pub returns : goal.returns
returns c = record { plan = bounded_in; query = query_bounded_in; rows = means_rows }
