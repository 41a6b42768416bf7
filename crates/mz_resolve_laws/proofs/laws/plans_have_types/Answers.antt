use Rattle.mz_resolve_laws.proofs.OverTypes.{asks_over, indexes_over, relation_over}
use Rattle.mz_resolve_laws.proofs.laws.plans_have_types.Goals as goal

pub returns : goal.returns
returns c = record { relation = relation_over; query = asks_over; index = indexes_over }
