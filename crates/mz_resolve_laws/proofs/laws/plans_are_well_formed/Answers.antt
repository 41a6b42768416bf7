use Rattle.mz_resolve_laws.proofs.NameTypes.{query_typed}
use Rattle.mz_resolve_laws.proofs.StatementTypes.{asks_well, indexes_well}
use Rattle.mz_resolve_laws.proofs.laws.plans_are_well_formed.Goals as goal

pub returns : goal.returns
returns c = record { relation = query_typed; query = asks_well; index = indexes_well }
