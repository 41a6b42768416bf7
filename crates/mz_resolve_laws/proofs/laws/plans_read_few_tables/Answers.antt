use Rattle.mz_resolve_laws.proofs.FewStatements.{asks_few, indexes_few, relation_narrow}
use Rattle.mz_resolve_laws.proofs.laws.plans_read_few_tables.Goals as goal

pub returns : goal.returns
returns c = record { relation = relation_narrow; query = asks_few; index = indexes_few }
