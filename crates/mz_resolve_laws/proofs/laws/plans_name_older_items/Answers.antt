use Rattle.mz_resolve_laws.proofs.ScopeStatements.{asks_below, indexes_below}
use Rattle.mz_resolve_laws.proofs.laws.plans_name_older_items.Goals as goal

pub returns : goal.returns
returns c = record { query = asks_below; index = indexes_below }
