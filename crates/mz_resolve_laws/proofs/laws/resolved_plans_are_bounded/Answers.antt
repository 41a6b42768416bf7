use Rattle.mz_resolve_laws.proofs.OverBounds.{asks_bounded, indexes_bounded}
use Rattle.mz_resolve_laws.proofs.laws.resolved_plans_are_bounded.Goals as goal

pub returns : goal.returns
returns c = record { query = asks_bounded; index = indexes_bounded }
