use Rattle.mz_state_laws.proofs.ReadsOnly.{there_same, without_gone}
use Rattle.mz_state_laws.proofs.plans.dropped_tables_change_nothing.Goals as goal

pub returns : goal.returns
returns c = record { rows = there_same; bags = without_gone }
