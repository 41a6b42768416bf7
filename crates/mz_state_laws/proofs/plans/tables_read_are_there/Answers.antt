use Rattle.mz_state_laws.proofs.ReadsThere.{index_there, new_index_there, query_there}
use Rattle.mz_state_laws.proofs.plans.tables_read_are_there.Goals as goal

pub returns : goal.returns
returns c = record { query = query_there; index = new_index_there; made = index_there }
