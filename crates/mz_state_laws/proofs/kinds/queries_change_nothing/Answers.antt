use Rattle.mz_state_laws.proofs.KindLaws.{others_stay}
use Rattle.mz_state_laws.proofs.NothingChanges.{read_still}
use Rattle.mz_state_laws.proofs.kinds.queries_change_nothing.Goals as goal

pub returns : goal.returns
returns c = record { query = read_still; others = others_stay }
