use Rattle.mz_resolve_laws.proofs.StatementTypes.{deletes_well, inserts_well}
use Rattle.mz_resolve_laws.proofs.laws.changes_fit_their_tables.Goals as goal

pub returns : goal.returns
returns c = record { insert = inserts_well; delete = deletes_well }
