use Rattle.mz_state_laws.proofs.ChangesFit.{after_both, rows_come, seq_leads}
use Rattle.mz_state_laws.proofs.changes.changes_lead_on.Goals as goal

pub returns : goal.returns
returns c = record { statement = seq_leads; both = after_both; rows = rows_come }
