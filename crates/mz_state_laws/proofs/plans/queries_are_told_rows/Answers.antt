use Rattle.mz_state_laws.proofs.ToldRows.{relation_rows, tells_rows}
use Rattle.mz_state_laws.proofs.plans.queries_are_told_rows.Goals as goal

pub returns : goal.returns
returns c = record { rows = tells_rows; types = relation_rows }
