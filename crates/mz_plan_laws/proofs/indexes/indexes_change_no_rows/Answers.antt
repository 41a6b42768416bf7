use Rattle.mz_plan_laws.proofs.IndexLaws.{meaning_expanded, plan_expanded}
use Rattle.mz_plan_laws.proofs.indexes.indexes_change_no_rows.Goals as goal

-- older indexes first
pub returns-clause-tables : goal.returns-clause-tables
returns-clause-tables c = plan_expanded

-- a leaf gives its rows, and so does a plan in its place
pub returns-clause-plans : goal.returns-clause-plans
returns-clause-plans c = meaning_expanded
