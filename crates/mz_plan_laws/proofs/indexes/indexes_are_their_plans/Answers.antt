use Rattle.mz_plan_laws.proofs.IndexLaws.{index_is, rows_stay, meaning_stays}
use Rattle.mz_plan_laws.proofs.indexes.indexes_are_their_plans.Goals as goal

-- its plan names older ones alone
pub returns-clause-rows : goal.returns-clause-rows
returns-clause-rows c = index_is

-- a newer one has another number
pub returns-clause-newer : goal.returns-clause-newer
returns-clause-newer c = rows_stay

-- so no leaf is changed
pub returns-clause-plans : goal.returns-clause-plans
returns-clause-plans c = meaning_stays
