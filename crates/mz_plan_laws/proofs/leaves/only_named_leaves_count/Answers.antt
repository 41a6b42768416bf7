use Rattle.mz_plan_laws.proofs.LeafLaws.{named_alike, named_same, listed_alike, listed_below}
use Rattle.mz_plan_laws.proofs.leaves.only_named_leaves_count.Goals as goal

-- each operator reads counts
pub returns-clause-alike : goal.returns-clause-alike
returns-clause-alike c = named_alike

-- and lists
pub returns-clause-same : goal.returns-clause-same
returns-clause-same c = named_same

-- a leaf that is named is listed
pub returns-clause-listed : goal.returns-clause-listed
returns-clause-listed c = listed_alike

-- and one that is listed is named
pub returns-clause-below : goal.returns-clause-below
returns-clause-below c = listed_below
