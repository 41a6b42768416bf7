-- Nothing falls and nothing rises.
use Rattle.mz_rules.proofs.Leaves.{capability_leaves, creation_leaves}
use Rattle.mz_rules.proofs.laws.sinces_stay.Goals as goal

pub returns-clause-capability : goal.returns-clause-capability
returns-clause-capability c = capability_leaves

pub returns-clause-creation : goal.returns-clause-creation
returns-clause-creation c = creation_leaves
