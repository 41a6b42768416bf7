use Rattle.mz_plan_laws.proofs.LeafLaws.{meaning_renamed, leaves_renamed}
use Rattle.mz_plan_laws.proofs.RenamedTypes.{types_renamed, formed_renamed}
use Rattle.mz_plan_laws.proofs.leaves.renamed_plans.Goals as goal

-- only leaves are renamed
pub returns-clause-meaning : goal.returns-clause-meaning
returns-clause-meaning c = meaning_renamed

-- each in its place
pub returns-clause-leaves : goal.returns-clause-leaves
returns-clause-leaves c = leaves_renamed

-- an operator has the types that it has over the same types
pub returns-clause-types : goal.returns-clause-types
returns-clause-types c = types_renamed

-- and fits the same
pub returns-clause-formed : goal.returns-clause-formed
returns-clause-formed c = formed_renamed
