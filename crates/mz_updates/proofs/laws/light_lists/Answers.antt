use Rattle.mz_updates.proofs.LightLists.{light_contents, light_sums}
use Rattle.mz_updates.proofs.laws.light_lists.Goals as goal

-- the contents are a part of the list
pub returns-clause-contents : goal.returns-clause-contents
returns-clause-contents c = light_contents

-- and so is what changes at a time
pub returns-clause-sums : goal.returns-clause-sums
returns-clause-sums c = light_sums
