-- By induction on the collections that were there.
use Rattle.mz_rules.proofs.Leaves.{more_lower_sinces}
use Rattle.mz_rules.proofs.laws.more_raises_no_since.Goals as goal

pub returns : goal.returns
returns c = more_lower_sinces
