-- By induction on the collections.
use Rattle.mz_rules.proofs.Held.{sinces_within}
use Rattle.mz_rules.proofs.laws.sinces_stay_within.Goals as goal

pub returns : goal.returns
returns c = sinces_within
