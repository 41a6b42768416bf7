use Rattle.mz_bag.proofs.BagLaws.{same_counts}
use Rattle.mz_bag.proofs.laws.same_counts.Goals as goal

-- a map is told by what it has at each row
pub returns : goal.returns
returns c = same_counts
