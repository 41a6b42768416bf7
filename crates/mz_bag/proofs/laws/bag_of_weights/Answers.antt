use Rattle.mz_bag.proofs.BagLaws.{count_in-bag_of, IsBag-bag_of}
use Rattle.mz_bag.proofs.laws.bag_of_weights.Goals as goal

-- each weight adds to its row's count alone
pub returns-clause-counts : goal.returns-clause-counts
returns-clause-counts c = count_in-bag_of

-- and no step leaves a zero
pub returns-clause-no_zero : goal.returns-clause-no_zero
returns-clause-no_zero c = IsBag-bag_of
