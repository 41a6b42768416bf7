use Rattle.mz_bag.proofs.BagLaws.{count_in-sum_of, count_in-negation_of}
use Rattle.mz_bag.proofs.laws.sums_and_negations.Goals as goal

-- the entries of both bags count as the bags do
pub returns-clause-sum : goal.returns-clause-sum
returns-clause-sum c = count_in-sum_of

-- and so do the negative entries
pub returns-clause-negation : goal.returns-clause-negation
returns-clause-negation c = count_in-negation_of
