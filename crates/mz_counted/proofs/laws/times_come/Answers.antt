-- Each clause is a lemma on times that come.
use Rattle.mz_counted.proofs.Falling.{falls_in_order}
use Rattle.mz_counted.proofs.Multiset.{counts_come, more_come, lesser_come, any_order, last_come}
use Rattle.mz_counted.proofs.laws.times_come.Goals as goal

pub returns-clause-counts : goal.returns-clause-counts
returns-clause-counts c = counts_come

pub returns-clause-more : goal.returns-clause-more
returns-clause-more c = more_come

pub returns-clause-lesser : goal.returns-clause-lesser
returns-clause-lesser c = lesser_come

pub returns-clause-any_order : goal.returns-clause-any_order
returns-clause-any_order c = any_order

pub returns-clause-last : goal.returns-clause-last
returns-clause-last c = last_come

pub returns-clause-falling : goal.returns-clause-falling
returns-clause-falling c = falls_in_order
