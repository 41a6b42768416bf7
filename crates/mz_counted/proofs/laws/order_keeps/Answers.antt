-- Each clause is a lemma on times in order.
use Rattle.mz_counted.proofs.Multiset.{counts_in_order, total_in_order, least_in_order}
use Rattle.mz_counted.proofs.laws.order_keeps.Goals as goal

pub returns-clause-counts : goal.returns-clause-counts
returns-clause-counts c = counts_in_order

pub returns-clause-total : goal.returns-clause-total
returns-clause-total c = total_in_order

pub returns-clause-least : goal.returns-clause-least
returns-clause-least c = least_in_order
