-- Each clause is a lemma: the order of frontiers is total.
use Rattle.mz_time.proofs.FrontierLemmas.{Le-refl, Le-trans, Le-antisym, Le-total, Le-Done, Le-derived}
use Rattle.mz_time.proofs.laws.total_order.Goals as goal

pub returns-clause-reflexive : goal.returns-clause-reflexive
returns-clause-reflexive c = Le-refl

pub returns-clause-transitive : goal.returns-clause-transitive
returns-clause-transitive c = Le-trans

pub returns-clause-antisymmetric : goal.returns-clause-antisymmetric
returns-clause-antisymmetric c = Le-antisym

pub returns-clause-total : goal.returns-clause-total
returns-clause-total c = Le-total

pub returns-clause-last : goal.returns-clause-last
returns-clause-last c = Le-Done

pub returns-clause-derived : goal.returns-clause-derived
returns-clause-derived c = Le-derived
