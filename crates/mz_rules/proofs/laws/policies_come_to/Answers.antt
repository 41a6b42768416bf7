-- Each clause is a lemma, by arithmetic.
use Rattle.mz_rules.proofs.Policies.{comes_lag, comes_from, comes_stay}
use Rattle.mz_rules.proofs.laws.policies_come_to.Goals as goal

pub returns-clause-lag : goal.returns-clause-lag
returns-clause-lag c = comes_lag

pub returns-clause-from : goal.returns-clause-from
returns-clause-from c = comes_from

pub returns-clause-stay : goal.returns-clause-stay
returns-clause-stay c = comes_stay
