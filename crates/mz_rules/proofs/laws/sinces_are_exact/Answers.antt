-- Each clause is a lemma: a newer collection is read by no older one.
use Rattle.mz_rules.proofs.Exact.{are_least, are_greatest, only_least}
use Rattle.mz_rules.proofs.laws.sinces_are_exact.Goals as goal

pub returns-clause-least : goal.returns-clause-least
returns-clause-least c = are_least

pub returns-clause-greatest : goal.returns-clause-greatest
returns-clause-greatest c = are_greatest

pub returns-clause-alone : goal.returns-clause-alone
returns-clause-alone c = only_least
