-- Each clause is a lemma: what passes a time.
use Rattle.mz_time.proofs.FrontierLemmas.{Passes-not_Le, Passes-Le}
use Rattle.mz_time.proofs.laws.passing.Goals as goal

pub returns-clause-not_at_or_before : goal.returns-clause-not_at_or_before
returns-clause-not_at_or_before c = Passes-not_Le

pub returns-clause-stays : goal.returns-clause-stays
returns-clause-stays c = Passes-Le
