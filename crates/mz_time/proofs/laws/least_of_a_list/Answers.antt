-- Each clause is a lemma: the least of a list, by induction on the list.
use Rattle.mz_time.proofs.FrontierLemmas.{Le-least, least-append}
use Rattle.mz_time.proofs.laws.least_of_a_list.Goals as goal

pub returns-clause-below_each : goal.returns-clause-below_each
returns-clause-below_each c = Le-least

pub returns-clause-of_two : goal.returns-clause-of_two
returns-clause-of_two c = least-append
