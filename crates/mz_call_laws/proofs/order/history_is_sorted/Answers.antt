-- Each clause is a lemma.
use Rattle.mz_call_laws.proofs.Sorting.{history_permutes, history_rising, history_stable}
use Rattle.mz_call_laws.proofs.order.history_is_sorted.Goals as goal

pub returns-clause-all_calls : goal.returns-clause-all_calls
returns-clause-all_calls c = history_permutes

pub returns-clause-rises : goal.returns-clause-rises
returns-clause-rises c = history_rising

pub returns-clause-is_stable : goal.returns-clause-is_stable
returns-clause-is_stable c = history_stable
