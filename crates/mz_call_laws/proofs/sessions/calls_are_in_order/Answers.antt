-- Each clause is a lemma.
use Rattle.mz_call_laws.proofs.SessionCalls.{session_history, session_numbers, session_times}
use Rattle.mz_call_laws.proofs.sessions.calls_are_in_order.Goals as goal

pub returns-clause-numbers : goal.returns-clause-numbers
returns-clause-numbers c = session_numbers

pub returns-clause-times : goal.returns-clause-times
returns-clause-times c = session_times

pub returns-clause-history : goal.returns-clause-history
returns-clause-history c = session_history
