-- Each clause is a lemma.
use Rattle.mz_call_laws.proofs.OneWaits.{session_waits, waiting_last}
use Rattle.mz_call_laws.proofs.sessions.one_call_waits.Goals as goal

pub returns-clause-unreplied : goal.returns-clause-unreplied
returns-clause-unreplied c = session_waits

pub returns-clause-is_last : goal.returns-clause-is_last
returns-clause-is_last c = waiting_last
