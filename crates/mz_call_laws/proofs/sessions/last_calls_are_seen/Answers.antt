-- Each clause is a lemma.
use Rattle.mz_call_laws.proofs.SessionCalls.{seen_last, seen_readable}
use Rattle.mz_call_laws.proofs.sessions.last_calls_are_seen.Goals as goal

pub returns-clause-last : goal.returns-clause-last
returns-clause-last c = seen_last

pub returns-clause-readable : goal.returns-clause-readable
returns-clause-readable c = seen_readable
