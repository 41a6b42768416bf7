-- Each clause is a lemma on what a session is answered.
use Rattle.mz_kept_laws.proofs.Answering.{busy_did, crowded_did}
use Rattle.mz_kept_laws.proofs.calls.some_calls_are_not_made.Goals as goal

pub returns-clause-busy : goal.returns-clause-busy
returns-clause-busy c = busy_did

pub returns-clause-crowded : goal.returns-clause-crowded
returns-clause-crowded c = crowded_did
