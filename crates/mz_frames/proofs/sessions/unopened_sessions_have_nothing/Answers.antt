-- Each clause is a lemma.
use Rattle.mz_frames.proofs.Unopened.{unopened_closed, unopened_made, unopened_seen, unopened_transaction, unopened_waits}
use Rattle.mz_frames.proofs.sessions.unopened_sessions_have_nothing.Goals as goal

pub returns-clause-calls_made : goal.returns-clause-calls_made
returns-clause-calls_made c = unopened_made

pub returns-clause-outstanding : goal.returns-clause-outstanding
returns-clause-outstanding c = unopened_waits

pub returns-clause-seen : goal.returns-clause-seen
returns-clause-seen c = unopened_seen

pub returns-clause-transaction : goal.returns-clause-transaction
returns-clause-transaction c = unopened_transaction

pub returns-clause-closed : goal.returns-clause-closed
returns-clause-closed c = unopened_closed
