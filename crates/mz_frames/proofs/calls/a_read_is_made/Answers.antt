-- Each clause is a lemma.
use Rattle.mz_frames.proofs.Submissions.{read_long, read_made, read_seen, read_waits}
use Rattle.mz_frames.proofs.calls.a_read_is_made.Goals as goal

pub returns-clause-calls_made : goal.returns-clause-calls_made
returns-clause-calls_made c = read_made

pub returns-clause-all_calls : goal.returns-clause-all_calls
returns-clause-all_calls c = read_long

pub returns-clause-outstanding : goal.returns-clause-outstanding
returns-clause-outstanding c = read_waits

pub returns-clause-seen : goal.returns-clause-seen
returns-clause-seen c = read_seen
