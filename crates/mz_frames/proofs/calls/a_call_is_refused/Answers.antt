-- Each clause is a lemma.
use Rattle.mz_frames.proofs.Refusals.{refused_calls, refused_long, refused_made, refused_queue, refused_seen, refused_waits}
use Rattle.mz_frames.proofs.calls.a_call_is_refused.Goals as goal

pub returns-clause-calls : goal.returns-clause-calls
returns-clause-calls c = refused_calls

pub returns-clause-calls_made : goal.returns-clause-calls_made
returns-clause-calls_made c = refused_made

pub returns-clause-all_calls : goal.returns-clause-all_calls
returns-clause-all_calls c = refused_long

pub returns-clause-outstanding : goal.returns-clause-outstanding
returns-clause-outstanding c = refused_waits

pub returns-clause-seen : goal.returns-clause-seen
returns-clause-seen c = refused_seen

pub returns-clause-queued : goal.returns-clause-queued
returns-clause-queued c = refused_queue
