-- Each clause is a lemma.
use Rattle.mz_call_laws.proofs.Queue.{queue_is}
use Rattle.mz_call_laws.proofs.Rounds.{call_queued, queued_call}
use Rattle.mz_call_laws.proofs.waiting.queued_calls_wait.Goals as goal

pub returns-clause-queued : goal.returns-clause-queued
returns-clause-queued c = queue_is

pub returns-clause-is_call : goal.returns-clause-is_call
returns-clause-is_call c = queued_call

pub returns-clause-is_queued : goal.returns-clause-is_queued
returns-clause-is_queued c = call_queued
