-- Each clause is a lemma.
use Rattle.mz_call_laws.proofs.PendingCalls.{call_pending, pending_call, pending_rises, pending_within}
use Rattle.mz_call_laws.proofs.WaitingReads.{pending_is}
use Rattle.mz_call_laws.proofs.waiting.pending_calls_wait.Goals as goal

pub returns-clause-pending : goal.returns-clause-pending
returns-clause-pending c = pending_is

pub returns-clause-is_call : goal.returns-clause-is_call
returns-clause-is_call c = pending_call

pub returns-clause-is_pending : goal.returns-clause-is_pending
returns-clause-is_pending c = call_pending

pub returns-clause-rises : goal.returns-clause-rises
returns-clause-rises c = pending_rises

pub returns-clause-within : goal.returns-clause-within
returns-clause-within c = pending_within
