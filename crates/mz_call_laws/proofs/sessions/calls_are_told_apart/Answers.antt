-- Each clause is a lemma.
use Rattle.mz_call_laws.proofs.Precedes.{one_number, one_peek, one_waits}
use Rattle.mz_call_laws.proofs.sessions.calls_are_told_apart.Goals as goal

pub returns-clause-by_number : goal.returns-clause-by_number
returns-clause-by_number c = one_number

pub returns-clause-by_peek : goal.returns-clause-by_peek
returns-clause-by_peek c = one_peek

pub returns-clause-by_waiting : goal.returns-clause-by_waiting
returns-clause-by_waiting c = one_waits
