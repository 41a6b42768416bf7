-- The clause is a lemma.
use Rattle.mz_call_laws.proofs.Precedes.{precedes}
use Rattle.mz_call_laws.proofs.sessions.calls_follow_one_another.Goals as goal

pub returns : goal.returns
returns c = precedes
