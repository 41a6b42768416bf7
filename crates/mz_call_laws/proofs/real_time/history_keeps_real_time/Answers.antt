-- The clause is a lemma.
use Rattle.mz_call_laws.proofs.RealTimes.{real_time}
use Rattle.mz_call_laws.proofs.real_time.history_keeps_real_time.Goals as goal

pub returns : goal.returns
returns c = real_time
