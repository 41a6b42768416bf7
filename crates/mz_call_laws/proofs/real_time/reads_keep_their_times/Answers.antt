-- The clause is a lemma.
use Rattle.mz_call_laws.proofs.ReadTimes.{read_keeps}
use Rattle.mz_call_laws.proofs.real_time.reads_keep_their_times.Goals as goal

pub returns : goal.returns
returns c = read_keeps
