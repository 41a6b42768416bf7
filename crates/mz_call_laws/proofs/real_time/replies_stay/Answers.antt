-- The clause is a lemma.
use Rattle.mz_call_laws.proofs.Placed.{reply_stays}
use Rattle.mz_call_laws.proofs.real_time.replies_stay.Goals as goal

pub returns : goal.returns
returns c = reply_stays
