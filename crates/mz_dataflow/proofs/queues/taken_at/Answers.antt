use Rattle.std.proofs.Common.{refl}
use Rattle.mz_dataflow.proofs.queues.taken_at.Goals as goal

-- the leaf stays
pub returns : goal.returns
returns c = record { number = refl; same = refl; run = c.in_ok-rows.ensures }
