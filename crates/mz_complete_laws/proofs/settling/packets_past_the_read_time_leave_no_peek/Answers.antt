-- The law is a lemma.
use Rattle.mz_complete_laws.proofs.Emptied.{packet_empties}
use Rattle.mz_complete_laws.proofs.settling.packets_past_the_read_time_leave_no_peek.Goals as goal

pub returns : goal.returns
returns c = packet_empties
