-- The law is a lemma.
use Rattle.mz_complete_laws.proofs.Emptied.{round_empties}
use Rattle.mz_complete_laws.proofs.settling.rounds_at_once_empty_the_queue.Goals as goal

pub returns : goal.returns
returns c = round_empties
