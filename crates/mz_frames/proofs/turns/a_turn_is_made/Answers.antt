-- Each clause is a lemma.
use Rattle.mz_frames.proofs.Turning.{turn_pending, turn_waits}
use Rattle.mz_frames.proofs.turns.a_turn_is_made.Goals as goal

pub returns-clause-pending : goal.returns-clause-pending
returns-clause-pending c = turn_pending

pub returns-clause-outstanding : goal.returns-clause-outstanding
returns-clause-outstanding c = turn_waits
