-- Each clause is a lemma.
use Rattle.mz_frames.proofs.WaitingRows.{all_rows_stay, each_rows_stay, pending_rows_stay}
use Rattle.mz_frames.proofs.reads.peeks_keep_their_rows.Goals as goal

pub returns-clause-any_later : goal.returns-clause-any_later
returns-clause-any_later c = pending_rows_stay

pub returns-clause-each : goal.returns-clause-each
returns-clause-each c = each_rows_stay

pub returns-clause-all : goal.returns-clause-all
returns-clause-all c = all_rows_stay
