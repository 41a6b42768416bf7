-- Each clause is a lemma.
use Rattle.mz_frames.proofs.WaitingRows.{new_rows, newest_rows}
use Rattle.mz_frames.proofs.reads.a_new_peek_has_the_rows_of_its_plan.Goals as goal

pub returns-clause-at_its_time : goal.returns-clause-at_its_time
returns-clause-at_its_time c = new_rows

pub returns-clause-newest : goal.returns-clause-newest
returns-clause-newest c = newest_rows
