-- The calls of each time make the sorted list.
use Rattle.mz_journal.proofs.Sorting.{sorted_only}
use Rattle.mz_journal.proofs.laws.sorted_is_history.Goals as goal

pub returns : goal.returns
returns c = sorted_only
