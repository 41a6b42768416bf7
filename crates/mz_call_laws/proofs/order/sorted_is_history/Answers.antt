-- The clause is a lemma.
use Rattle.mz_call_laws.proofs.Sorting.{sorted_only}
use Rattle.mz_call_laws.proofs.order.sorted_is_history.Goals as goal

pub returns : goal.returns
returns c = sorted_only
