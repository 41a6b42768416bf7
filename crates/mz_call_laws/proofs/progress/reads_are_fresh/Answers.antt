-- Each clause is a lemma.
use Rattle.mz_call_laws.proofs.Fresh.{read_behind_calls, read_fresh, read_newest}
use Rattle.mz_call_laws.proofs.progress.reads_are_fresh.Goals as goal

pub returns-clause-newest : goal.returns-clause-newest
returns-clause-newest c = read_newest

pub returns-clause-fresh : goal.returns-clause-fresh
returns-clause-fresh c = read_fresh

pub returns-clause-behind_calls : goal.returns-clause-behind_calls
returns-clause-behind_calls c = read_behind_calls
