-- Each clause is a lemma.
use Rattle.mz_complete_laws.proofs.GivenGood.{begin_good, finish_good}
use Rattle.mz_complete_laws.proofs.given.rounds_keep_logs_good.Goals as goal

pub returns-clause-begun : goal.returns-clause-begun
returns-clause-begun c = begin_good

pub returns-clause-finished : goal.returns-clause-finished
returns-clause-finished c = finish_good
