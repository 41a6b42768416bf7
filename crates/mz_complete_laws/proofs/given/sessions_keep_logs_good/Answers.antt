-- Each clause is a lemma.
use Rattle.mz_complete_laws.proofs.GivenGood.{cancelling_good, closing_good, opening_good, submission_good}
use Rattle.mz_complete_laws.proofs.given.sessions_keep_logs_good.Goals as goal

pub returns-clause-opening : goal.returns-clause-opening
returns-clause-opening c = opening_good

pub returns-clause-submission : goal.returns-clause-submission
returns-clause-submission c = submission_good

pub returns-clause-cancelling : goal.returns-clause-cancelling
returns-clause-cancelling c = cancelling_good

pub returns-clause-closing : goal.returns-clause-closing
returns-clause-closing c = closing_good
