-- Each clause is a lemma.
use Rattle.mz_complete_laws.proofs.GivenFeeds.{downgrade_good, release_good}
use Rattle.mz_complete_laws.proofs.GivenHolds.{acquire_good}
use Rattle.mz_complete_laws.proofs.given.holds_keep_logs_good.Goals as goal

pub returns-clause-acquire : goal.returns-clause-acquire
returns-clause-acquire c = acquire_good

pub returns-clause-downgrade : goal.returns-clause-downgrade
returns-clause-downgrade c = downgrade_good

pub returns-clause-release : goal.returns-clause-release
returns-clause-release c = release_good
