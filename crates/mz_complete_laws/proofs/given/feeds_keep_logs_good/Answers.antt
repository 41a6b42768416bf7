-- Each clause is a lemma.
use Rattle.mz_complete_laws.proofs.GivenFeeds.{feed_good}
use Rattle.mz_complete_laws.proofs.GivenReplicas.{absorb_good}
use Rattle.mz_complete_laws.proofs.given.feeds_keep_logs_good.Goals as goal

pub returns-clause-feed : goal.returns-clause-feed
returns-clause-feed c = feed_good

pub returns-clause-absorbed : goal.returns-clause-absorbed
returns-clause-absorbed c = absorb_good
