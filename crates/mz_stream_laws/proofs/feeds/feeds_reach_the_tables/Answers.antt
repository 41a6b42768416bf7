-- Each clause is a lemma.
use Rattle.mz_stream_laws.proofs.Later.{fed_far, fed_readable}
use Rattle.mz_stream_laws.proofs.feeds.feeds_reach_the_tables.Goals as goal

pub returns-clause-readable : goal.returns-clause-readable
returns-clause-readable c = fed_readable

pub returns-clause-reaches : goal.returns-clause-reaches
returns-clause-reaches c = fed_far
