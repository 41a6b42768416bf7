-- Each clause is a lemma.
use Rattle.mz_stream_laws.proofs.Later.{may_absorb, same_answers}
use Rattle.mz_stream_laws.proofs.feeds.a_packet_may_be_absorbed_later.Goals as goal

pub returns-clause-absorbed : goal.returns-clause-absorbed
returns-clause-absorbed c = may_absorb

pub returns-clause-answers : goal.returns-clause-answers
returns-clause-answers c = same_answers
