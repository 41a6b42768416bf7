-- Each clause is a lemma.
use Rattle.mz_stream_laws.proofs.TrueRows.{true_absorbed, true_peeks, true_rows}
use Rattle.mz_stream_laws.proofs.packets.true_packets_have_the_rows_that_peeks_wait_for.Goals as goal

pub returns-clause-absorbed : goal.returns-clause-absorbed
returns-clause-absorbed c = true_absorbed

pub returns-clause-peeks : goal.returns-clause-peeks
returns-clause-peeks c = true_peeks

pub returns-clause-rows : goal.returns-clause-rows
returns-clause-rows c = true_rows
