-- The clause is a lemma.
use Rattle.mz_stream_book_laws.proofs.Steps.{joins}
use Rattle.mz_stream_book_laws.proofs.events.a_replica_joins.Goals as goal

pub returns : goal.returns
returns c = joins
