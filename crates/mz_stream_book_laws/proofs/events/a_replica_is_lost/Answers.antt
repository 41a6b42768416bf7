-- The clause is a lemma.
use Rattle.mz_stream_book_laws.proofs.Steps.{lost}
use Rattle.mz_stream_book_laws.proofs.events.a_replica_is_lost.Goals as goal

pub returns : goal.returns
returns c = lost
