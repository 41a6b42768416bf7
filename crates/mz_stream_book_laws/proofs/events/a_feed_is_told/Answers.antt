-- The clause is a lemma.
use Rattle.mz_stream_book_laws.proofs.Steps.{is_fed}
use Rattle.mz_stream_book_laws.proofs.events.a_feed_is_told.Goals as goal

pub returns : goal.returns
returns c = is_fed
