-- Each clause is a lemma.
use Rattle.mz_stream_book_laws.proofs.Steps.{is_reported, lost_reported, older_reported}
use Rattle.mz_stream_book_laws.proofs.events.a_packet_is_absorbed.Goals as goal

pub returns-clause-live : goal.returns-clause-live
returns-clause-live c = is_reported

pub returns-clause-older : goal.returns-clause-older
returns-clause-older c = older_reported

pub returns-clause-lost : goal.returns-clause-lost
returns-clause-lost c = lost_reported
