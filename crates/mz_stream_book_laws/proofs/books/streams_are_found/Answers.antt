-- Each clause is a lemma.
use Rattle.std.proofs.Common.{ap, ◌∙◌}
use Rattle.mz_history.specs.StreamBook.{kept_of, lines_of}
use Rattle.mz_books.specs.Streams.{live_stream, streams}
use Rattle.mz_stream_book_laws.specs.StreamBookOf.{kept_where}
use Rattle.mz_stream_book_laws.proofs.Live.{found_live, lines_where}
use Rattle.mz_stream_book_laws.proofs.books.streams_are_found.Goals as goal

pub returns-clause-found : goal.returns-clause-found
returns-clause-found c = λ log replica. found_live replica (streams log)

pub returns-clause-lines : goal.returns-clause-lines
returns-clause-lines c = λ log replica. ap lines_of (found_live replica (streams log)) ∙ lines_where (live_stream log replica)

pub returns-clause-kept : goal.returns-clause-kept
returns-clause-kept c = λ log replica own e. ap kept_of (found_live replica (streams log)) ∙ ap (λ s. kept_of (kept_where s)) e
