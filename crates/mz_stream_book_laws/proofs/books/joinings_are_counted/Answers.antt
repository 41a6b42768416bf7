-- Each clause is a lemma.
use Rattle.std.proofs.Common.{refl}
use Rattle.mz_books.specs.Streams.{streams}
use Rattle.mz_stream_book_laws.proofs.Joinings.{counted}
use Rattle.mz_stream_book_laws.proofs.books.joinings_are_counted.Goals as goal

pub returns-clause-times : goal.returns-clause-times
returns-clause-times c = λ log replica. counted replica (streams log)

pub returns-clause-opening : goal.returns-clause-opening
returns-clause-opening c = refl
