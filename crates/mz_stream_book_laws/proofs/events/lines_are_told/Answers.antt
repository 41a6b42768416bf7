-- Each clause is a lemma.
use Rattle.mz_stream_book_laws.proofs.Steps.{are_told, are_told_alike}
use Rattle.mz_stream_book_laws.proofs.events.lines_are_told.Goals as goal

pub returns-clause-in_turn : goal.returns-clause-in_turn
returns-clause-in_turn c = are_told

pub returns-clause-alike : goal.returns-clause-alike
returns-clause-alike c = are_told_alike
