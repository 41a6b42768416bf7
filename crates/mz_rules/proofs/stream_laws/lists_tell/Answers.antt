-- Each clause is a lemma, by induction on the lines.
use Rattle.mz_rules.proofs.Named.{dropped_done}
use Rattle.mz_rules.proofs.Told.{told_append, told_unnamed, named_append}
use Rattle.mz_rules.proofs.stream_laws.lists_tell.Goals as goal

pub returns-clause-in_a_row : goal.returns-clause-in_a_row
returns-clause-in_a_row c = told_append

pub returns-clause-unnamed : goal.returns-clause-unnamed
returns-clause-unnamed c = told_unnamed

pub returns-clause-dropped : goal.returns-clause-dropped
returns-clause-dropped c = dropped_done

pub returns-clause-named_in_a_row : goal.returns-clause-named_in_a_row
returns-clause-named_in_a_row c = named_append
