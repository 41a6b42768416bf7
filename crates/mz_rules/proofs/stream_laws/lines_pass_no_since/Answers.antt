-- Each clause is a lemma, by induction on the lines or on what they are made from.
use Rattle.mz_rules.proofs.Said.{told_within, said_later, joining_said, creations_said, allowances_said, reduced_said}
use Rattle.mz_rules.proofs.stream_laws.lines_pass_no_since.Goals as goal

pub returns-clause-tells : goal.returns-clause-tells
returns-clause-tells c = told_within

pub returns-clause-later : goal.returns-clause-later
returns-clause-later c = said_later

pub returns-clause-joins : goal.returns-clause-joins
returns-clause-joins c = joining_said

pub returns-clause-creates : goal.returns-clause-creates
returns-clause-creates c = creations_said

pub returns-clause-allows : goal.returns-clause-allows
returns-clause-allows c = allowances_said

pub returns-clause-reduces : goal.returns-clause-reduces
returns-clause-reduces c = reduced_said
