-- Each clause is a worked row.
use Rattle.mz_laws.proofs.examples.Rows.{stale, none_there, ticks, cancelled, spent, two_answer, late, short, dropped, as_of, holds, refusals, rejoined, other_incarnation, too_far}
use Rattle.mz_laws.proofs.examples.worked_examples.Goals as goal

pub returns-clause-stale : goal.returns-clause-stale
returns-clause-stale c = stale

pub returns-clause-none_there : goal.returns-clause-none_there
returns-clause-none_there c = none_there

pub returns-clause-ticks : goal.returns-clause-ticks
returns-clause-ticks c = ticks

pub returns-clause-cancelled : goal.returns-clause-cancelled
returns-clause-cancelled c = cancelled

pub returns-clause-spent : goal.returns-clause-spent
returns-clause-spent c = spent

pub returns-clause-two_answer : goal.returns-clause-two_answer
returns-clause-two_answer c = two_answer

pub returns-clause-late : goal.returns-clause-late
returns-clause-late c = late

pub returns-clause-short : goal.returns-clause-short
returns-clause-short c = short

pub returns-clause-dropped : goal.returns-clause-dropped
returns-clause-dropped c = dropped

pub returns-clause-as_of : goal.returns-clause-as_of
returns-clause-as_of c = as_of

pub returns-clause-holds : goal.returns-clause-holds
returns-clause-holds c = holds

pub returns-clause-refusals : goal.returns-clause-refusals
returns-clause-refusals c = refusals

pub returns-clause-rejoined : goal.returns-clause-rejoined
returns-clause-rejoined c = rejoined

pub returns-clause-other_incarnation : goal.returns-clause-other_incarnation
returns-clause-other_incarnation c = other_incarnation

pub returns-clause-too_far : goal.returns-clause-too_far
returns-clause-too_far c = too_far
