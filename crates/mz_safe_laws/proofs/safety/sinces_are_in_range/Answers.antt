-- Each clause is a part of what is safe.
use Rattle.mz_safe_laws.proofs.SafeParts.{from_as_of, readable, readers_stand, uppers}
use Rattle.mz_safe_laws.proofs.safety.sinces_are_in_range.Goals as goal

pub returns-clause-readers : goal.returns-clause-readers
returns-clause-readers c = readers_stand

pub returns-clause-low : goal.returns-clause-low
returns-clause-low c = from_as_of

pub returns-clause-high : goal.returns-clause-high
returns-clause-high c = readable

pub returns-clause-uppers : goal.returns-clause-uppers
returns-clause-uppers c = uppers
