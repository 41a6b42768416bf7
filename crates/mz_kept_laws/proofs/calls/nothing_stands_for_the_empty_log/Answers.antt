-- Each part of it is by its own words.
use Rattle.mz_kept_laws.proofs.Starting.{nothing_stands}
use Rattle.mz_kept_laws.proofs.calls.nothing_stands_for_the_empty_log.Goals as goal

pub returns : goal.returns
returns c = nothing_stands
