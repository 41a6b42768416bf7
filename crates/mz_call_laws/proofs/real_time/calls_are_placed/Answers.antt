-- Each clause is a lemma.
use Rattle.mz_call_laws.proofs.RealTimes.{instant_placed, placed_stays, read_placed, round_placed}
use Rattle.mz_call_laws.proofs.real_time.calls_are_placed.Goals as goal

pub returns-clause-commands : goal.returns-clause-commands
returns-clause-commands c = round_placed

pub returns-clause-reads : goal.returns-clause-reads
returns-clause-reads c = read_placed

pub returns-clause-instants : goal.returns-clause-instants
returns-clause-instants c = instant_placed

pub returns-clause-stays : goal.returns-clause-stays
returns-clause-stays c = placed_stays
