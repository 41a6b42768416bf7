-- Each clause is a lemma.
use Rattle.mz_call_laws.proofs.Times.{open_ahead, read_rises, read_within, round_later}
use Rattle.mz_call_laws.proofs.progress.read_time_rises.Goals as goal

pub returns-clause-never_falls : goal.returns-clause-never_falls
returns-clause-never_falls c = read_rises

pub returns-clause-never_ahead : goal.returns-clause-never_ahead
returns-clause-never_ahead c = read_within

pub returns-clause-open : goal.returns-clause-open
returns-clause-open c = open_ahead

pub returns-clause-applied : goal.returns-clause-applied
returns-clause-applied c = round_later
