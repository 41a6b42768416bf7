-- Each clause is a lemma, by induction on the settled collections.
use Rattle.mz_rules.proofs.Joining.{joining_tells, joining_reduced, peeks_readable}
use Rattle.mz_rules.proofs.Listed.{joining_makes, joining_asks}
use Rattle.mz_rules.proofs.stream_laws.joining_lists_tell_sinces.Goals as goal

pub returns-clause-makes : goal.returns-clause-makes
returns-clause-makes c = joining_makes

pub returns-clause-tells : goal.returns-clause-tells
returns-clause-tells c = joining_tells

pub returns-clause-asks : goal.returns-clause-asks
returns-clause-asks c = joining_asks

pub returns-clause-is_reduced : goal.returns-clause-is_reduced
returns-clause-is_reduced c = joining_reduced

pub returns-clause-readable : goal.returns-clause-readable
returns-clause-readable c = peeks_readable
