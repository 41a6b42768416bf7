-- Each clause is a lemma, from those on the creations and the peeks that are left.
use Rattle.mz_rules.proofs.Listed.{reduced_makes, reduced_asks}
use Rattle.mz_rules.proofs.Named.{still_created, all_as_told}
use Rattle.mz_rules.proofs.Reduced.{told_same, reduced_ends_none}
use Rattle.mz_rules.proofs.stream_laws.reduced_lists_tell_the_same.Goals as goal

pub returns-clause-makes : goal.returns-clause-makes
returns-clause-makes c = reduced_makes

pub returns-clause-still_makes : goal.returns-clause-still_makes
returns-clause-still_makes c = still_created

pub returns-clause-names : goal.returns-clause-names
returns-clause-names c = all_as_told

pub returns-clause-asks : goal.returns-clause-asks
returns-clause-asks c = reduced_asks

pub returns-clause-tells : goal.returns-clause-tells
returns-clause-tells c = told_same

pub returns-clause-ends_none : goal.returns-clause-ends_none
returns-clause-ends_none c = reduced_ends_none
