-- Each clause is a part of what is safe.
use Rattle.mz_safe_laws.proofs.SafeParts.{holds_stand, peeks_stand, told_before, told_holds, told_peeks}
use Rattle.mz_safe_laws.proofs.safety.held_times_stand.Goals as goal

pub returns-clause-holds : goal.returns-clause-holds
returns-clause-holds c = λ log l. holds_stand log

pub returns-clause-peeks : goal.returns-clause-peeks
returns-clause-peeks c = λ log l. peeks_stand log

pub returns-clause-told_holds : goal.returns-clause-told_holds
returns-clause-told_holds c = told_holds

pub returns-clause-told_peeks : goal.returns-clause-told_peeks
returns-clause-told_peeks c = told_peeks

pub returns-clause-told : goal.returns-clause-told
returns-clause-told c = told_before
