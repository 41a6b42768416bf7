-- Each collection is settled once and found under its number.
use Rattle.mz_rules.proofs.Exact.{settled_are}
use Rattle.mz_rules.proofs.Falls.{found_at}
use Rattle.mz_rules.proofs.Numbers.{new_place, newer_alone, leasts_count}
use Rattle.mz_rules.proofs.laws.collections_are_found.Goals as goal

pub returns-clause-collections : goal.returns-clause-collections
returns-clause-collections c = settled_are

pub returns-clause-own : goal.returns-clause-own
returns-clause-own c = found_at

pub returns-clause-later : goal.returns-clause-later
returns-clause-later c = new_place

pub returns-clause-newer : goal.returns-clause-newer
returns-clause-newer c = newer_alone

pub returns-clause-leasts : goal.returns-clause-leasts
returns-clause-leasts c = leasts_count
