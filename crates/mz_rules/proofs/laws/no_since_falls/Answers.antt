-- Each clause is the law on settled lists, looked up by number.
use Rattle.mz_rules.proofs.Falls.{same_rise, sinces_rise, as_ofs_stay}
use Rattle.mz_rules.proofs.laws.no_since_falls.Goals as goal

pub returns-clause-capabilities : goal.returns-clause-capabilities
returns-clause-capabilities c = same_rise

pub returns-clause-collections : goal.returns-clause-collections
returns-clause-collections c = sinces_rise

pub returns-clause-as_ofs : goal.returns-clause-as_ofs
returns-clause-as_ofs c = as_ofs_stay
