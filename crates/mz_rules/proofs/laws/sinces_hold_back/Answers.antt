-- Each clause is a lemma, by induction on the collections.
use Rattle.mz_rules.proofs.Held.{implied_holds, capabilities_hold}
use Rattle.mz_rules.proofs.Readers.{readers_hold}
use Rattle.mz_rules.proofs.laws.sinces_hold_back.Goals as goal

pub returns-clause-implied : goal.returns-clause-implied
returns-clause-implied c = implied_holds

pub returns-clause-held : goal.returns-clause-held
returns-clause-held c = capabilities_hold

pub returns-clause-read : goal.returns-clause-read
returns-clause-read c = readers_hold
