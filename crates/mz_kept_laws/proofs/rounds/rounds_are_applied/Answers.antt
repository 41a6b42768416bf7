-- Each clause is a law of rounds that are applied.
use Rattle.std.proofs.Common.{refl}
use Rattle.mz_kept_laws.proofs.Applying.{done_did, shut_did}
use Rattle.mz_kept_laws.proofs.rounds.rounds_are_applied.Goals as goal

-- no round is open
pub returns-clause-none_open : goal.returns-clause-none_open
returns-clause-none_open c = shut_did

-- the open round is applied
pub returns-clause-applied : goal.returns-clause-applied
returns-clause-applied c = λ kept log commands s some. done_did kept _ log commands _ s some refl refl
