-- Each clause is a law of rounds that are begun.
use Rattle.std.proofs.Common.{refl, ap}
use Rattle.std.specs.Prelude.{option_map}
use Rattle.mz_kept_laws.proofs.Beginning.{all_queued, begun_did, open_did}
use Rattle.mz_kept_laws.proofs.Spent.{spent_did}
use Rattle.mz_kept_laws.proofs.rounds.rounds_are_begun.Goals as goal

-- a round is open
pub returns-clause-refused : goal.returns-clause-refused
returns-clause-refused c = λ kept log commands now s some.
    open_did kept log now kept.rounds.begun s (ap (option_map (λ _. kept.rounds.begun)) some)

-- the commands that wait are queued
pub returns-clause-queued : goal.returns-clause-queued
returns-clause-queued c = all_queued

-- a time is given
pub returns-clause-begun : goal.returns-clause-begun
returns-clause-begun c = λ kept log now time s none gave. begun_did kept _ log now time _ s none gave refl refl

-- none is left
pub returns-clause-spent : goal.returns-clause-spent
returns-clause-spent c = λ kept log now why s none gave. spent_did kept _ log now why s none gave refl
