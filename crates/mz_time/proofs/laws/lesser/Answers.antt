-- Each clause is a lemma: the laws of `meet`.
use Rattle.mz_time.proofs.FrontierLemmas.{meet_comm, meet_assoc, meet_idem, meet-Done, meet_absorb, Le-meet}
use Rattle.mz_time.proofs.laws.lesser.Goals as goal

pub returns-clause-commutes : goal.returns-clause-commutes
returns-clause-commutes c = meet_comm

pub returns-clause-associates : goal.returns-clause-associates
returns-clause-associates c = meet_assoc

pub returns-clause-idempotent : goal.returns-clause-idempotent
returns-clause-idempotent c = meet_idem

pub returns-clause-neutral : goal.returns-clause-neutral
returns-clause-neutral c = meet-Done

pub returns-clause-absorbs : goal.returns-clause-absorbs
returns-clause-absorbs c = meet_absorb

pub returns-clause-below_both : goal.returns-clause-below_both
returns-clause-below_both c = Le-meet
