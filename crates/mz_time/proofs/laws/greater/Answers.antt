-- Each clause is a lemma: the laws of `join`.
use Rattle.mz_time.proofs.FrontierLemmas.{join_comm, join_assoc, join_idem, join-Done, join_absorb, join-Le_both}
use Rattle.mz_time.proofs.laws.greater.Goals as goal

pub returns-clause-commutes : goal.returns-clause-commutes
returns-clause-commutes c = join_comm

pub returns-clause-associates : goal.returns-clause-associates
returns-clause-associates c = join_assoc

pub returns-clause-idempotent : goal.returns-clause-idempotent
returns-clause-idempotent c = join_idem

pub returns-clause-last : goal.returns-clause-last
returns-clause-last c = join-Done

pub returns-clause-absorbs : goal.returns-clause-absorbs
returns-clause-absorbs c = join_absorb

pub returns-clause-above_both : goal.returns-clause-above_both
returns-clause-above_both c = join-Le_both
