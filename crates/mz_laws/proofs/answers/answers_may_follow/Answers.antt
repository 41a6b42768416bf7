-- Whichever entry it is.
use Rattle.mz_laws.proofs.Accepted.{answer_follows}
use Rattle.mz_laws.proofs.answers.answers_may_follow.Goals as goal

pub returns : goal.returns
returns c = answer_follows
