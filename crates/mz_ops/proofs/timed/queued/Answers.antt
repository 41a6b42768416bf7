use Rattle.std.proofs.Common.{sym, subst, ◌∙◌}
use Rattle.mz_updates.specs.Contents.{IsBefore, IsFrom}
use Rattle.mz_ops.proofs.timed.queued.Goals as goal

-- the queue is the consolidated copy
pub returns-clause-from : goal.returns-clause-from
returns-clause-from c = λ lower h. subst (IsFrom lower) (sym (c.from.ensures.0 ∙ c.into_vec.ensures))
    (c.consolidate.ensures.from lower (subst (IsFrom lower) (sym c.in_ok-copy.ensures) h))

pub returns-clause-before : goal.returns-clause-before
returns-clause-before c = λ upper h. subst (IsBefore upper) (sym (c.from.ensures.0 ∙ c.into_vec.ensures))
    (c.consolidate.ensures.before upper (subst (IsBefore upper) (sym c.in_ok-copy.ensures) h))
