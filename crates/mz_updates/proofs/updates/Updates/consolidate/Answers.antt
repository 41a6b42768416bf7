use Rattle.std.proofs.Common.{sym, subst}
use Rattle.mz_updates.specs.Contents.{IsBefore, IsFrom}
use Rattle.mz_updates.proofs.updates.Updates.consolidate.Goals as goal

-- the list is what is stored
pub returns-clause-from : goal.returns-clause-from
returns-clause-from c = λ lower h. c.merge.ensures.from lower (subst (IsFrom lower) (sym c.self.view_is) h)

pub returns-clause-before : goal.returns-clause-before
returns-clause-before c = λ upper h. c.merge.ensures.before upper (subst (IsBefore upper) (sym c.self.view_is) h)
