use Rattle.std.proofs.Common.{List, sym, subst}
use Rattle.mz_updates.specs.declared.update.Update.{Update}
use Rattle.mz_reduce_tests.specs.Told.{IsTold}
use Rattle.mz_reduce_tests.proofs.ToldLaws.{told_more}
use Rattle.mz_reduce_tests.proofs.told.tell.Goals as goal

-- the step puts what it was told, and what it answers, behind what was there
pub returns-clause-told : goal.returns-clause-told
returns-clause-told g c =
    let o = g.O.Operator in
    let told = c.args.told.now in
    subst (λ (p : List Update × List Update × List Update). IsTold (o.meaning c.step.new.self) (o.stands c.step.new.self) p.0 p.1 p.2)
    (sym (λ i. (c.in_ok-push_all.ensures i, c.in_ok-push_all-2.ensures i, c.in_ok-push_all-3.ensures i)))
    (told_more (o.meaning c.args.op.now) (o.meaning c.step.new.self) (o.stands c.args.op.now) (o.stands c.step.new.self) told.left told.right told.out c.args.left c.args.right c.in_ok-out.out
    c.in_ok-out.ensures.same c.in_ok-out.ensures.law c.requires.told)
