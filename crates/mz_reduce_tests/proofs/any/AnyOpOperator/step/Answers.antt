use Rattle.std.proofs.Common.{sym, subst, IfOk}
use Rattle.mz_ops.specs.Step.{IsStep}
use Rattle.mz_reduce_tests.specs.contracts.any.AnyOpOperator.TheImpl.{ghosts}
use Rattle.mz_reduce_tests.specs.declared.any.AnyOp.{AnyOp}
use Rattle.mz_reduce_tests.specs.declared.any.AnyOp.TheVariants.{Group}
use Rattle.mz_reduce_tests.proofs.any.AnyOpOperator.step.Goals as goal

-- the groups' own law
pub returns-in-Group-clause-law : goal.returns-in-Group-clause-law
returns-in-Group-clause-law c =
    subst (λ (op : AnyOp). IfOk c.step.result (λ out. IsStep (ghosts.meaning op) (ghosts.stands op) (ghosts.stands (Group c.step.new.self)) c.args.left.now c.args.right.now out))
    (sym c.in-Group.is) c.step.ensures.law
