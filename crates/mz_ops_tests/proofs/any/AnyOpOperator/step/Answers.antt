use Rattle.std.proofs.Common.{sym, subst, IfOk}
use Rattle.mz_ops.specs.Step.{IsStep}
use Rattle.mz_ops_tests.specs.contracts.any.AnyOpOperator.TheImpl.{ghosts}
use Rattle.mz_ops_tests.specs.declared.any.AnyOp.{AnyOp}
use Rattle.mz_ops_tests.specs.declared.any.AnyOp.TheVariants.{Join}
use Rattle.mz_ops_tests.proofs.any.AnyOpOperator.step.Goals as goal

-- a join's own law
pub returns-in-Join-clause-law : goal.returns-in-Join-clause-law
returns-in-Join-clause-law c =
    subst (λ (op : AnyOp). IfOk c.step-in-Join.result (λ out. IsStep (ghosts.meaning op) (ghosts.stands op) (ghosts.stands (Join c.step-in-Join.new.self)) c.args.left.now c.args.right.now out))
    (sym c.in-Join.is) c.step-in-Join.ensures.law
