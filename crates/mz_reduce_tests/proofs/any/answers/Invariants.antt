use Rattle.std.proofs.Common.{◌≡◌}
use Rattle.mz_reduce_tests.specs.Told.{IsTold}
use Rattle.mz_reduce_tests.specs.contracts.any.AnyOpOperator.TheImpl.{ghosts}
use Rattle.mz_reduce_tests.proofs.any.answers.Given as goal

-- what was answered so far is what is made of all that was told
abbrev pub invariant-steps : goal.invariant-steps
invariant-steps g l = record {
  told : IsTold (ghosts.meaning l.op) (ghosts.stands l.op) l.told.left l.told.right l.told.out;
  upper : l.told.upper ≡ ghosts.upper l.op;
}
