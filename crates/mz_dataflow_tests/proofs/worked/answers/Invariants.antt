use Rattle.mz_dataflow_tests.specs.Told.{IsTold}
use Rattle.mz_dataflow_tests.proofs.worked.answers.Given as goal

-- the dataflow stands for what it was offered
abbrev pub invariant-steps : goal.invariant-steps
invariant-steps g l = IsTold l.plan l.told.flow l.told.given.items
