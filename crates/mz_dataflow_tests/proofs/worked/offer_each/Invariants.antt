use Rattle.mz_dataflow_tests.specs.Told.{IsTold}
use Rattle.mz_dataflow_tests.proofs.worked.offer_each.Given as goal

-- the dataflow stands for what it was offered
abbrev pub invariant-changes : goal.invariant-changes
invariant-changes g l = IsTold l.plan l.told.flow l.told.given.items
