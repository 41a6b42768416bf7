use Rattle.std.proofs.Common.{sym, ◌∙◌}
use Rattle.mz_dataflow_tests.proofs.ToldLaws.{when_ok}
use Rattle.mz_dataflow_tests.proofs.told.run.Goals as goal

-- the run went well
pub returns-then-is_ok-clause-stands : goal.returns-then-is_ok-clause-stands
returns-then-is_ok-clause-stands g c = when_ok c.run_to.result (sym c.is_ok.ensures.value ∙ c.if-is_ok.true) c.run_to.ensures.stands
