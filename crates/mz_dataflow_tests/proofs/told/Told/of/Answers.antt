use Rattle.std.proofs.Common.{rules}
use Rattle.mz_dataflow_tests.proofs.ToldLaws.{told_begun}
use Rattle.mz_dataflow_tests.proofs.told.Told.of.Goals as goal

-- nothing was offered yet
pub returns : goal.returns
returns c = told_begun c.args.plan.now c.in_ok-flow.flow c.args.as_of c.new-given.result.items (search rules) c.in_ok-flow.ensures.stands c.in_ok-flow.ensures.fresh
