use Rattle.mz_dataflow_tests.proofs.ToldLaws.{told_allowed}
use Rattle.mz_dataflow_tests.proofs.told.allow.Goals as goal

-- it stands for what it did
pub returns : goal.returns
returns g c = told_allowed c.args.plan.now c.args.told.now.flow c.allow.new.self c.args.told.now.given.items c.requires c.allow.ensures.stands c.allow.ensures.offers c.allow.ensures.output.upper
