use Rattle.mz_plain.specs.Stands.{kept}
use Rattle.mz_plain.proofs.Planning.{plan_bounded}
use Rattle.mz_plain.proofs.plain.Plain.read.Goals as goal

-- the plan of a query is bounded
pub rows-requires : goal.rows-requires
rows-requires c =
    plan_bounded (kept c.args.self.now) c.args.statement.now c.in-Ok.plan c.requires.well c.requires.query c.in-Ok.ensures
