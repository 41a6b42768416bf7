use Rattle.std.proofs.Common.{rules}
use Rattle.mz_maintained.proofs.Carrying.{begun, begun_sound}
use Rattle.mz_maintained.proofs.maintained.Maintained.build.Goals as goal

-- a plan over few tables is sound from the start
pub invariant_of-result : goal.invariant_of-result
invariant_of-result c = λ whole.
    begun_sound c.args.plan.now c.args.as_of c.in_ok-build.field-0 c.new.result.entries c.in_ok-build.ensures.stands c.in_ok-build.ensures.fresh c.new.ensures.empty (search rules)

-- and its plan is maintained
pub returns-clause-begun : goal.returns-clause-begun
returns-clause-begun c =
    begun c.args.plan.now c.args.as_of c.in_ok-build.field-0 c.new.result.entries c.in_ok-build.ensures.stands c.in_ok-build.ensures.fresh c.new.ensures.empty
