use Rattle.mz_ops.proofs.LightSteps.{light_step}
use Rattle.mz_ops.proofs.laws.steps_of_light_lists.Goals as goal

-- what is there and what changes at a time are parts of the lists
pub returns : goal.returns
returns g c = λ op upper next ls rs left right stand from from_too within.
    light_step (g.C.Changing.stands op) (g.C.Changing.load op) upper next ls rs left right (g.met.C.Changing.loads op) stand from from_too within
