-- a session of the name is opened now
use Rattle.std.proofs.Common.{◌∙◌, sym}
use Rattle.mz_world.specs.Standing.{IsOf}
use Rattle.mz_world.proofs.Calling.{on_ok_then}
use Rattle.mz_world.proofs.Opening.{opened_carried}
use Rattle.mz_world.proofs.world.World.says.Goals as goal

pub returns-in-Ok-clause-carries : goal.returns-in-Ok-clause-carries
returns-in-Ok-clause-carries g c =
    on_ok_then _ _ c.submit-in-Ok.result c.submit-in-Ok.ensures.carries (λ carries said asks machine is_of.
    opened_carried (IsOf g.C.Core.stands c.open.new.self) machine c.names-names.result.now.keys c.args.name.now said _ _ c.args.asked c.in-Ok.session
    (c.names-names.ensures ∙ g.met.C.Core.named _ machine.log is_of.core) (sym c.get_index_of.ensures.index ∙ c.in_default.is)
    (c.in-Ok.ensures.given machine is_of) (λ opened is_opened. carries said asks opened is_opened))
