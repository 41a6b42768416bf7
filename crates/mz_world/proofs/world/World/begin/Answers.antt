-- the fault is told, and nothing else has changed
use Rattle.std.proofs.Common.{◌∙◌, refl}
use Rattle.mz_world.proofs.RoundLines.{unbegun_carried}
use Rattle.mz_world.proofs.world.World.begin.Goals as goal

pub returns-in_ok-write_fault-in-Err-clause-carries :
    goal.returns-in_ok-write_fault-in-Err-clause-carries
returns-in_ok-write_fault-in-Err-clause-carries g c = λ machine is_of.
    unbegun_carried c.args.self.now _ machine c.number.result c.names.result.now.keys _ _ c.in-Err.fault c.number.ensures.value is_of
    (record { moment = refl; lines = refl }) (λ log stands. c.names.ensures ∙ g.met.C.Core.named _ log stands)
    (c.in-Err.ensures.given machine.log is_of.core) (c.in-Err.ensures.refused machine.log is_of.core) c.in_ok-write_fault-in-Err.ensures
