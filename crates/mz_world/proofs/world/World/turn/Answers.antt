-- each read that waited has its rows
use Rattle.std.proofs.Common.{◌∙◌, refl}
use Rattle.mz_world.proofs.Calling.{on_ok_then}
use Rattle.mz_world.proofs.Resting.{turned_carried}
use Rattle.mz_world.proofs.world.World.turn.Goals as goal

pub returns-clause-carries : goal.returns-clause-carries
returns-clause-carries g c =
    on_ok_then _ _ c.write_reads.result c.write_reads.ensures (λ text machine stands.
    turned_carried c.args.self.now _ machine c.names.result.now.keys _ _ _ stands (record { moment = refl; lines = refl })
    (λ later turn. c.finish_reads-reads.ensures.turn machine.log later stands.is_of.core turn)
    (λ log core. c.names.ensures ∙ g.met.C.Core.named _ log core)
    (c.as_slice.ensures.value ∙ c.finish_reads-reads.ensures.reads machine.log stands.is_of.core) text)
