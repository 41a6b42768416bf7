-- the line is counted, and then carried out
use Rattle.std.proofs.Common.{refl, sym}
use Rattle.mz_script.specs.LineEvents.{one_more}
use Rattle.mz_world.proofs.Calling.{on_ok_then}
use Rattle.mz_world.proofs.Resting.{built_carried, stands_counted}
use Rattle.mz_world.proofs.world.World.carry_out.Goals as goal

pub follow-requires-clause-machine : goal.follow-requires-clause-machine
follow-requires-clause-machine g c =
    record { machine = one_more c.requires.machine.machine; stands = stands_counted c.args.self.now _ c.requires.machine.machine refl refl refl c.requires.machine.stands }

pub returns-clause-carries : goal.returns-clause-carries
returns-clause-carries g c =
    on_ok_then _ _ c.follow.result c.follow.ensures.carries (λ carries machine stands.
    built_carried machine c.args.line (sym c.if-not-is_built.ensures) (carries (one_more machine) (stands_counted c.args.self.now _ machine refl refl refl stands)))
