-- nothing has happened
use Rattle.std.proofs.Common.{refl}
use Rattle.mz_script_laws.proofs.Resting.{opening_rests}
use Rattle.mz_world.proofs.world.World.opening.Goals as goal

pub returns-clause-stands : goal.returns-clause-stands
returns-clause-stands g c =
    record { is_of = record { core = c.in_ok-core.ensures; moment = c.zero.ensures; lines = refl }; rest = opening_rests }
