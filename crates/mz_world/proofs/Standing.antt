-- What is kept is of a machine with another log, once the core stands for that.
use Rattle.std.proofs.Common.{◌≡◌, ◌∙◌}
use Rattle.mz_log.specs.Log.{Log}
use Rattle.mz_script.specs.ScriptLine.{Machine, with_log}
use Rattle.mz_world.specs.Standing.{IsOf}
use Rattle.mz_world.specs.declared.world.World.{World}

-- all but the core is as it was
pub record IsElseSame {C : Type 0} (old new : World C) : Type 0 where
  pub moment : new.moment ≡ old.moment
  pub lines : new.lines ≡ old.lines

-- so what is kept is of the machine with the log that the core stands for
pub of_log : {C : Type 0} {Stands : C → Log → Type 0} (old new : World C) (machine : Machine) (log : Log)
    → IsOf Stands old machine → IsElseSame old new → Stands new.core log → IsOf Stands new (with_log machine log)
of_log old new machine log was same core =
    record { core = core; moment = same.moment ∙ was.moment; lines = same.lines ∙ was.lines }
