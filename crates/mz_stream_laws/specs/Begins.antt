-- When lines go on from others.
use Rattle.std.specs.Prelude.{◌≡◌, List, ◌++◌}
use Rattle.mz_plan.specs.declared.command.Command.{Command}

-- lines begin with the first ones, and may go on
pub record BeginsWith (first lines : List Command) : Type 0 where
  pub more : List Command
  pub goes_on : lines ≡ first ++ more
