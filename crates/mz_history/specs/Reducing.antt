-- What is found of lines as they are reduced.
use Rattle.std.specs.Prelude.{◌≡◌, ℕ, List, Option, None, Some}
use Rattle.std.specs.BTreeSet.{BTreeSet, contains}
use Rattle.std.specs.Ordering.{nat_cmp}
use Rattle.mz_time.specs.declared.frontier.Frontier.{Frontier}
use Rattle.mz_time.specs.declared.frontier.Frontier.TheVariants.{At}
use Rattle.mz_plan.specs.declared.command.Command.{Command}
use Rattle.mz_rules.specs.Streams.{is_retired}

-- what is found, time 0 where nothing is
abbrev pub found_or_first : Option Frontier → Frontier
found_or_first None = At 0
found_or_first (Some f) = f

-- the set has the peeks that the lines end
pub record HasEnded (ended : BTreeSet ℕ) (lines : List Command) : Type 0 where
  pub each : (peek : ℕ) → contains nat_cmp ended peek ≡ is_retired peek lines
