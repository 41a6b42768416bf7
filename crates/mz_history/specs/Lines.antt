-- What a line more makes of what is found of each collection.
use Rattle.std.specs.Prelude.{ℕ, ◌==◌, List, [], ◌∷◌, Option, None, Some, if◌then◌else◌}
use Rattle.mz_time.specs.declared.frontier.Frontier.{Frontier}
use Rattle.mz_time.specs.declared.frontier.Frontier.TheVariants.{At}
use Rattle.mz_time.specs.Frontier.{join}
use Rattle.mz_plan.specs.declared.command.Command.{Command}
use Rattle.mz_plan.specs.declared.command.Command.TheVariants.{Create, Allow}

-- the greatest frontier that is named, once this one is named too
abbrev pub beside : Option Frontier → Frontier → Frontier
beside None f = f
beside (Some old) f = join old f

-- what is named of one collection, once a frontier of another, or of itself, is named too
abbrev pub named_too : ℕ → Frontier → ℕ → Option Frontier → Option Frontier
named_too collection f number old = if collection == number then Some (beside old f) else old

-- what is named of a collection, once a line more is
abbrev pub after_line : Command → ℕ → Option Frontier → Option Frontier
after_line (Create collection plan t) number old = named_too collection (At t) number old
after_line (Allow collection f) number old = named_too collection f number old
after_line line number old = old

-- what is named of a collection, once further lines are
abbrev pub after_lines : List Command → ℕ → Option Frontier → Option Frontier
after_lines [] number old = old
after_lines (line ∷ lines) number old = after_lines lines number (after_line line number old)

-- the collection of which a line names a frontier, where it names one
abbrev pub collection_of : Command → Option ℕ
collection_of (Create collection plan t) = Some collection
collection_of (Allow collection f) = Some collection
collection_of line = None
