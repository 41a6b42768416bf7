-- The reduced list: the shortest lines that lead a replica to where a whole list leads it.
use Rattle.std.specs.Prelude.{◌≡◌, ℕ, List, [], ◌∷◌, ◌++◌, Bool, false, if◌then◌else◌, ⊤}
use Rattle.std.specs.List.{AllByRecursion as Each}
use Rattle.mz_time.specs.declared.frontier.Frontier.{Frontier}
use Rattle.mz_time.specs.declared.frontier.Frontier.TheVariants.{At, Done}
use Rattle.mz_plan.specs.declared.command.Command.{Command}
use Rattle.mz_plan.specs.declared.command.Command.TheVariants.{Create, Peek}
use Rattle.mz_plan.specs.declared.plan.Plan.{Plan}
use Rattle.mz_rules.specs.Streams.{told, is_named, created, is_retired, asked}

-- a line that makes the collection as of the frontier, before further lines; none where that is `Done`
abbrev pub made_before : ℕ → Plan → Frontier → List Command → List Command
made_before number plan Done lines = lines
made_before number plan (At t) lines = Create number plan t ∷ lines

-- each collection that the lines make, as of the frontier that a function gives of its number; none where that is `Done`
abbrev pub creations_left : (ℕ → Frontier) → List Command → List Command
creations_left since [] = []
creations_left since (Create number plan t ∷ lines) = made_before number plan (since number) (creations_left since lines)
creations_left since (line ∷ lines) = creations_left since lines

-- each peek that the lines ask for, but for those that a test finds
abbrev pub peeks_left : (ℕ → Bool) → List Command → List Command
peeks_left ended [] = []
peeks_left ended (Peek peek collection t ∷ lines) =
    if ended peek then peeks_left ended lines else Peek peek collection t ∷ peeks_left ended lines
peeks_left ended (line ∷ lines) = peeks_left ended lines

-- the lines that lead a replica which knows nothing to where all these lead it: each collection that they make and don't drop, in
-- order, as of the greatest frontier that they name for it, and then each peek that they don't end, in order
abbrev pub reduced : List Command → List Command
reduced lines = creations_left (λ number. told number lines) lines ++ peeks_left (λ peek. is_retired peek lines) lines

-- a line that makes a collection does so as of what the list tells of it
abbrev pub IsAsTold : List Command → Command → Type 0
IsAsTold lines (Create number plan t) = told number lines ≡ At t
IsAsTold lines line = ⊤

-- further lines that may come after a list: they make no collection that the list names, and ask for no peek that it ends
pub record GoesOn (lines further : List Command) : Type 0 where
  pub makes_new : Each (λ number. is_named number lines ≡ false) (created further)
  pub asks_new : Each (λ peek. is_retired peek lines ≡ false) (asked further)
