-- What the lines of a stream name: collections, how much of them may be forgotten, and peeks.
use Rattle.std.specs.Prelude.{ℕ, ◌==◌, ◌&&◌, ◌||◌, List, [], ◌∷◌, Bool, true, false, Option, None, Some, if◌then◌else◌, ⊤}
use Rattle.std.specs.List.{list_any}
use Rattle.mz_time.specs.declared.frontier.Frontier.{Frontier}
use Rattle.mz_time.specs.declared.frontier.Frontier.TheVariants.{At, Done}
use Rattle.mz_time.specs.Frontier.{Le, join}
use Rattle.mz_plan.specs.declared.command.Command.{Command}
use Rattle.mz_plan.specs.declared.command.Command.TheVariants.{Create, Allow, Peek, Retire}

-- the greatest frontier that the lines name for a collection, as the time from which it is made or as what it may forget; time 0
-- where they name none. It is `Done` exactly where they drop it
abbrev pub told : ℕ → List Command → Frontier
told number [] = At 0
told number (Create collection plan t ∷ lines) =
    if collection == number then join (At t) (told number lines) else told number lines
told number (Allow collection f ∷ lines) = if collection == number then join f (told number lines) else told number lines
told number (line ∷ lines) = told number lines

-- the lines name a frontier for the collection
abbrev pub is_named : ℕ → List Command → Bool
is_named number [] = false
is_named number (Create collection plan t ∷ lines) = collection == number || is_named number lines
is_named number (Allow collection f ∷ lines) = collection == number || is_named number lines
is_named number (line ∷ lines) = is_named number lines

-- the greatest frontier that the lines name for a collection, where they name one
abbrev pub told_where_named : ℕ → List Command → Option Frontier
told_where_named number lines = if is_named number lines then Some (told number lines) else None

-- the collections that the lines make, in order
abbrev pub created : List Command → List ℕ
created [] = []
created (Create collection plan t ∷ lines) = collection ∷ created lines
created (line ∷ lines) = created lines

-- the lines end the peek
abbrev pub is_retired : ℕ → List Command → Bool
is_retired peek [] = false
is_retired peek (Retire other ∷ lines) = other == peek || is_retired peek lines
is_retired peek (line ∷ lines) = is_retired peek lines

-- the frontier is `Done`
abbrev pub is_done : Frontier → Bool
is_done Done = true
is_done (At t) = false

-- the lines drop the collection: they let it forget all
abbrev pub is_dropped : ℕ → List Command → Bool
is_dropped number [] = false
is_dropped number (Allow collection f ∷ lines) = (collection == number && is_done f) || is_dropped number lines
is_dropped number (line ∷ lines) = is_dropped number lines

-- the lines make the collection
abbrev pub is_created : ℕ → List Command → Bool
is_created number lines = list_any (λ other. other == number) (created lines)

-- the peeks that the lines ask for, in order
abbrev pub asked : List Command → List ℕ
asked [] = []
asked (Peek peek collection t ∷ lines) = peek ∷ asked lines
asked (line ∷ lines) = asked lines

-- a line names no more of a collection than what a function gives of its number: not as the time from which it is made, nor as what it
-- may forget
abbrev pub IsSaidWithin : (ℕ → Frontier) → Command → Type 0
IsSaidWithin since (Create number plan t) = Le (At t) (since number)
IsSaidWithin since (Allow number f) = Le f (since number)
IsSaidWithin since line = ⊤
