-- Since: the least of what keeps a collection readable, the newest collection settled first.
use Rattle.std.specs.Prelude.{ℕ, ◌==◌, List, [], ◌∷◌, Bool, if◌then◌else◌}
use Rattle.std.specs.List.{list_any}
use Rattle.mz_time.specs.declared.frontier.Frontier.{Frontier}
use Rattle.mz_time.specs.declared.frontier.Frontier.TheVariants.{At, Done}
use Rattle.mz_time.specs.Frontier.{meet}
use Rattle.mz_rules.specs.declared.capability.Collection.{Collection}
use Rattle.mz_rules.specs.declared.capability.Settled.{Settled}
use Rattle.mz_rules.specs.Capabilities.{Capability}

-- the collection reads the one of this number
abbrev pub reads : ℕ → Collection → Bool
reads number c = list_any (λ input. input == number) c.inputs

-- the least time that these keep of the collection of this number, or `Done` where none keeps any
abbrev pub least_on : ℕ → List Capability → Frontier
least_on number [] = Done
least_on number (kept ∷ others) =
    if kept.collection == number then meet (At kept.time) (least_on number others) else least_on number others

-- the least since of those that read the collection of this number, or `Done` where none does
abbrev pub least_reader : ℕ → List Settled → Frontier
least_reader number [] = Done
least_reader number (s ∷ ss) =
    if reads number s.collection then meet s.since (least_reader number ss) else least_reader number ss

-- a collection's own capabilities: the implied one, and those of its holds and peeks
abbrev pub own : List Capability → Collection → Frontier
own kept c = meet c.implied (least_on c.number kept)

-- each collection with its since, from the collections in order of creation: the least of its own capabilities and of the sinces of
-- its readers, all of which are newer
abbrev pub settle : List Capability → List Collection → List Settled
settle kept [] = []
settle kept (c ∷ newer) =
    record { collection = c; since = meet (own kept c) (least_reader c.number (settle kept newer)) } ∷ settle kept newer

-- the since of the collection of this number; where there is none, what stands in its place
abbrev pub since_or : Frontier → ℕ → List Settled → Frontier
since_or missing number [] = missing
since_or missing number (s ∷ ss) = if s.collection.number == number then s.since else since_or missing number ss

-- the since of the collection of this number. One that isn't made yet may still be read at each time
abbrev pub since_of : ℕ → List Settled → Frontier
since_of number ss = since_or (At 0) number ss
