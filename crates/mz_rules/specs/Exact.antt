-- All that keeps a collection readable, from scratch: what a since is the least of.
use Rattle.std.specs.Prelude.{◌≡◌, ℕ, ◌==◌, List, ◌∷◌, ◌++◌, map, filter}
use Rattle.std.specs.List.{AllByRecursion as Each}
use Rattle.mz_time.specs.declared.frontier.Frontier.{Frontier}
use Rattle.mz_time.specs.declared.frontier.Frontier.TheVariants.{At}
use Rattle.mz_time.specs.Frontier.{least}
use Rattle.mz_rules.specs.declared.capability.Collection.{Collection}
use Rattle.mz_rules.specs.declared.capability.Settled.{Settled}
use Rattle.mz_rules.specs.Capabilities.{Capability}
use Rattle.mz_rules.specs.Since.{reads}

-- the times that holds and peeks keep of the collection of this number
abbrev pub times_on : ℕ → List Capability → List Frontier
times_on number kept = map (λ one. At one.time) (filter (λ one. one.collection == number) kept)

-- the sinces of those that read the collection of this number, whether they are done or not
abbrev pub sinces_over : ℕ → List Settled → List Frontier
sinces_over number ss = map (λ s. s.since) (filter (λ s. reads number s.collection) ss)

-- all that keeps the collection readable: its implied capability, its holds and peeks, and the sinces of all its readers
abbrev pub all_on : List Capability → List Settled → Collection → List Frontier
all_on kept ss c = c.implied ∷ (times_on c.number kept ++ sinces_over c.number ss)

-- each since is the least of all that keeps its collection readable
abbrev pub AreLeast : List Capability → List Settled → Type 0
AreLeast kept ss = Each (λ s. s.since ≡ least (all_on kept ss s.collection)) ss
