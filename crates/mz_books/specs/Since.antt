-- The sinces of a log's collections, and what is shown of them.
use Rattle.std.specs.Prelude.{ℕ, ◌==◌, List, [], ◌∷◌, filter, flat_map, length}
use Rattle.mz_time.specs.declared.frontier.Frontier.{Frontier}
use Rattle.mz_time.specs.declared.frontier.Frontier.TheVariants.{At, Done}
use Rattle.mz_rules.specs.Capabilities.{Capability, capabilities}
use Rattle.mz_rules.specs.Since.{settle, since_of}
use Rattle.mz_rules.specs.declared.capability.Collection.{Collection}
use Rattle.mz_rules.specs.declared.capability.Hold.{Hold}
use Rattle.mz_rules.specs.declared.capability.Settled.{Settled}
use Rattle.mz_log.specs.declared.reply.FrontierRow.{FrontierRow}
use Rattle.mz_log.specs.Log.{Log}
use Rattle.mz_books.specs.Collections.{collections}
use Rattle.mz_books.specs.Holds.{holds, pending}

-- what live holds and pending peeks keep readable
abbrev pub kept : Log → List Capability
kept log = capabilities (holds log) (pending log)

-- the collections in order of creation, each with its since: the least of what its policy keeps, of its holds and pending peeks, and of
-- the sinces of its readers
abbrev pub settled : Log → List Settled
settled log = settle (kept log) (collections log)

-- the since of the collection of this number: the first time at which it is readable. It is `Done` where nothing keeps it readable, and
-- 0 where it isn't made yet
abbrev pub since : Log → ℕ → Frontier
since log number = since_of number (settled log)

-- ---- SHOW FRONTIERS

-- how many live holds there are on the collection of this number
abbrev pub holds_on : ℕ → List Hold → ℕ
holds_on number holds = length (filter (λ hold. hold.collection == number) holds)

-- what is shown of a collection with this since: nothing where it is done
abbrev pub shown_from : List Hold → Collection → Frontier → List FrontierRow
shown_from holds c Done = []
shown_from holds c (At time) =
    record { id = c.number; name = c.name; since = time; upper = c.upper; holds = holds_on c.number holds } ∷ []

-- how far each collection that isn't done is readable, in order of creation
abbrev pub shown : List Hold → List Settled → List FrontierRow
shown holds ss = flat_map (λ s. shown_from holds s.collection s.since) ss
