-- What collections and their sinces add to the streams of replicas.
use Rattle.std.specs.Prelude.{◌≡◌, ℕ, ◌==◌, ◌&&◌, List, [], ◌∷◌, ◌++◌, Bool, true, false, not, map, filter, reverse, if◌then◌else◌}
use Rattle.std.specs.List.{list_any}
use Rattle.mz_time.specs.declared.frontier.Frontier.{Frontier}
use Rattle.mz_time.specs.declared.frontier.Frontier.TheVariants.{At, Done}
use Rattle.mz_time.specs.Frontier.{Le}
use Rattle.mz_plan.specs.declared.command.Command.{Command}
use Rattle.mz_plan.specs.declared.command.Command.TheVariants.{Create, Allow, Peek}
use Rattle.mz_plan.specs.declared.command.PendingPeek.{PendingPeek}
use Rattle.mz_plan.specs.Leaves.{renamed, new_number}
use Rattle.mz_rules.specs.declared.capability.Collection.{Collection}
use Rattle.mz_rules.specs.declared.capability.CollectionKind.{CollectionKind}
use Rattle.mz_rules.specs.declared.capability.CollectionKind.TheVariants as kind
use Rattle.mz_rules.specs.declared.capability.Settled.{Settled}
use Rattle.mz_rules.specs.Frontiers.{is_le}
use Rattle.mz_rules.specs.Since.{since_of}
use Rattle.mz_rules.specs.Streams.{told, created, is_created}

-- the collection of a table
abbrev pub is_table : CollectionKind → Bool
is_table kind.Table = true
is_table other = false

-- the replicas of a cluster make the collection: it is one of that cluster, and no table, whose rows reach each replica by themselves
abbrev pub is_made_in : ℕ → Collection → Bool
is_made_in cluster c = c.cluster == cluster && not (is_table c.kind)

-- one of the collections has this number, and the replicas of the cluster make it
abbrev pub is_read_in : ℕ → List Settled → ℕ → Bool
is_read_in cluster ss number = list_any (λ s. s.collection.number == number && is_made_in cluster s.collection) ss

-- the item and the collection of each, for a plan to name collections where it named items
abbrev pub numbers : List Settled → List (ℕ × ℕ)
numbers ss = map (λ s. (s.collection.item, s.collection.number)) ss

-- the line that makes a collection as of a time. Its plan names collections
abbrev pub creation : List (ℕ × ℕ) → Collection → ℕ → Command
creation names c as_of = Create c.number (renamed (new_number names) c.plan) as_of

-- the line that asks for a pending peek
abbrev pub ask : PendingPeek → Command
ask peek = Peek peek.peek peek.collection peek.time

-- a line that makes the collection as of the frontier, before further lines; none where that is `Done`
abbrev pub joined_before : List (ℕ × ℕ) → Collection → Frontier → List Command → List Command
joined_before names c Done lines = lines
joined_before names c (At t) lines = creation names c t ∷ lines

-- each collection that the cluster makes and that isn't done, as of its since
abbrev pub joined : List (ℕ × ℕ) → ℕ → List Settled → List Command
joined names cluster [] = []
joined names cluster (s ∷ ss) =
    if is_made_in cluster s.collection then joined_before names s.collection s.since (joined names cluster ss)
    else joined names cluster ss

-- the first lines of a stream that joins a cluster: each collection that the cluster makes and that isn't done, in order of creation, as
-- of its since, and then each pending peek on one of them, in order
abbrev pub joining : ℕ → List Settled → List PendingPeek → List Command
joining cluster ss peeks =
    joined (numbers ss) cluster ss ++ map ask (filter (λ peek. is_read_in cluster ss peek.collection) peeks)

-- the peek is on a collection that the lines make, as of the peek's time or an earlier one
pub record IsReadable (lines : List Command) (peek : PendingPeek) : Type 0 where
  pub makes : is_created peek.collection lines ≡ true
  pub early : Le (told peek.collection lines) (At peek.time)

-- what later creations add to a stream: a line for each new collection that the cluster makes, as of the time from which it has
-- contents
abbrev pub creations : List (ℕ × ℕ) → ℕ → List Collection → List Command
creations names cluster cs = map (λ c. creation names c c.as_of) (filter (λ c. is_made_in cluster c) cs)

-- an allowance for each of these collections whose since is past what the lines tell of it
abbrev pub allowances_of : List Settled → List Command → List ℕ → List Command
allowances_of ss lines [] = []
allowances_of ss lines (number ∷ older) =
    if is_le (since_of number ss) (told number lines) then allowances_of ss lines older
    else Allow number (since_of number ss) ∷ allowances_of ss lines older

-- what a feed adds to a stream: an allowance for each collection that the stream makes and whose since is past what it tells of it,
-- newest first
abbrev pub allowances : List Settled → List Command → List Command
allowances ss lines = allowances_of ss lines (reverse (created lines))
