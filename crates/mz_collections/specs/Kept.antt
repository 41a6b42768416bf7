-- How the code keeps collections and peeks.
use Rattle.std.specs.Prelude.{◌≡◌, ℕ, ◌-◌, ◌<◌, ◌≤◌, ◌==◌, ◌&&◌, true, List, [], ◌∷◌, length, take, slice_get, Option, None, Some, if◌then◌else◌, ⊤}
use Rattle.std.specs.List.{list_any, AllByRecursion as Each}
use Rattle.mz_time.specs.declared.frontier.Frontier.{Frontier}
use Rattle.mz_time.specs.declared.frontier.Frontier.TheVariants.{Done}
use Rattle.mz_time.specs.Frontier.{meet}
use Rattle.mz_rules.specs.declared.capability.Collection.{Collection}
use Rattle.mz_rules.specs.declared.capability.Hold.{Hold}
use Rattle.mz_rules.specs.declared.capability.Settled.{Settled}
use Rattle.mz_rules.specs.Capabilities.{Capability}
use Rattle.mz_rules.specs.Frontiers.{is_at}
use Rattle.mz_rules.specs.Numbering.{Numbered}
use Rattle.mz_rules.specs.Since.{least_on, least_reader}
use Rattle.mz_collections.specs.CollectionBook.{collections_of}

-- the number of the first hold on a collection at a time, 0 where there is none
abbrev pub number_on : ℕ → ℕ → List Hold → ℕ
number_on collection time [] = 0
number_on collection time (hold ∷ holds) =
    if hold.collection == collection && hold.time == time then hold.number else number_on collection time holds

-- ---- collections that are done

-- nothing keeps the collection readable: not for its own sake, nor a hold, a peek or a reader
pub record Rests (held peeked : List Capability) (newer : List Settled) (c : Collection) : Type 0 where
  pub implied : c.implied ≡ Done
  pub hold : least_on c.number held ≡ Done
  pub peek : least_on c.number peeked ≡ Done
  pub reader : least_reader c.number newer ≡ Done

-- each that is done rests
abbrev pub AreAtRest : List Capability → List Capability → List Settled → Type 0
AreAtRest held peeked [] = ⊤
AreAtRest held peeked (s ∷ newer) = (s.since ≡ Done → Rests held peeked newer s.collection) × AreAtRest held peeked newer

-- the numbers of those that aren't done, in order
abbrev pub live_of : List Settled → List ℕ
live_of [] = []
live_of (s ∷ ss) = if is_at s.since then s.collection.number ∷ live_of ss else live_of ss

-- ---- what is passed on in a pass

-- what stands at a place, `Done` where nothing does
abbrev pub passed_found : Option Frontier → Frontier
passed_found None = Done
passed_found (Some f) = f

-- what was passed on to the collection of this number
abbrev pub passed_to : ℕ → List Frontier → Frontier
passed_to number over = passed_found (slice_get over (number - 1))

-- what was passed on to a collection, once a since is passed on to these inputs
abbrev pub passed_on : Frontier → List ℕ → ℕ → Frontier → Frontier
passed_on since inputs number f = if list_any (λ input. input == number) inputs then meet since f else f

-- what was passed on to a collection, once this is what was passed on to another
abbrev pub put_at : Frontier → ℕ → ℕ → Frontier → Frontier
put_at new other number f = if other == number then new else f

-- nothing is passed on to one that isn't done: what was is used up
abbrev pub AreIdle : List Frontier → List Settled → Type 0
AreIdle over ss = Each (λ s. is_at s.since ≡ true → passed_to s.collection.number over ≡ Done) ss

-- ---- the whole

-- a number is that of an older collection
pub record IsOlder (number input : ℕ) : Type 0 where
  pub low : 0 < input
  pub high : input < number

-- each reads older ones
abbrev pub ReadOlderOnes : List Settled → Type 0
ReadOlderOnes ss = Each (λ s. Each (IsOlder s.collection.number) s.collection.inputs) ss

-- the collections have the numbers 1, 2, .., for each it is kept what was told and what is passed on, and those that aren't done are
-- listed
pub record AreKept (all : List Settled) (told over : List Frontier) (live : List ℕ) : Type 0 where
  pub numbered : Numbered 1 (collections_of all)
  pub as_many_told : length told ≡ length all
  pub as_many_over : length over ≡ length all
  pub older : ReadOlderOnes all
  pub listed : live ≡ live_of all
  pub idle : AreIdle over all

-- the marks are within, and the live ones at the mark stood first
pub record AreMarked (all : List Settled) (live : List ℕ) (mark live_mark : ℕ) : Type 0 where
  pub within : mark ≤ length all
  pub live_within : live_mark ≤ length live
  pub listed : take live_mark live ≡ live_of (take mark all)
