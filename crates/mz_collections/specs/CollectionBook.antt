-- The book of collections, and what each call makes of it.
use Rattle.std.specs.Prelude.{ℕ, ◌+◌, ◌-◌, ◌<◌, ◌≤◌, ◌==◌, ◌&&◌, max, Bool, List, [], ◌∷◌, ◌++◌, map, length, slice_get, slice_set, Option, None, Some, if◌then◌else◌}
use Rattle.std.specs.List.{list_any}
use Rattle.mz_time.specs.declared.frontier.Frontier.{Frontier}
use Rattle.mz_time.specs.declared.frontier.Frontier.TheVariants.{At, Done}
use Rattle.mz_time.specs.Frontier.{join}
use Rattle.mz_statement.specs.declared.statement.Keep.{Keep}
use Rattle.mz_statement.specs.declared.statement.Keep.TheVariants.{Lag}
use Rattle.mz_rules.specs.declared.capability.Collection.{Collection}
use Rattle.mz_rules.specs.declared.capability.Settled.{Settled}
use Rattle.mz_rules.specs.Capabilities.{Capability, of_hold}
use Rattle.mz_rules.specs.Moves.{come_to}
use Rattle.mz_rules.specs.Since.{settle}
use Rattle.mz_holds.specs.HoldBook.{HoldBook, no_holds}
use Rattle.mz_collections.specs.declared.new_collection.NewCollection.{NewCollection}

-- the collections in order of creation, each with its since; what was told of each, in the same order; the live holds; and what pending
-- peeks keep, in the order in which they came
pub record CollectionBook : Type 0 where
  pub all : List Settled
  pub told : List Frontier
  pub holds : HoldBook
  pub peeks : List Capability

-- no collection, and no hold
abbrev pub no_collections : CollectionBook
no_collections = record { all = []; told = []; holds = no_holds; peeks = [] }

-- the holds changed
abbrev pub with_holds : (HoldBook → HoldBook) → CollectionBook → CollectionBook
with_holds change b = record b { holds = change b.holds }

-- what holds and peeks keep readable
abbrev pub capabilities_of : CollectionBook → List Capability
capabilities_of b = map of_hold b.holds.live ++ b.peeks

-- the collections alone
abbrev pub collections_of : List Settled → List Collection
collections_of ss = map (λ s. s.collection) ss

-- each since is the one of the rule
abbrev pub settled_book : CollectionBook → CollectionBook
settled_book b = record b { all = settle (capabilities_of b) (collections_of b.all) }

-- a collection was made under this number
pub record IsMade (all : List Settled) (number : ℕ) : Type 0 where
  pub low : 0 < number
  pub high : number ≤ length all

-- ---- creation

-- the policy that is said, or the default
abbrev pub keep_of : Option Keep → Keep
keep_of None = Lag 1
keep_of (Some keep) = keep

-- what is kept for its own sake at first: all from the as-of on, and nothing where it is made for a peek
abbrev pub implied_of : Option Keep → ℕ → Frontier
implied_of None as_of = Done
implied_of (Some keep) as_of = At as_of

-- a new collection with its number, readable from its as-of on
abbrev pub made : ℕ → NewCollection → Settled
made number new = record {
  collection = record {
    number = number;
    name = new.name;
    kind = new.kind;
    item = new.item;
    cluster = new.cluster;
    plan = new.plan;
    inputs = new.inputs;
    as_of = new.as_of;
    keep = keep_of new.policy;
    implied = implied_of new.policy new.as_of;
    upper = new.as_of;
  };
  since = At new.as_of;
}

-- a collection more, of which nothing was told
abbrev pub with_collection : NewCollection → CollectionBook → CollectionBook
with_collection new b = record b { all = b.all ++ made (length b.all + 1) new ∷ []; told = b.told ++ At 0 ∷ [] }

-- ---- changes of one collection

-- a collection changed where it has this number. Its since stays
abbrev pub changed : ℕ → (Collection → Collection) → Settled → Settled
changed number change s = if s.collection.number == number then record s { collection = change s.collection } else s

-- the collection of this number changed
abbrev pub with_changed : ℕ → (Collection → Collection) → CollectionBook → CollectionBook
with_changed number change b = record b { all = map (changed number change) b.all }

-- the collection once it has come so far, or farther
abbrev pub come_past : ℕ → Collection → Collection
come_past upper c = come_to (max c.upper upper) c

-- ---- peeks

-- a peek more on a collection at a time
abbrev pub with_peek : ℕ → ℕ → CollectionBook → CollectionBook
with_peek number time b = record b { peeks = b.peeks ++ record { collection = number; time = time } ∷ [] }

-- what is kept is that of a peek on a collection at a time
abbrev pub is_on : ℕ → ℕ → Capability → Bool
is_on number time one = one.collection == number && one.time == time

-- a peek is on a collection at a time
abbrev pub is_peeked : ℕ → ℕ → List Capability → Bool
is_peeked number time peeks = list_any (is_on number time) peeks

-- without the first that is on a collection at a time
abbrev pub without_first : ℕ → ℕ → List Capability → List Capability
without_first number time [] = []
without_first number time (one ∷ peeks) = if is_on number time one then peeks else one ∷ without_first number time peeks

-- a peek less on a collection at a time
abbrev pub without_peek : ℕ → ℕ → CollectionBook → CollectionBook
without_peek number time b = record b { peeks = without_first number time b.peeks }

-- ---- what is read and told

-- the upper of the collection of this number, 0 where there is none
abbrev pub upper_of : ℕ → List Settled → ℕ
upper_of number [] = 0
upper_of number (s ∷ ss) = if s.collection.number == number then s.collection.upper else upper_of number ss

-- what stands at a place, time 0 where nothing does
abbrev pub told_found : Option Frontier → Frontier
told_found None = At 0
told_found (Some f) = f

-- what was told of the collection of this number
abbrev pub told_of : ℕ → List Frontier → Frontier
told_of number told = told_found (slice_get told (number - 1))

-- so much told of the collection of this number, beside what was told of it before
abbrev pub with_told : ℕ → Frontier → CollectionBook → CollectionBook
with_told number f b = record b { told = slice_set b.told (number - 1) (join (told_of number b.told) f) }
