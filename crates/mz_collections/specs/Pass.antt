-- The pass over the collections that aren't done.
use Rattle.std.specs.Prelude.{◌≡◌, ℕ, ◌-◌, ◌<◌, ◌≤◌, Bool, true, List, [], ◌∷◌, ◌++◌, length, slice_set, ⊤}
use Rattle.std.specs.List.{AllByRecursion as Each}
use Rattle.mz_time.specs.declared.frontier.Frontier.{Frontier}
use Rattle.mz_time.specs.declared.frontier.Frontier.TheVariants.{Done}
use Rattle.mz_time.specs.Frontier.{meet}
use Rattle.mz_rules.specs.declared.capability.Settled.{Settled}
use Rattle.mz_rules.specs.Capabilities.{Capability}
use Rattle.mz_rules.specs.Frontiers.{is_at}
use Rattle.mz_rules.specs.Numbering.{Numbered}
use Rattle.mz_rules.specs.Since.{least_reader, own, settle}
use Rattle.mz_collections.specs.CollectionBook.{collections_of}
use Rattle.mz_collections.specs.Kept.{live_of, passed_to, passed_on, put_at, AreIdle, ReadOlderOnes}

-- a collection with another since
abbrev pub at_since : Settled → Frontier → Settled
at_since s f = record { collection = s.collection; since = f }

-- a collection can be settled in place: there is one of this number, and it reads older ones
pub record CanSettle (number : ℕ) (all : List Settled) (over : List Frontier) : Type 0 where
  pub low : 0 < number
  pub high : number ≤ length all
  pub as_many : length over ≡ length all
  pub numbered : Numbered 1 (collections_of all)
  pub older : ReadOlderOnes all

-- the since to which a collection comes by what was passed on to it
abbrev pub since_at : List Capability → ℕ → Settled → List Frontier → Frontier
since_at kept number s over = meet (own kept s.collection) (passed_to number over)

-- one collection is settled, and its since is passed on
pub record IsSettledAt (kept : List Capability) (number : ℕ) (s : Settled) (all : List Settled) (over : List Frontier) (live : Bool) (new : List Settled) (passed : List Frontier) : Type 0 where
  pub test : live ≡ is_at (since_at kept number s over)
  pub put : new ≡ slice_set all (number - 1) (at_since s (since_at kept number s over))
  pub on : (n : ℕ) → 0 < n
      → passed_to n passed ≡ passed_on (since_at kept number s over) s.collection.inputs n (put_at Done number n (passed_to n over))
  pub as_many : length passed ≡ length over

-- the sinces of these collections, and of those after: what is done stays so
abbrev pub StayDone : List Settled → List Settled → Type 0
StayDone [] [] = ⊤
StayDone [] (y ∷ ys) = ⊥
StayDone (x ∷ xs) [] = ⊥
StayDone (x ∷ xs) (y ∷ ys) = ((y.collection ≡ x.collection) × (x.since ≡ Done → y.since ≡ Done)) × StayDone xs ys

-- half-way: the older ones are as they were, the newer ones are settled, and what these keep is passed on to the older ones
pub record IsHalfway (kept : List Capability) (before all : List Settled) (over : List Frontier) (live : List ℕ) (place : ℕ) : Type 0 where
  pub older : List Settled
  pub were : List Settled
  pub newer : List Settled
  pub was : before ≡ older ++ were
  pub is : all ≡ older ++ newer
  pub settled : newer ≡ settle kept (collections_of were)
  pub stay : StayDone were newer
  pub passed : Each (λ s. is_at s.since ≡ true → passed_to s.collection.number over ≡ least_reader s.collection.number newer) older
  pub idle : AreIdle over newer
  pub listed : live ≡ live_of older ++ live_of newer
  pub here : place ≡ length (live_of older)
