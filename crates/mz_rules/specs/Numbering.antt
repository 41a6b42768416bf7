-- What holds of the collections of a log: their numbers, what they read, and how an entry changes them.
use Rattle.std.specs.Prelude.{◌≡◌, ℕ, ◌+◌, ◌<◌, ◌≤◌, List, [], ◌∷◌, length, ⊤}
use Rattle.std.specs.List.{AllByRecursion as Each}
use Rattle.mz_time.specs.declared.frontier.Frontier.{Frontier}
use Rattle.mz_time.specs.declared.frontier.Frontier.TheVariants.{At}
use Rattle.mz_time.specs.Frontier.{Le}
use Rattle.mz_rules.specs.declared.capability.Collection.{Collection}

-- the collections have the numbers from this one on
abbrev pub Numbered : ℕ → List Collection → Type 0
Numbered first [] = ⊤
Numbered first (c ∷ cs) = (c.number ≡ first) × Numbered (first + 1) cs

-- one of the collections, which are numbered from the first number on, has this number
pub record IsThere (first : ℕ) (cs : List Collection) (number : ℕ) : Type 0 where
  pub low : first ≤ number
  pub high : number < first + length cs

-- each reads older ones alone
abbrev pub ReadOlder : List Collection → Type 0
ReadOlder cs = Each (λ c. Each (λ input. input < c.number) c.inputs) cs

-- a collection after an entry, seen from the one before: it is the same, and kept no longer for its own sake
pub record Moved (before after : Collection) : Type 0 where
  pub same_number : after.number ≡ before.number
  pub same_inputs : after.inputs ≡ before.inputs
  pub same_as_of : after.as_of ≡ before.as_of
  pub raises : Le before.implied after.implied

-- a collection that an entry makes as of a time, where a function bounds what each number was allowed to forget before: it is kept from
-- that time on, what it reads may still be read then, and nothing stands on it earlier
pub record IsNew (bound : ℕ → Frontier) (time : ℕ) (c : Collection) : Type 0 where
  pub own_as_of : c.as_of ≡ time
  pub kept : Le (At time) c.implied
  pub inputs_before : Each (λ input. Le (bound input) (At time)) c.inputs
  pub own_bound : Le (At time) (bound c.number)

-- the collections after an entry: those before, moved, and then new ones
abbrev pub Grows : (ℕ → Frontier) → ℕ → List Collection → List Collection → Type 0
Grows bound time [] news = Each (IsNew bound time) news
Grows bound time (c ∷ cs) [] = ⊥
Grows bound time (c ∷ cs) (d ∷ ds) = Moved c d × Grows bound time cs ds
