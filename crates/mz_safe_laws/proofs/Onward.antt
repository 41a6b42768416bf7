-- What is kept of collections and capabilities, and what an entry may do to them.
use Rattle.std.proofs.Common.{ℕ, ◌+◌, ◌<◌, ◌≤◌, List, length, subst, arith}
use Rattle.std.specs.List.{AllByRecursion as Each}
use Rattle.mz_time.specs.Frontier.{Le}
use Rattle.mz_rules.specs.Frontiers.{IsWithin}
use Rattle.mz_time.specs.declared.frontier.Frontier.TheVariants.{At}
use Rattle.mz_rules.specs.declared.capability.Collection.{Collection}
use Rattle.mz_rules.specs.Capabilities.{Capability}
use Rattle.mz_rules.specs.Since.{settle, since_or}
use Rattle.mz_statement.specs.Statement.{IsKeep}
use Rattle.mz_rules.proofs.Each.{each_both}
use Rattle.mz_rules.specs.Numbering.{Numbered, Grows}
use Rattle.mz_rules.proofs.Falls.{as_ofs_stay, sinces_rise}
use Rattle.mz_rules.proofs.Numbers.{known_place}
use Rattle.mz_rules.proofs.Held.{capabilities_hold}

-- a capability is kept on a collection that there is, at a time up to the read time
pub record IsPlaced (count read : ℕ) (s : Capability) : Type 0 where
  pub from_one : 1 ≤ s.collection
  pub made : s.collection ≤ count
  pub in_time : s.time ≤ read

-- nothing of a collection is past the read time, and it reads older ones
pub record IsTimely (read : ℕ) (c : Collection) : Type 0 where
  pub created : c.as_of ≤ read
  pub kept : IsWithin read c.implied
  pub come : c.upper ≤ read + 1
  pub fair : IsKeep c.keep
  pub older : Each (λ input. input < c.number) c.inputs

-- what is kept
pub record Core (read : ℕ) (cs : List Collection) (kept : List Capability) : Type 0 where
  pub numbered : Numbered 1 cs
  pub placed : Each (IsPlaced (length cs) read) kept
  pub timely : Each (IsTimely read) cs
  pub from_as_of : Each (λ s. Le (At s.collection.as_of) s.since) (settle kept cs)

-- what an entry may do
pub record Onward (read : ℕ) (cs : List Collection) (kept : List Capability) (then_read : ℕ) (then_cs : List Collection) (after : List Capability) : Type 0 where
  pub a : ℕ
  pub read_rises : read ≤ then_read
  pub numbered : Numbered 1 then_cs
  pub placed : Each (IsPlaced (length then_cs) then_read) after
  pub timely : Each (IsTimely then_read) then_cs
  pub above : Each (λ s. Le (since_or (At a) s.collection (settle kept cs)) (At s.time)) after
  pub grows : Grows (λ number. since_or (At a) number (settle kept cs)) a cs then_cs

-- no since fell
abbrev pub NoneFell : List Capability → List Collection → List Capability → List Collection → Type 0
NoneFell kept cs after then_cs =
    (number : ℕ) → Le (since_or (At 0) number (settle kept cs)) (since_or (At 0) number (settle after then_cs))

-- what comes of it
pub record GoesOn (read : ℕ) (cs : List Collection) (kept : List Capability) (then_read : ℕ) (then_cs : List Collection) (after : List Capability) : Type 0 where
  pub core : Core then_read then_cs after
  pub rises : NoneFell kept cs after then_cs
  pub read_rises : read ≤ then_read

-- then no since falls, and all is kept
unfoldable pub goes_on : (read : ℕ) (cs : List Collection) (kept : List Capability) (then_read : ℕ) (then_cs : List Collection) (after : List Capability)
    → Core read cs kept → Onward read cs kept then_read then_cs after → GoesOn read cs kept then_read then_cs after
goes_on read cs kept then_read then_cs after core o =
    record {
      core = record {
        numbered = o.numbered;
        placed = o.placed;
        timely = o.timely;
        from_as_of = as_ofs_stay 1 o.a kept after cs then_cs core.numbered o.above o.grows core.from_as_of;
      };
      rises = sinces_rise 1 o.a kept after cs then_cs core.numbered o.above o.grows;
      read_rises = o.read_rises;
    }

-- the capabilities that there are, where collections may come
pub still_above : (a read : ℕ) (cs : List Collection) (kept : List Capability) → Core read cs kept
    → Each (λ s. Le (since_or (At a) s.collection (settle kept cs)) (At s.time)) kept
still_above a read cs kept core =
    each_both (IsPlaced (length cs) read) (λ s. Le (since_or (At 0) s.collection (settle kept cs)) (At s.time)) (λ s. Le (since_or (At a) s.collection (settle kept cs)) (At s.time))
    (λ s p q. subst (λ f. Le f (At s.time)) (known_place (At 0) (At a) kept 1 cs core.numbered s.collection p.from_one (let h = p.made in omega arith)) q)
    kept core.placed (capabilities_hold kept cs)
