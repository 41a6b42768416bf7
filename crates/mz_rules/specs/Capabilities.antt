-- What holds and peeks keep readable.
use Rattle.std.specs.Prelude.{ℕ, List, ◌++◌, map}
use Rattle.mz_plan.specs.declared.command.PendingPeek.{PendingPeek}
use Rattle.mz_rules.specs.declared.capability.Hold.{Hold}

-- a capability: the collection of this number stays readable at this time
pub record Capability : Type 0 where
  pub collection : ℕ
  pub time : ℕ

-- what a hold keeps
abbrev pub of_hold : Hold → Capability
of_hold hold = record { collection = hold.collection; time = hold.time }

-- what a peek keeps until it is answered
abbrev pub of_peek : PendingPeek → Capability
of_peek peek = record { collection = peek.collection; time = peek.time }

-- what live holds and pending peeks keep
abbrev pub capabilities : List Hold → List PendingPeek → List Capability
capabilities holds peeks = map of_hold holds ++ map of_peek peeks
