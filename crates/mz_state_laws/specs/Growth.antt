-- How states follow each other.
use Rattle.std.specs.Prelude.{◌≡◌, ◌≤◌, ◌==◌, ◌⊎◌, ◌++◌, ℕ, Bool, false, Contains, List}
use Rattle.std.specs.List.{AllByRecursion as Each, list_any}
use Rattle.mz_plan.specs.declared.item.Item.{Item}
use Rattle.mz_plan.specs.declared.plan.Plan.{Plan}
use Rattle.mz_plan.specs.declared.resolved.Resolved.{Resolved}
use Rattle.mz_plan.specs.declared.resolved.Resolved.TheVariants as asked
use Rattle.mz_log.specs.Sequential.{Bags, Sequential}

-- what is asked for removes the item of this number, or changes the rows of the table of this
-- number
abbrev pub touches : Resolved → ℕ → Bool
touches (asked.Drop id) number = id == number
touches (asked.Insert table rows) number = table == number
touches (asked.Delete table cond) number = table == number
touches other number = false

-- the items, their numbers and the plans of indexes are as before
pub record KeepsItems (before after : Sequential) : Type 0 where
  pub items : after.database.items ≡ before.database.items
  pub next : after.database.next ≡ before.database.next
  pub plans : after.plans ≡ before.plans

-- a bag has this number
abbrev pub has_bag : ℕ → Bags → Bool
has_bag number bags = list_any (λ bag. bag.0 == number) bags

-- an item of a later state was there, or has a number that wasn't used
abbrev pub IsOldOrNew : Sequential → Item → Type 0
IsOldOrNew before item = Contains before.database.items item ⊎ (before.database.next ≤ item.id)

-- a state continues another: the next number doesn't fall, no number is used again, and the plans
-- of indexes made since stand before those that there were
pub record Continues (before after : Sequential) : Type 0 where
  pub next : before.database.next ≤ after.database.next
  pub items : Each (IsOldOrNew before) after.database.items
  pub newer : List (ℕ × Plan)
  pub plans : after.plans ≡ newer ++ before.plans
  pub made : Each (λ index. before.database.next ≤ index.0) newer
