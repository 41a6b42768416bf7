-- What a change is of.
use Rattle.std.specs.Prelude.{◌≡◌, true, Contains, List, [], ℕ}
use Rattle.mz_plan.specs.Items.{dependents, is_table}
use Rattle.mz_plan.specs.declared.item.Item.{Item}
use Rattle.mz_log.specs.Sequential.{Change, Made, Moved, Removed, Sequential}
use Rattle.mz_state_laws.specs.Reads.{is_there}

-- a table of this number is there
pub record HasTable (items : List Item) (number : ℕ) : Type 0 where
  pub item : Item
  pub there : Contains items item
  pub numbered : item.id ≡ number
  pub table : is_table item.kind ≡ true

-- an item is there, and none depends on it
pub record MayGo (items : List Item) (number : ℕ) : Type 0 where
  pub there : is_there items number ≡ true
  pub free : dependents number items ≡ []

-- a change fits a state: what is made has the next number, what is removed is there and none
-- depends on it, and rows come to a table that is there
abbrev pub ChangeFits : Sequential → Change → Type 0
ChangeFits state (Made item) = item.id ≡ state.database.next
ChangeFits state (Removed number) = MayGo state.database.items number
ChangeFits state (Moved table rows) = HasTable state.database.items table
