-- What a command that is resolved in a catalog names there.
use Rattle.std.specs.Prelude.{◌≡◌, ℕ, true, List, Some, Ok, IsSome, ⊤}
use Rattle.mz_statement.specs.declared.statement.Statement.{Statement}
use Rattle.mz_plan.specs.Items.{is_table, numbered}
use Rattle.mz_plan.specs.declared.item.Item.{Item}
use Rattle.mz_plan.specs.declared.resolved.Resolved.{Resolved}
use Rattle.mz_plan.specs.declared.resolved.Resolved.TheVariants.{Drop, Insert, Delete}
use Rattle.mz_resolution.specs.Resolution.{resolution}

-- some statement asks for this over the items, by the indexes of some cluster
pub record IsAsked (items : List Item) (asked : Resolved) : Type 0 where
  pub cluster : ℕ
  pub statement : Statement
  pub is : resolution (record { items = items; cluster = cluster }) statement ≡ Ok asked

-- there is a table of this number
abbrev pub HasTable : List Item → ℕ → Type 0
HasTable items id = (item : Item) × (numbered id items ≡ Some item) × (is_table item.kind ≡ true)

-- what a DROP removes is there, and what an INSERT or a DELETE changes is a table that is there
abbrev pub NamesThere : List Item → Resolved → Type 0
NamesThere items (Drop id) = IsSome (numbered id items)
NamesThere items (Insert table rows) = HasTable items table
NamesThere items (Delete table cond) = HasTable items table
NamesThere items asked = ⊤
