-- The sequential object: what one statement after another does and is told, on one thread.
use Rattle.std.specs.Prelude.{ℕ, ◌+◌, Bool, true, List, [], ◌∷◌, ◌++◌, Option, None, Some, Ok, Err, bytes_eq, is_some, length, nat_le, if◌then◌else◌}
use Rattle.std.specs.List.{list_any}
use Rattle.std.specs.FinMap.{entries}
use Rattle.mz_value.specs.declared.datum.Datum.{Datum}
use Rattle.mz_bag.specs.Bag.{Counts}
use Rattle.mz_bag.specs.Mass.{mass}
use Rattle.mz_bag.specs.Weighted.{Weighted, bag_of, each_once, negated}
use Rattle.mz_statement.specs.declared.column.Column.{Column}
use Rattle.mz_statement.specs.declared.statement.Statement.{Statement}
use Rattle.mz_plan.specs.Condition.{holds}
use Rattle.mz_plan.specs.Items.{dependents, named}
use Rattle.mz_plan.specs.Meaning.{meaning, index_rows, table_rows}
use Rattle.mz_plan.specs.Operators.{filtered}
use Rattle.mz_plan.specs.Small.{most_rows}
use Rattle.mz_plan.specs.declared.condition.Cond.{Cond}
use Rattle.mz_plan.specs.declared.item.Item.{Item}
use Rattle.mz_plan.specs.declared.item.ItemKind.{ItemKind}
use Rattle.mz_plan.specs.declared.item.ItemKind.TheVariants.{Table, View, Index}
use Rattle.mz_plan.specs.declared.plan.Plan.{Plan}
use Rattle.mz_plan.specs.declared.resolved.Resolved.{Resolved}
use Rattle.mz_plan.specs.declared.resolved.Resolved.TheVariants as asked
use Rattle.mz_refusal.specs.declared.refusal.Limited.TheVariants.{Items}
use Rattle.mz_refusal.specs.declared.refusal.Refusal.{Refusal}
use Rattle.mz_refusal.specs.declared.refusal.Refusal.TheVariants.{NameTaken, HasDependents, TableFull, TooMany}
use Rattle.mz_resolution.specs.Resolution.{first_of, resolution}
use Rattle.mz_resolution.specs.Steps.{Step}
use Rattle.mz_log.specs.declared.reply.SeqReply.{SeqReply}
use Rattle.mz_log.specs.declared.reply.SeqReply.TheVariants.{Created, Dropped, Inserted, Deleted, Refused}
use Rattle.mz_log.specs.declared.reply.Reply.{Reply}
use Rattle.mz_log.specs.declared.reply.Reply.TheVariants as reply
use Rattle.mz_log.specs.Sequential.{Database, Sequential, Change, Made, Removed, Moved, after_changes, bag_at}

-- what a statement is told: a command what a round replies, a query its rows with their counts, in order of values
pub data Response : Type 0 where
  Command : (reply : SeqReply) → Response
  Rows : (rows : Weighted) → Response

-- the reply to a call whose statement is told this, at this time
abbrev pub reply_at : ℕ → Response → Reply
reply_at time (Command told) = reply.Command told
reply_at time (Rows rows) = reply.Rows time rows

-- what a statement comes to: what it is told, and what it changes
pub record Effect : Type 0 where
  pub response : Response
  pub changes : List Change

-- a command that is refused changes nothing
abbrev pub refused : Refusal → Effect
refused refusal = record { response = Command (Refused refusal); changes = [] }

-- a command makes this one change, unless there is a refusal
abbrev pub changing : Option Refusal → SeqReply → Change → Effect
changing None told change = record { response = Command told; changes = change ∷ [] }
changing (Some refusal) told change = refused refusal

-- ---- CREATE

-- one of the columns has this name
abbrev pub has_column : List Column → List ℕ → Bool
has_column columns name = list_any (λ column. bytes_eq column.name name) columns

-- the first of the columns whose name one before it has, given those that stand before all of them
abbrev pub twin_behind : List Column → List Column → Option Refusal
twin_behind earlier [] = None
twin_behind earlier (column ∷ columns) =
    if has_column earlier column.name then Some (NameTaken column.name) else twin_behind (earlier ++ column ∷ []) columns

-- an item has the name
abbrev pub taken : List Item → List ℕ → Option Refusal
taken items name = if is_some (named name items) then Some (NameTaken name) else None

-- how many items there may be
abbrev pub most_items : ℕ
most_items = 1024

-- there are as many items as there may be
abbrev pub crowded : List Item → Option Refusal
crowded items = if nat_le most_items (length items) then Some (TooMany Items most_items) else None

-- why an item with these columns can't be made: a column has the name of an earlier one, the name is taken, or there are as many
-- items as there may be
abbrev pub unmakable : List Item → List ℕ → List Column → Option Refusal
unmakable items name columns = first_of (twin_behind [] columns) (first_of (taken items name) (crowded items))

-- the item that is made next
abbrev pub next_item : Database → List ℕ → ℕ → ItemKind → Item
next_item database name cluster kind = record { id = database.next; name = name; cluster = cluster; kind = kind }

-- an item of this name and kind is made in a cluster; it has these columns
abbrev pub creation : Database → List Column → List ℕ → ℕ → ItemKind → Effect
creation database columns name cluster kind =
    changing (unmakable database.items name columns) (Created database.next) (Made (next_item database name cluster kind))

-- ---- DROP

-- the first of the items that depend on one keeps it
abbrev pub held_back : List Item → Option Refusal
held_back [] = None
held_back (first ∷ others) = Some (HasDependents first.name)

-- the item of this number is removed, unless something depends on it
abbrev pub removal : Database → ℕ → Effect
removal database id = changing (held_back (dependents id database.items)) Dropped (Removed id)

-- ---- INSERT and DELETE

-- how many rows a bag has, each as often as it is there
abbrev pub rows_in : Counts → ℕ
rows_in bag = mass (entries bag)

-- so many rows can't come to a table that has so many
abbrev pub overfull : ℕ → ℕ → Option Refusal
overfull has adds = if nat_le (has + adds) most_rows then None else Some (TableFull has adds)

-- rows come to a table, one that is named twice twice, unless it would have more than a table may
abbrev pub insertion : Database → ℕ → List (List Datum) → Effect
insertion database table rows =
    changing (overfull (rows_in (bag_at database.bags table)) (length rows)) (Inserted (length rows)) (Moved table (each_once rows))

-- a row meets the condition, where there is one
abbrev pub meets : Option Cond → List Datum → Bool
meets None row = true
meets (Some cond) row = holds cond row

-- the rows of a table that meet the condition, with their counts
abbrev pub met : Database → ℕ → Option Cond → Weighted
met database table cond = filtered (meets cond) (entries (bag_at database.bags table))

-- these rows go, each as often as it is there
abbrev pub deletion : ℕ → Weighted → Effect
deletion table rows = changing None (Deleted (mass rows)) (Moved table (negated rows))

-- ---- queries

-- the rows of a plan over the tables, and over all indexes that were made
abbrev pub rows_of : Sequential → Plan → Weighted
rows_of state plan = meaning (table_rows state.database.bags) (index_rows (table_rows state.database.bags) state.plans) plan

-- a query is told the rows that are there, and changes nothing
abbrev pub answered : Weighted → Effect
answered rows = record { response = Rows (entries (bag_of rows)); changes = [] }

-- ---- statements

-- what a command or a query comes to. Tables and views belong to no cluster, which is told as 0
abbrev pub effect : Sequential → Resolved → Effect
effect state (asked.CreateTable name columns) = creation state.database columns name 0 (Table columns)
effect state (asked.CreateView name columns query) = creation state.database columns name 0 (View columns query)
effect state (asked.CreateIndex name on plan cluster) = creation state.database [] name cluster (Index on plan)
effect state (asked.Drop id) = removal state.database id
effect state (asked.Insert table rows) = insertion state.database table rows
effect state (asked.Delete table cond) = deletion table (met state.database table cond)
effect state (asked.Query plan) = answered (rows_of state plan)

-- a statement that was carried out: the state that it leaves, what it was told, and what it changed, in order
pub record Outcome : Type 0 where
  pub state : Sequential
  pub response : Response
  pub changes : List Change

-- a state and what a statement comes to there
abbrev pub outcome : Sequential → Effect → Outcome
outcome state effect = record {
  state = after_changes state effect.changes;
  response = effect.response;
  changes = effect.changes;
}

-- a command or a query carried out, once its names are resolved
abbrev pub carried_out : Sequential → Resolved → Outcome
carried_out state asked = outcome state (effect state asked)

-- it is carried out, or its first refusal stands
abbrev pub carried_or_refused : Sequential → Step Resolved → Outcome
carried_or_refused state (Ok asked) = carried_out state asked
carried_or_refused state (Err refusal) = outcome state (refused refusal)

-- a statement carried out in a cluster: its names are resolved over the items there are then, by the indexes of that cluster
unfoldable pub seq : Sequential → ℕ → Statement → Outcome
seq state cluster statement =
    carried_or_refused state (resolution (record { items = state.database.items; cluster = cluster }) statement)
