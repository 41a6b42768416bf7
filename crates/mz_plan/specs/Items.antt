-- The items of a catalog: their kinds, what names them, and which depend on which.
use Rattle.std.specs.Prelude.{ℕ, ◌==◌, ◌<◌, Bool, true, false, ◌&&◌, not, List, [], ◌∷◌, map, filter, find, bytes_eq, Option, option_map, if◌then◌else◌}
use Rattle.std.specs.List.{list_any, AllPairs}
use Rattle.std.specs.Option.{option_map_or}
use Rattle.mz_statement.specs.declared.query.Select.{Select}
use Rattle.mz_statement.specs.declared.reference.Reference.{Reference}
use Rattle.mz_statement.specs.declared.statement.Statement.{Statement}
use Rattle.mz_statement.specs.declared.statement.Statement.TheVariants.{Query, CreateView}
use Rattle.mz_plan.specs.declared.item.Item.{Item}
use Rattle.mz_plan.specs.declared.item.ItemKind.{ItemKind}
use Rattle.mz_plan.specs.declared.item.ItemKind.TheVariants.{Table, View, Index}

-- ---- kinds

-- a table
abbrev pub is_table : ItemKind → Bool
is_table (Table columns) = true
is_table kind = false

-- a view
abbrev pub is_view : ItemKind → Bool
is_view (View columns query) = true
is_view kind = false

-- an index
abbrev pub is_index : ItemKind → Bool
is_index (Index on plan) = true
is_index kind = false

-- what is of this kind is an index on the item of this number
abbrev pub is_on : ℕ → ItemKind → Bool
is_on relation (Index on plan) = on == relation
is_on relation kind = false

-- ---- names and numbers

-- the item of this name, where there is one
abbrev pub named : List ℕ → List Item → Option Item
named name items = find (λ item. bytes_eq name item.name) items

-- the item of this number, where there is one
abbrev pub numbered : ℕ → List Item → Option Item
numbered id items = find (λ item. item.id == id) items

-- the number of the oldest index on an item that is in this cluster, where there is one
abbrev pub oldest_index : List Item → ℕ → ℕ → Option ℕ
oldest_index items cluster on = option_map (λ item. item.id) (find (λ item. item.cluster == cluster && is_on on item.kind) items)

-- the items are in order of their numbers
abbrev pub Ascend : List Item → Type 0
Ascend items = AllPairs (λ earlier later. earlier.id < later.id) items

-- the other items, in their order
abbrev pub others : ℕ → List Item → List Item
others id items = filter (λ item. not (item.id == id)) items

-- ---- dependents

-- the query that a statement asks or gives a name, without a select for all other statements
abbrev pub query_of : Statement → List Select
query_of (Query query as_of) = query
query_of (CreateView name query) = query
query_of statement = []

-- the relations that a select reads: the one behind FROM, and those behind its JOINs
abbrev pub references : Select → List Reference
references select = select.first ∷ map (λ join. join.reference) select.joins

-- a query names a relation where one of its selects reads it
abbrev pub names : List Select → List ℕ → Bool
names query name = list_any (λ select. list_any (λ reference. bytes_eq reference.name name) (references select)) query

-- what is of this kind is a view whose query names the table or view, or an index on it
abbrev pub depends : ItemKind → Item → Bool
depends (Table columns) on = false
depends (View columns statement) on = names (query_of statement) on.name
depends (Index of plan) on = of == on.id

-- the items that depend on an item, in order of creation; on an index none does
abbrev pub dependents_on : Item → List Item → List Item
dependents_on on items = if is_index on.kind then [] else filter (λ item. depends item.kind on) items

-- the items that depend on the one of this number
abbrev pub dependents : ℕ → List Item → List Item
dependents id items = option_map_or (λ on. dependents_on on items) (numbered id items) []
