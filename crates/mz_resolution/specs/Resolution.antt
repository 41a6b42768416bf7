-- What a statement asks for in a scope, its names resolved to items and places; or the first refusal.
use Rattle.std.specs.Prelude.{ℕ, ◌==◌, Bool, List, [], ◌∷◌, Option, None, Some, Ok, Err, bytes_eq, length, nat_le, reverse, if◌then◌else◌}
use Rattle.mz_value.specs.declared.datum.Datum.{Datum}
use Rattle.mz_statement.specs.declared.column.Column.{Column}
use Rattle.mz_statement.specs.declared.query.Select.{Select}
use Rattle.mz_statement.specs.declared.statement.Statement.{Statement}
use Rattle.mz_statement.specs.declared.statement.Statement.TheVariants as statement
use Rattle.mz_plan.specs.Items.{is_index, is_table, is_view, oldest_index, query_of}
use Rattle.mz_plan.specs.Items as catalogs
use Rattle.mz_plan.specs.declared.item.Item.{Item}
use Rattle.mz_plan.specs.declared.item.ItemKind.{ItemKind}
use Rattle.mz_plan.specs.declared.item.ItemKind.TheVariants.{Table, View, Index}
use Rattle.mz_plan.specs.declared.plan.Plan.{Plan}
use Rattle.mz_plan.specs.declared.plan.Plan.TheVariants as plan
use Rattle.mz_refusal.specs.declared.refusal.Limited.TheVariants.{Columns}
use Rattle.mz_refusal.specs.declared.refusal.Refusal.{Refusal}
use Rattle.mz_refusal.specs.declared.refusal.Refusal.TheVariants.{Syntax, TooMany, UnknownName, WrongType}
use Rattle.mz_plan.specs.declared.resolved.Resolved.{Resolved}
use Rattle.mz_plan.specs.declared.resolved.Resolved.TheVariants as resolved
use Rattle.mz_plan.specs.declared.scope.Scope.{Scope}
use Rattle.mz_resolution.specs.declared.relation.NamedRelation.{NamedRelation}
use Rattle.mz_resolution.specs.declared.relation.Relation.{Relation}
use Rattle.mz_resolution.specs.Columns.{columns_of}
use Rattle.mz_resolution.specs.Columns as seen
use Rattle.mz_plan.specs.Types.{same_type, type_of}
use Rattle.mz_resolution.specs.Conditions.{condition}
use Rattle.mz_resolution.specs.Queries.{Names, most_columns, queried}
use Rattle.mz_resolution.specs.Steps.{Step, ◌>>=◌, unless}

-- ---- relations

-- an index is read in place of the plan of what it is on
abbrev pub leaf_or : Option ℕ → Plan → Plan
leaf_or None below = below
leaf_or (Some index) below = plan.Index index

-- a relation of the item of this number
abbrev pub relation_of : Scope → ℕ → List Column → Plan → ℕ → NamedRelation
relation_of scope item columns below tables = record {
  item = item;
  relation = record { columns = columns; plan = leaf_or (oldest_index scope.items scope.cluster item) below; tables = tables };
}

-- what an item stands for, given what the names in a view's query do: a table is a leaf, a view is its query's plan
abbrev pub item_relation : Scope → Names → Item → ItemKind → Step NamedRelation
item_relation scope names item (Table columns) = Ok (relation_of scope item.id columns (plan.Table item.id) 1)
item_relation scope names item (View columns query) = do
  below ← queried names (query_of query)
  Ok (relation_of scope item.id columns below.plan below.tables)
item_relation scope names item (Index on below) = Err (WrongType item.name)

-- a relation without its number
abbrev pub without_number : Step NamedRelation → Step Relation
without_number found = found >>= λ relation. Ok relation.relation

-- what a name stands for among items, the newest first. The names in a view's query are those of older items
abbrev pub named : Scope → List Item → List ℕ → Step NamedRelation
named scope [] name = Err (UnknownName name)
named scope (item ∷ older) name =
    if bytes_eq name item.name then item_relation scope (λ word. without_number (named scope older word)) item item.kind
    else named scope older name

-- the items of a scope, the newest first
abbrev pub newest_first : Scope → List Item
newest_first scope = reverse scope.items

-- the relation of a query in a scope
abbrev pub query_in : Scope → List Select → Step Relation
query_in scope query = queried (λ word. without_number (named scope (newest_first scope) word)) query

-- ---- commands

-- an item, where there is one; else the name is unknown
abbrev pub item_of : List ℕ → Option Item → Step Item
item_of name None = Err (UnknownName name)
item_of name (Some item) = Ok item

-- the item of a name
abbrev pub item_in : Scope → List ℕ → Step Item
item_in scope name = item_of name (catalogs.named name scope.items)

-- a DROP of an item, which has to be of its kind
abbrev pub dropped : Scope → (ItemKind → Bool) → List ℕ → Step Resolved
dropped scope is_kind name = do
  item ← item_in scope name
  if is_kind item.kind then Ok (resolved.Drop item.id) else Err (WrongType name)

-- the columns of a table
abbrev pub table_columns : List ℕ → ItemKind → Step (List Column)
table_columns name (Table columns) = Ok columns
table_columns name kind = Err (WrongType name)

-- the first value that isn't of its column's type names the column
abbrev pub misplaced : List Column → List Datum → Option Refusal
misplaced (column ∷ columns) (value ∷ values) =
    if same_type column.kind (type_of value) then misplaced columns values else Some (WrongType column.name)
misplaced columns values = None

-- a row has a value for each column, or names the table
abbrev pub misfit : List ℕ → List Column → List Datum → Option Refusal
misfit table columns row = if length row == length columns then misplaced columns row else Some (WrongType table)

-- the first of two refusals
abbrev pub first_of : Option Refusal → Option Refusal → Option Refusal
first_of (Some refusal) later = Some refusal
first_of None later = later

-- the first of some rows that doesn't fit
abbrev pub first_misfit : List ℕ → List Column → List (List Datum) → Option Refusal
first_misfit table columns [] = None
first_misfit table columns (row ∷ rows) = first_of (misfit table columns row) (first_misfit table columns rows)

-- what a condition over one table sees
abbrev pub table_sight : List ℕ → List Column → seen.Sight
table_sight table columns = record { called = table ∷ []; columns = columns_of 0 0 table 0 columns }

-- ---- statements

-- what a query or a command asks for. Views are replaced by their queries at the moment of use. What is neither is refused
-- at its first byte
abbrev pub resolution : Scope → Statement → Step Resolved
resolution scope (statement.Query query as_of) = do
  relation ← query_in scope query
  Ok (resolved.Query relation.plan)
resolution scope (statement.CreateTable name columns) =
    if nat_le (length columns) most_columns then Ok (resolved.CreateTable name columns) else Err (TooMany Columns most_columns)
resolution scope (statement.CreateView name query) = do
  relation ← query_in scope query
  Ok (resolved.CreateView name relation.columns (statement.Query query None))
resolution scope (statement.CreateIndex name on) = do
  found ← named scope (newest_first scope) on
  Ok (resolved.CreateIndex name found.item found.relation.plan scope.cluster)
resolution scope (statement.DropTable name) = dropped scope is_table name
resolution scope (statement.DropView name) = dropped scope is_view name
resolution scope (statement.DropIndex name) = dropped scope is_index name
resolution scope (statement.Insert name rows) = do
  item ← item_in scope name
  columns ← table_columns name item.kind
  unless (first_misfit name columns rows) (resolved.Insert item.id rows)
resolution scope (statement.Delete name test) = do
  item ← item_in scope name
  columns ← table_columns name item.kind
  cond ← condition (table_sight name columns) test
  Ok (resolved.Delete item.id cond)
resolution scope other = Err (Syntax 0)
