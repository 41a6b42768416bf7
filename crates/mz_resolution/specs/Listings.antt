-- What the items of a select give: its columns, and where they are in the rows below.
use Rattle.std.specs.Prelude.{ℕ, ◌+◌, ◌==◌, Bool, true, false, ◌||◌, List, [], ◌∷◌, Option, None, Some, Ok, Err, codes, filter_map, length, map, if◌then◌else◌}
use Rattle.std.specs.List.{list_any, position}
use Rattle.mz_statement.specs.declared.column.Column.{Column}
use Rattle.mz_statement.specs.declared.column.ColumnType.{ColumnType}
use Rattle.mz_statement.specs.declared.column.ColumnType.TheVariants as kind
use Rattle.mz_statement.specs.declared.item.Expression.{Expression}
use Rattle.mz_statement.specs.declared.item.Expression.TheVariants as expression
use Rattle.mz_statement.specs.declared.item.SelectItem.{SelectItem}
use Rattle.mz_statement.specs.declared.query.Select.{Select}
use Rattle.mz_statement.specs.declared.reference.ColumnName.{ColumnName}
use Rattle.mz_plan.specs.declared.aggregate.Aggregate.{Aggregate}
use Rattle.mz_plan.specs.declared.aggregate.Aggregate.TheVariants as aggregate
use Rattle.mz_refusal.specs.declared.refusal.Refusal.TheVariants.{WrongType}
use Rattle.mz_resolution.specs.declared.relation.ListedItem.{ListedItem}
use Rattle.mz_resolution.specs.declared.relation.Listing.{Listing}
use Rattle.mz_resolution.specs.Columns.{SeenColumn, Sight, column_text, meant, name_or}
use Rattle.mz_plan.specs.Types.{same_type}
use Rattle.mz_resolution.specs.Steps.{Step, ◌>>=◌}

-- a column of a result
abbrev pub column_as : Option (List ℕ) → List ℕ → ColumnType → Column
column_as alias name of_type = record { name = name_or alias name; kind = of_type }

-- how many columns the keys of a grouping have, none where there is no grouping
abbrev pub keys_before : Option (List ℕ) → ℕ
keys_before None = 0
keys_before (Some keys) = length keys

-- an aggregate stands behind the keys and the aggregates before it
abbrev pub behind : Option (List ℕ) → ℕ → Column → Aggregate → ListedItem
behind keys before column found =
    record { column = column; place = keys_before keys + before; aggregate = Some found }

-- a column at this place; where there is none it is no key
abbrev pub key_at : ColumnName → Column → Option ℕ → Step ListedItem
key_at name column None = Err (WrongType (column_text name))
key_at name column (Some place) = Ok (record { column = column; place = place; aggregate = None })

-- a column is at its place, or in a grouping at its first place among the keys, of which it has to be one
abbrev pub plain : Option (List ℕ) → ColumnName → Column → SeenColumn → Step ListedItem
plain None name column seen = Ok (record { column = column; place = seen.place; aggregate = None })
plain (Some keys) name column seen = key_at name column (position (λ key. key == seen.place) keys)

-- the column of SUM, which has to be an INT
abbrev pub summed : Option (List ℕ) → ℕ → Option (List ℕ) → ColumnName → SeenColumn → Step ListedItem
summed keys before alias name seen =
    if same_type seen.kind kind.Int
    then Ok (behind keys before (column_as alias (codes "sum") kind.Wide) (aggregate.Sum seen.place))
    else Err (WrongType (column_text name))

-- an expression with the name behind AS, where there is one, and so many aggregates before it. COUNT and SUM are WIDE, MIN
-- and MAX have the type of their column. Without AS it is called by its column or by its aggregate
abbrev pub expressed : Sight → Option (List ℕ) → ℕ → Option (List ℕ) → Expression → Step ListedItem
expressed sight keys before alias (expression.Column name) = do
  seen ← meant sight name
  plain keys name (column_as alias name.name seen.kind) seen
expressed sight keys before alias expression.Count =
    Ok (behind keys before (column_as alias (codes "count") kind.Wide) aggregate.Count)
expressed sight keys before alias (expression.Sum name) = do
  seen ← meant sight name
  summed keys before alias name seen
expressed sight keys before alias (expression.Min name) = do
  seen ← meant sight name
  Ok (behind keys before (column_as alias (codes "min") seen.kind) (aggregate.Min seen.place))
expressed sight keys before alias (expression.Max name) = do
  seen ← meant sight name
  Ok (behind keys before (column_as alias (codes "max") seen.kind) (aggregate.Max seen.place))

-- 1 for an aggregate
abbrev pub aggregates_in : Option Aggregate → ℕ
aggregates_in None = 0
aggregates_in (Some found) = 1

-- the items in order, with so many aggregates before them
abbrev pub items_from : Sight → Option (List ℕ) → ℕ → List SelectItem → Step (List ListedItem)
items_from sight keys before [] = Ok []
items_from sight keys before (item ∷ items) = do
  first ← expressed sight keys before item.alias item.expression
  others ← items_from sight keys (before + aggregates_in first.aggregate) items
  Ok (first ∷ others)

-- a column under its own name
abbrev pub own_column : SeenColumn → Column
own_column seen = record { name = seen.name; kind = seen.kind }

-- all columns under their own names, which is what `*` gives
abbrev pub star : Sight → Option (List ℕ) → Step Listing
star sight None = Ok (record { columns = map own_column sight.columns; places = None; aggregates = [] })
star sight (Some keys) = Err (WrongType (codes "*"))

-- what these items give
abbrev pub listing_of : List ListedItem → Listing
listing_of items = record {
  columns = map (λ item. item.column) items;
  places = Some (map (λ item. item.place) items);
  aggregates = filter_map (λ item. item.aggregate) items;
}

-- what the items of a select give over the keys of its grouping
abbrev pub listing : Sight → Option (List ℕ) → Option (List SelectItem) → Step Listing
listing sight keys None = star sight keys
listing sight keys (Some items) = items_from sight keys 0 items >>= λ found. Ok (listing_of found)

-- an expression is an aggregate
abbrev pub is_aggregate : Expression → Bool
is_aggregate (expression.Column name) = false
is_aggregate other = true

-- one of the items is an aggregate
abbrev pub has_aggregate : Option (List SelectItem) → Bool
has_aggregate None = false
has_aggregate (Some items) = list_any (λ item. is_aggregate item.expression) items

-- there is a GROUP BY
abbrev pub has_group : List ColumnName → Bool
has_group [] = false
has_group (column ∷ columns) = true

-- the keys of a grouping, where there is a GROUP BY or an aggregate
abbrev pub keys_of : Select → List ℕ → Option (List ℕ)
keys_of select places = if has_group select.group || has_aggregate select.items then Some places else None
