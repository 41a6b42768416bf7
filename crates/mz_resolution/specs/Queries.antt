-- The relation of a query, given what each name in it stands for.
use Rattle.std.specs.Prelude.{ℕ, ◌+◌, Bool, true, false, ◌&&◌, List, [], ◌∷◌, Option, None, Some, Ok, Err, codes, length, nat_le, if◌then◌else◌}
use Rattle.mz_statement.specs.declared.column.Column.{Column}
use Rattle.mz_statement.specs.declared.query.Select.{Select}
use Rattle.mz_statement.specs.declared.reference.ColumnName.{ColumnName}
use Rattle.mz_statement.specs.declared.reference.Reference.{Reference}
use Rattle.mz_plan.specs.Small.{most_tables}
use Rattle.mz_plan.specs.declared.aggregate.Aggregate.{Aggregate}
use Rattle.mz_plan.specs.declared.condition.Cond.{Cond}
use Rattle.mz_plan.specs.declared.plan.Plan.{Plan, Filter, Project, Join, Union, Group, Distinct}
use Rattle.mz_refusal.specs.declared.refusal.Limited.TheVariants.{Columns}
use Rattle.mz_refusal.specs.declared.refusal.Refusal.TheVariants.{TooMany, TooManyLeaves, WrongType}
use Rattle.mz_resolution.specs.declared.relation.Listing.{Listing}
use Rattle.mz_resolution.specs.declared.relation.Referred.{Referred}
use Rattle.mz_resolution.specs.declared.relation.Relation.{Relation}
use Rattle.mz_resolution.specs.Columns.{Sight, meant, name_or, sight_of}
use Rattle.mz_plan.specs.Types.{same_type}
use Rattle.mz_resolution.specs.Conditions.{condition, equalities}
use Rattle.mz_resolution.specs.Listings.{keys_of, listing}
use Rattle.mz_resolution.specs.Steps.{Step, ◌>>=◌, each}

-- what names stand for
abbrev pub Names : Type 0
Names = List ℕ → Step Relation

-- the relation that a reference names, called by its alias, or by its name where it has none
abbrev pub referred : Names → Reference → Step Referred
referred names reference = do
  relation ← names reference.name
  Ok (record { called = name_or reference.alias reference.name; relation = relation })

-- the relations joined from the left, each with its pairs of places
abbrev pub joined_plan : Plan → List Referred → List (List (ℕ × ℕ)) → Plan
joined_plan plan (next ∷ others) (pairs ∷ more) = joined_plan (Join plan next.relation.plan pairs) others more
joined_plan plan others more = plan

-- then the condition, where there is one
abbrev pub filtered_plan : Option Cond → Plan → Plan
filtered_plan None plan = plan
filtered_plan (Some cond) plan = Filter plan cond

-- then the grouping, where there are keys
abbrev pub grouped_plan : Option (List ℕ) → List Aggregate → Plan → Plan
grouped_plan None aggregates plan = plan
grouped_plan (Some keys) aggregates plan = Group plan keys aggregates

-- then the items, except for `*`
abbrev pub projected_plan : Option (List ℕ) → Plan → Plan
projected_plan None plan = plan
projected_plan (Some places) plan = Project plan places

-- then DISTINCT, where it is written
abbrev pub distinct_plan : Bool → Plan → Plan
distinct_plan false plan = plan
distinct_plan true plan = Distinct plan

-- how many tables references name together
abbrev pub tables_of : List Referred → ℕ
tables_of [] = 0
tables_of (first ∷ others) = first.relation.tables + tables_of others

-- the relation of a select once each part is found
abbrev pub select_of :
    Referred → List Referred → Select → List (List (ℕ × ℕ)) → Option Cond → Option (List ℕ) → Listing → Relation
select_of first others select pairs cond keys found = record {
  columns = found.columns;
  plan = distinct_plan select.distinct (projected_plan found.places (grouped_plan keys found.aggregates
      (filtered_plan cond (joined_plan first.relation.plan others pairs))));
  tables = first.relation.tables + tables_of others;
}

-- how many columns a table, a view or a result may have
abbrev pub most_columns : ℕ
most_columns = 16

-- a result has no more columns than it may have
abbrev pub narrow : Relation → Step Relation
narrow relation = if nat_le (length relation.columns) most_columns then Ok relation else Err (TooMany Columns most_columns)

-- the place of the column that a name means
abbrev pub place_meant : Sight → ColumnName → Step ℕ
place_meant sight column = do
  seen ← meant sight column
  Ok seen.place

-- the relation of a select over its references: the equalities of its JOINs, its condition, its GROUP BY and its items, in this
-- order, and last the number of its columns
abbrev pub select_over : Sight → Referred → List Referred → Select → Step Relation
select_over sight first others select = do
  pairs ← equalities sight 1 select.joins
  cond ← condition sight select.test
  places ← each (place_meant sight) select.group
  found ← listing sight (keys_of select places) select.items
  narrow (select_of first others select pairs cond (keys_of select places) found)

-- the relation of a select: first its references in order
abbrev pub selected : Names → Select → Step Relation
selected names select = do
  first ← referred names select.first
  others ← each (λ join. referred names join.reference) select.joins
  select_over (sight_of (first ∷ others)) first others select

-- two lists of columns have the same types
abbrev pub same_types : List Column → List Column → Bool
same_types [] [] = true
same_types (one ∷ ones) (other ∷ others) = same_type one.kind other.kind && same_types ones others
same_types ones others = false

-- UNION ALL: each select has the types of the first, whose names stay, and they are nested from the left
abbrev pub united : Relation → List Relation → Step Relation
united whole [] = Ok whole
united whole (next ∷ others) =
    if same_types whole.columns next.columns
    then united (record {
      columns = whole.columns;
      plan = Union whole.plan next.plan;
      tables = whole.tables + next.tables;
    }) others
    else Err (WrongType (codes "union"))

-- a query names no more tables than it may
abbrev pub small : Relation → Step Relation
small relation = if nat_le relation.tables most_tables then Ok relation else Err (TooManyLeaves relation.tables)

-- the relation of a query: each select, then their types, and last the number of tables. A query has a select
abbrev pub queried : Names → List Select → Step Relation
queried names [] = Err (TooManyLeaves 0)
queried names (select ∷ selects) = do
  first ← selected names select
  others ← each (selected names) selects
  whole ← united first others
  small whole
