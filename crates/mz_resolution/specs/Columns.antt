-- The columns that a select sees, and which of them a name means.
use Rattle.std.specs.Prelude.{ℕ, ◌+◌, Bool, true, ◌&&◌, List, [], ◌∷◌, ◌++◌, Option, None, Some, Ok, Err, codes, bytes_eq, is_some, length, map, if◌then◌else◌}
use Rattle.std.specs.List.{list_any}
use Rattle.mz_statement.specs.declared.column.Column.{Column}
use Rattle.mz_statement.specs.declared.column.ColumnType.{ColumnType}
use Rattle.mz_statement.specs.declared.reference.ColumnName.{ColumnName}
use Rattle.mz_refusal.specs.declared.refusal.Refusal.TheVariants.{UnknownColumn}
use Rattle.mz_resolution.specs.declared.relation.Referred.{Referred}
use Rattle.mz_resolution.specs.Steps.{Step}

-- a column that a select sees: its place among all of them, from 0 at the left; the number of its reference, from 0, and
-- its place in the rows of that one; what that one is called; its own name and type
pub record SeenColumn : Type 0 where
  pub place : ℕ
  pub owner : ℕ
  pub within : ℕ
  pub called : List ℕ
  pub name : List ℕ
  pub kind : ColumnType

-- what a select sees: what each reference is called, and the columns of all, side by side
pub record Sight : Type 0 where
  pub called : List (List ℕ)
  pub columns : List SeenColumn

-- the name behind AS, or this one where there is none
abbrev pub name_or : Option (List ℕ) → List ℕ → List ℕ
name_or None name = name
name_or (Some alias) name = alias

-- the columns of one reference, which begin at a place among all; those before `within` are left out
abbrev pub columns_of : ℕ → ℕ → List ℕ → ℕ → List Column → List SeenColumn
columns_of start owner called within [] = []
columns_of start owner called within (column ∷ columns) =
    record {
      place = start + within;
      owner = owner;
      within = within;
      called = called;
      name = column.name;
      kind = column.kind;
    } ∷ columns_of start owner called (within + 1) columns

-- the columns of references, the first of which has this number and begins at this place
abbrev pub columns_from : ℕ → ℕ → List Referred → List SeenColumn
columns_from start owner [] = []
columns_from start owner (first ∷ others) =
    columns_of start owner first.called 0 first.relation.columns
    ++ columns_from (start + length first.relation.columns) (owner + 1) others

-- what a select over these references sees
abbrev pub sight_of : List Referred → Sight
sight_of references = record { called = map (λ r. r.called) references; columns = columns_from 0 0 references }

-- the one member that passes, where exactly one does
abbrev pub only_one : {A : Type 0} → (A → Bool) → List A → Option A
only_one test [] = None
only_one test (x ∷ xs) = if test x then (if list_any test xs then None else Some x) else only_one test xs

-- a column with this qualifier may be of what is called so; one without may be of anything
abbrev pub is_of : Option (List ℕ) → List ℕ → Bool
is_of None called = true
is_of (Some qualifier) called = bytes_eq qualifier called

-- the name may mean the column
abbrev pub may_mean : ColumnName → SeenColumn → Bool
may_mean column seen = bytes_eq column.name seen.name && is_of column.qualifier seen.called

-- exactly one reference is called as the qualifier, where there is one
abbrev pub is_clear : Option (List ℕ) → List (List ℕ) → Bool
is_clear None called = true
is_clear (Some qualifier) called = is_some (only_one (bytes_eq qualifier) called)

-- a name behind its qualifier and a point, where there is a qualifier
abbrev pub qualified : Option (List ℕ) → List ℕ → List ℕ
qualified None name = name
qualified (Some qualifier) name = qualifier ++ (codes "." ++ name)

-- a column's name as it is written
abbrev pub column_text : ColumnName → List ℕ
column_text column = qualified column.qualifier column.name

-- the column, where there is one; else it is unknown
abbrev pub known : ColumnName → Option SeenColumn → Step SeenColumn
known column None = Err (UnknownColumn (column_text column))
known column (Some seen) = Ok seen

-- the column that a name means: there must be exactly one that it may mean, and its qualifier must be clear
abbrev pub meant : Sight → ColumnName → Step SeenColumn
meant sight column =
    known column (if is_clear column.qualifier sight.called then only_one (may_mean column) sight.columns else None)
