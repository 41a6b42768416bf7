-- Facts about the columns that a select sees, and about the search for the one that passes.
use Rattle.std.proofs.Common.{◌≡◌, refl, ap, ◌∙◌, ℕ, suc, ◌+◌, Bool, true, false, List, [], ◌∷◌, ◌++◌, Option, None, Some, length, append_assoc, length-append, if◌then◌else◌, is_some, not}
use Rattle.std.specs.List.{list_any}
use Rattle.mz_statement.specs.declared.column.Column.{Column}
use Rattle.mz_resolution.specs.declared.relation.Referred.{Referred}
use Rattle.mz_resolution.specs.Columns.{SeenColumn, columns_from, columns_of, only_one}

-- the one that passes, where this one was found to pass before
abbrev pub still_one : {A : Type 0} → Option A → (A → Bool) → List A → Option A
still_one None test xs = only_one test xs
still_one (Some x) test xs = if list_any test xs then None else Some x

-- whether exactly one passes, where one was found before or not
abbrev pub is_still_one : {A : Type 0} → Bool → (A → Bool) → List A → Bool
is_still_one false test xs = is_some (only_one test xs)
is_still_one true test xs = not (list_any test xs)

-- each column of a reference is seen
pub length_columns_of : (start owner : ℕ) (called : List ℕ) (within : ℕ) (columns : List Column) →
    length (columns_of start owner called within columns) ≡ length columns
length_columns_of start owner called within [] = refl
length_columns_of start owner called within (column ∷ columns) = ap suc (length_columns_of start owner called (within + 1) columns)

-- the columns of a reference behind others
abbrev pub behind : List SeenColumn → ℕ → Referred → List SeenColumn
behind seen owner first = seen ++ columns_of (length seen) owner first.called 0 first.relation.columns

-- the columns of one reference more
pub reference_more : (seen : List SeenColumn) (owner : ℕ) (first : Referred) (others : List Referred) →
    behind seen owner first ++ columns_from (length (behind seen owner first)) (owner + 1) others
    ≡ seen ++ columns_from (length seen) owner (first ∷ others)
reference_more seen owner first others =
    let columns = first.relation.columns in
    let more = columns_of (length seen) owner first.called 0 columns in
    let long : length (seen ++ more) ≡ length seen + length columns =
    length-append seen more ∙ ap (λ n. length seen + n) (length_columns_of (length seen) owner first.called 0 columns) in
    rw (append_assoc, long) refl
