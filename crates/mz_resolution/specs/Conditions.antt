-- What a condition and an equality of a JOIN compare, by places in place of names.
use Rattle.std.specs.Prelude.{ℕ, ◌+◌, ◌==◌, Bool, true, false, ◌&&◌, List, [], ◌∷◌, Option, None, Some, Ok, Err, nat_lt, if◌then◌else◌}
use Rattle.mz_value.specs.declared.datum.Datum.{Datum}
use Rattle.mz_statement.specs.declared.condition.Op.{Op}
use Rattle.mz_statement.specs.declared.condition.Side.{Side}
use Rattle.mz_statement.specs.declared.condition.Side.TheVariants as side
use Rattle.mz_statement.specs.declared.condition.Test.{Test, All', Any', Not', Compare, Row_of-Test, more_of-Test, end_of-Test}
use Rattle.mz_statement.specs.declared.reference.ColumnName.{ColumnName}
use Rattle.mz_statement.specs.declared.reference.ColumnPair.{ColumnPair}
use Rattle.mz_statement.specs.declared.reference.Join.{Join}
use Rattle.mz_plan.specs.Types.{may_compare, same_type}
use Rattle.mz_plan.specs.declared.condition.Cond.{Cond}
use Rattle.mz_plan.specs.declared.condition.Cond.TheVariants as cond
use Rattle.mz_plan.specs.declared.condition.Operand.TheVariants as operand
use Rattle.mz_refusal.specs.declared.refusal.Refusal.TheVariants.{WrongType}
use Rattle.mz_resolution.specs.Columns.{SeenColumn, Sight, column_text, meant}
use Rattle.mz_resolution.specs.Steps.{Step, ◌>>=◌, each}

-- a comparison of two columns, which have to be of one type
abbrev pub with_column : ColumnName → Op → SeenColumn → SeenColumn → Step Cond
with_column column op left right =
    if same_type left.kind right.kind then Ok (cond.Compare left.place op (operand.Place right.place))
    else Err (WrongType (column_text column))

-- a comparison with a literal, which has to fit
abbrev pub with_literal : ColumnName → Op → SeenColumn → Datum → Step Cond
with_literal column op left literal =
    if may_compare left.kind literal then Ok (cond.Compare left.place op (operand.Literal literal))
    else Err (WrongType (column_text column))

-- a comparison with a column or a literal
abbrev pub with_side : Sight → ColumnName → Op → SeenColumn → Side → Step Cond
with_side sight column op left (side.Column other) = do
  right ← meant sight other
  with_column column op left right
with_side sight column op left (side.Literal literal) = with_literal column op left literal

-- a comparison, its left column first
abbrev pub compared : Sight → ColumnName → Op → Side → Step Cond
compared sight column op right = do
  left ← meant sight column
  with_side sight column op left right

abbrev mutual
  -- a condition, whose parts stand in the order of the tests
  pub tested : Sight → Test → Step Cond
  tested sight (All' shape tests) = listed sight tests >>= λ conds. Ok (cond.All conds)
  tested sight (Any' shape tests) = listed sight tests >>= λ conds. Ok (cond.Any conds)
  tested sight (Not' place (more_of-Test test end_of-Test)) = tested sight test >>= λ below. Ok (cond.Not below)
  tested sight (Compare column op right) = compared sight column op right

  -- the conditions of a list of tests, from the first
  pub listed : {m : _} → Sight → Row_of-Test m → Step (List Cond)
  listed sight end_of-Test = Ok []
  listed sight (more_of-Test test tests) = tested sight test >>= λ first. listed sight tests >>= λ others. Ok (first ∷ others)

-- the condition behind WHERE, where there is one
abbrev pub condition : Sight → Option Test → Step (Option Cond)
condition sight None = Ok None
condition sight (Some test) = tested sight test >>= λ found. Ok (Some found)

-- two columns may stand in an equality of the JOIN with this number: they are of one type, the first is of a reference before,
-- and the second of the one that is joined
abbrev pub are_sides : ℕ → SeenColumn → SeenColumn → Bool
are_sides joined earlier later = (same_type earlier.kind later.kind && nat_lt earlier.owner joined) && later.owner == joined

-- an equality as two places, in the rows to the left and in those of the joined reference. Its sides stand in either order
abbrev pub paired : ℕ → ColumnName → SeenColumn → SeenColumn → Step (ℕ × ℕ)
paired joined column left right =
    if are_sides joined left right then Ok (left.place, right.within)
    else (if are_sides joined right left then Ok (right.place, left.within) else Err (WrongType (column_text column)))

-- an equality of the JOIN with this number, its left column first
abbrev pub equality : Sight → ℕ → ColumnPair → Step (ℕ × ℕ)
equality sight joined pair = do
  left ← meant sight pair.left
  right ← meant sight pair.right
  paired joined pair.left left right

-- the equalities of each JOIN in order, the first of which has this number
abbrev pub equalities : Sight → ℕ → List Join → Step (List (List (ℕ × ℕ)))
equalities sight joined [] = Ok []
equalities sight joined (join ∷ joins) = do
  first ← each (equality sight joined) join.pairs
  others ← equalities sight (joined + 1) joins
  Ok (first ∷ others)
