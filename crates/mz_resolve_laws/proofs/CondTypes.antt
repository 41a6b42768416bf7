-- What conditions and names of columns give fits the types that are seen.
use Rattle.std.proofs.Common.{◌≡◌, ◌∙◌, refl, sym, subst, ap, Bool, true, false, cond, List, [], ◌∷◌, Option, None, Some}
use Rattle.std.specs.Prelude.{IfOk}
use Rattle.std.specs.List.{AllByRecursion as Each, list_any}
use Rattle.mz_value.specs.declared.datum.Datum.{Datum}
use Rattle.mz_statement.specs.declared.column.ColumnType.{ColumnType}
use Rattle.mz_statement.specs.declared.column.ColumnType.TheVariants as kind
use Rattle.mz_statement.specs.declared.condition.Op.{Op}
use Rattle.mz_statement.specs.declared.condition.Side.{Side}
use Rattle.mz_statement.specs.declared.condition.Side.TheVariants as side
use Rattle.mz_statement.specs.declared.condition.Test.{Test, All', Any', Not', Compare, Row_of-Test, more_of-Test, end_of-Test}
use Rattle.mz_statement.specs.declared.reference.ColumnName.{ColumnName}
use Rattle.mz_plan.specs.declared.condition.Cond.{Cond}
use Rattle.mz_plan.specs.declared.condition.Cond.TheVariants as cond
use Rattle.mz_plan.specs.declared.condition.Operand.TheVariants as operand
use Rattle.mz_resolution.specs.Columns.{SeenColumn, Sight, is_clear, known, may_mean, meant, only_one}
use Rattle.mz_plan.specs.Types.{may_compare, same_type}
use Rattle.mz_resolution.specs.Conditions.{compared, condition, listed, tested, with_column, with_literal, with_side}
use Rattle.mz_plan.specs.WellFormed.{CondFits, IsTyped, SomeCondFits}
use Rattle.mz_plan.proofs.ConditionRules.{fits_of_all, fits_of_any, fits_of_not}
use Rattle.mz_resolve_laws.proofs.StepTools.{guard_ok, then_ok}

-- ---- names of columns

-- what holds of each member holds of the one that passes
only_one_ok : {A : Type 0} (P : A → Type 0) (test : A → Bool) (xs : List A) → Each P xs → (x : A) → only_one test xs ≡ Some x → P x
only_one_ok P test [] h x found = absurd cc
only_one_ok P test (first ∷ xs) h x found = by (test first) (list_any test xs) found (only_one_ok P test xs h.1 x)
  where
    by : (c d : Bool) → cond c (cond d None (Some first)) (only_one test xs) ≡ Some x → (only_one test xs ≡ Some x → P x) → P x
    by true true e k = absurd cc
    by true false e k = let same : first ≡ x = cc in subst P same h.0
    by false d e k = k e

-- what holds of each column that is seen holds of the one that a name means
pub meant_ok : (P : SeenColumn → Type 0) (sight : Sight) → Each P sight.columns → (column : ColumnName) → IfOk (meant sight column) P
meant_ok P sight h column =
    by (is_clear column.qualifier sight.called) (only_one (may_mean column) sight.columns) (only_one_ok P (may_mean column) sight.columns h)
  where
    by : (c : Bool) (found : Option SeenColumn) → ((seen : SeenColumn) → found ≡ Some seen → P seen)
        → IfOk (known column (cond c found None)) P
    by true (Some seen) k = k seen refl
    by true None k = tt
    by false found k = tt

-- ---- types

-- types that are tested as one are one
pub same_type_same : (one other : ColumnType) → same_type one other ≡ true → one ≡ other
same_type_same kind.Int kind.Int h = refl
same_type_same kind.Text kind.Text h = refl
same_type_same kind.Bool kind.Bool h = refl
same_type_same kind.Wide kind.Wide h = refl
same_type_same one other h = absurd cc

-- ---- conditions in each of their forms

-- each of a list
fits_all : (types : List ColumnType) (conds : List Cond) → Each (CondFits types) conds → CondFits types (cond.All conds)
fits_all types conds h = subst (λ T. T) (sym (fits_of_all types conds)) h

-- one of a list
fits_any : (types : List ColumnType) (conds : List Cond) → Each (CondFits types) conds → CondFits types (cond.Any conds)
fits_any types conds h = subst (λ T. T) (sym (fits_of_any types conds)) h

-- not
fits_not : (types : List ColumnType) (below : Cond) → CondFits types below → CondFits types (cond.Not below)
fits_not types below h = subst (λ T. T) (sym (fits_of_not types below)) h

-- ---- what is compared

-- a column that is seen has its type at its place
abbrev pub SeesTyped : List ColumnType → SeenColumn → Type 0
SeesTyped types seen = IsTyped types seen.place seen.kind

-- with a column
with_column_ok : (types : List ColumnType) (column : ColumnName) (op : Op) (left right : SeenColumn) → SeesTyped types left
    → SeesTyped types right → IfOk (with_column column op left right) (CondFits types)
with_column_ok types column op left right h k =
    guard_ok (same_type left.kind right.kind) (cond.Compare left.place op (operand.Place right.place)) _ (CondFits types)
    (λ same. record { of_type = left.kind; here = h; there = k ∙ ap Some (sym (same_type_same left.kind right.kind same)) })

-- with a literal
with_literal_ok : (types : List ColumnType) (column : ColumnName) (op : Op) (left : SeenColumn) (literal : Datum) → SeesTyped types left
    → IfOk (with_literal column op left literal) (CondFits types)
with_literal_ok types column op left literal h =
    guard_ok (may_compare left.kind literal) (cond.Compare left.place op (operand.Literal literal)) _ (CondFits types)
    (λ fits. record { of_type = left.kind; here = h; fits = fits })

-- with either
with_side_ok : (types : List ColumnType) (sight : Sight) → Each (SeesTyped types) sight.columns
    → (column : ColumnName) (op : Op) (left : SeenColumn) (right : Side) → SeesTyped types left
    → IfOk (with_side sight column op left right) (CondFits types)
with_side_ok types sight h column op left (side.Column other) k =
    then_ok (meant sight other) _ (SeesTyped types) (CondFits types) (meant_ok (SeesTyped types) sight h other)
    (λ right there. with_column_ok types column op left right k there)
with_side_ok types sight h column op left (side.Literal literal) k = with_literal_ok types column op left literal k

-- a comparison
compared_ok : (types : List ColumnType) (sight : Sight) → Each (SeesTyped types) sight.columns → (column : ColumnName) (op : Op) (right : Side)
    → IfOk (compared sight column op right) (CondFits types)
compared_ok types sight h column op right =
    then_ok (meant sight column) _ (SeesTyped types) (CondFits types) (meant_ok (SeesTyped types) sight h column)
    (λ left here. with_side_ok types sight h column op left right here)

mutual
  -- a condition
  tested_ok : (types : List ColumnType) (sight : Sight) → Each (SeesTyped types) sight.columns → (test : Test)
      → IfOk (tested sight test) (CondFits types)
  tested_ok types sight h (All' shape tests) =
      then_ok (listed sight tests) _ (Each (CondFits types)) (CondFits types) (listed_ok types sight h tests) (fits_all types)
  tested_ok types sight h (Any' shape tests) =
      then_ok (listed sight tests) _ (Each (CondFits types)) (CondFits types) (listed_ok types sight h tests) (fits_any types)
  tested_ok types sight h (Not' place (more_of-Test test end_of-Test)) =
      then_ok (tested sight test) _ (CondFits types) (CondFits types) (tested_ok types sight h test) (fits_not types)
  tested_ok types sight h (Compare column op right) = compared_ok types sight h column op right

  -- the conditions of a list of tests
  listed_ok : {m : _} (types : List ColumnType) (sight : Sight) → Each (SeesTyped types) sight.columns
      → (tests : Row_of-Test m) → IfOk (listed sight tests) (Each (CondFits types))
  listed_ok types sight h end_of-Test = tt
  listed_ok types sight h (more_of-Test test tests) =
      then_ok (tested sight test) _ (CondFits types) (Each (CondFits types)) (tested_ok types sight h test) (λ first here.
      then_ok (listed sight tests) _ (Each (CondFits types)) (Each (CondFits types)) (listed_ok types sight h tests)
      (λ others there. (here, there)))

-- the condition behind WHERE
pub condition_ok : (types : List ColumnType) (sight : Sight) → Each (SeesTyped types) sight.columns → (test : Option Test)
    → IfOk (condition sight test) (SomeCondFits types)
condition_ok types sight h None = tt
condition_ok types sight h (Some test) =
    then_ok (tested sight test) _ (CondFits types) (SomeCondFits types) (tested_ok types sight h test) (λ found fits. fits)
