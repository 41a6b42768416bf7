-- When a condition holds of a row.
use Rattle.std.specs.Prelude.{Bool, true, false, not, ◌&&◌, ◌||◌, List, [], ◌∷◌}
use Rattle.std.specs.Ordering.{is_eq, is_lt, is_le, is_gt, is_ge}
use Rattle.std.specs.declared.cmp.Ordering.{Ordering}
use Rattle.mz_value.specs.declared.datum.Datum.{Datum}
use Rattle.mz_statement.specs.declared.condition.Op.{Op}
use Rattle.mz_statement.specs.declared.condition.Op.TheVariants.{Eq, Ne, Lt, Le, Gt, Ge}
use Rattle.mz_plan.specs.Value.{value_at, value_cmp}
use Rattle.mz_plan.specs.declared.condition.Operand.{Operand}
use Rattle.mz_plan.specs.declared.condition.Operand.TheVariants.{Place, Literal}
use Rattle.mz_plan.specs.declared.condition.Cond.{Cond, All', Any', Not', Compare, Row_of-Cond, more_of-Cond, end_of-Cond}

-- the sign says so of two values that compare like this
abbrev pub op_holds : Op → Ordering → Bool
op_holds Eq ordering = is_eq ordering
op_holds Ne ordering = not (is_eq ordering)
op_holds Lt ordering = is_lt ordering
op_holds Le ordering = is_le ordering
op_holds Gt ordering = is_gt ordering
op_holds Ge ordering = is_ge ordering

-- what a column is compared with: another column of the row, or the value itself
abbrev pub operand_value : Operand → List Datum → Datum
operand_value (Place place) row = value_at row place
operand_value (Literal value) row = value

abbrev mutual
  -- the condition holds of the row
  pub holds : Cond → List Datum → Bool
  holds (All' shape conds) row = each_holds conds row
  holds (Any' shape conds) row = some_holds conds row
  holds (Not' p (more_of-Cond cond end_of-Cond)) row = not (holds cond row)
  holds (Compare place op operand) row = op_holds op (value_cmp (value_at row place) (operand_value operand row))

  -- each of the conditions holds of it
  pub each_holds : {m : _} → Row_of-Cond m → List Datum → Bool
  each_holds end_of-Cond row = true
  each_holds (more_of-Cond cond conds) row = holds cond row && each_holds conds row

  -- one of them does, or more
  pub some_holds : {m : _} → Row_of-Cond m → List Datum → Bool
  some_holds end_of-Cond row = false
  some_holds (more_of-Cond cond conds) row = holds cond row || some_holds conds row

-- each condition of a list holds of the row
abbrev pub all_hold : List Cond → List Datum → Bool
all_hold [] row = true
all_hold (cond ∷ conds) row = holds cond row && all_hold conds row

-- one condition of a list holds of the row, or more
abbrev pub any_holds : List Cond → List Datum → Bool
any_holds [] row = false
any_holds (cond ∷ conds) row = holds cond row || any_holds conds row
