-- What a condition means, and when it fits, in each of its forms, as code matches it.
use Rattle.std.proofs.Common.{◌≡◌, refl, ap, not, ◌&&◌, ◌||◌, List, [], ◌∷◌}
use Rattle.std.specs.List.{AllByRecursion as Each}
use Rattle.mz_value.specs.declared.datum.Datum.{Datum}
use Rattle.mz_statement.specs.declared.column.ColumnType.{ColumnType}
use Rattle.mz_plan.specs.Condition.{all_hold, any_holds, holds}
use Rattle.mz_plan.specs.WellFormed.{CondFits}
use Rattle.mz_plan.specs.declared.condition.Cond.{Cond}
use Rattle.mz_plan.specs.declared.condition.Cond.TheVariants.{All, Any, Not}

-- each of a list
pub holds_of_all : (conds : List Cond) (row : List Datum) → holds (All conds) row ≡ all_hold conds row
unfolding Rattle.mz_plan.specs.declared.condition.Cond.TheBlock.hidden-the_row-Cond-0 denote.Hole.Carrier.hidden
holds_of_all [] row = refl
holds_of_all (cond ∷ conds) row = ap (λ b. holds cond row && b) (holds_of_all conds row)

-- one of a list
pub holds_of_any : (conds : List Cond) (row : List Datum) → holds (Any conds) row ≡ any_holds conds row
unfolding Rattle.mz_plan.specs.declared.condition.Cond.TheBlock.hidden-the_row-Cond-0 denote.Hole.Carrier.hidden
holds_of_any [] row = refl
holds_of_any (cond ∷ conds) row = ap (λ b. holds cond row || b) (holds_of_any conds row)

-- not
pub holds_of_not : (cond : Cond) (row : List Datum) → holds (Not cond) row ≡ not (holds cond row)
unfolding Rattle.mz_plan.specs.declared.condition.Cond.TheBlock.hidden-the_row-Cond-1 denote.Hole.Carrier.hidden
holds_of_not cond row = refl

-- each form
pub ruleset condition_rules = (holds_of_all, holds_of_any, holds_of_not)

-- each of a list fits where each condition does
pub fits_of_all : (types : List ColumnType) (conds : List Cond) → CondFits types (All conds) ≡ Each (CondFits types) conds
unfolding Rattle.mz_plan.specs.declared.condition.Cond.TheBlock.hidden-the_row-Cond-0 denote.Hole.Carrier.hidden
fits_of_all types [] = refl
fits_of_all types (cond ∷ conds) = ap (λ T. CondFits types cond × T) (fits_of_all types conds)

-- and so does one of a list
pub fits_of_any : (types : List ColumnType) (conds : List Cond) → CondFits types (Any conds) ≡ Each (CondFits types) conds
unfolding Rattle.mz_plan.specs.declared.condition.Cond.TheBlock.hidden-the_row-Cond-0 denote.Hole.Carrier.hidden
fits_of_any types [] = refl
fits_of_any types (cond ∷ conds) = ap (λ T. CondFits types cond × T) (fits_of_any types conds)

-- a NOT does where its condition does
pub fits_of_not : (types : List ColumnType) (cond : Cond) → CondFits types (Not cond) ≡ CondFits types cond
unfolding Rattle.mz_plan.specs.declared.condition.Cond.TheBlock.hidden-the_row-Cond-1 denote.Hole.Carrier.hidden
fits_of_not types cond = refl
