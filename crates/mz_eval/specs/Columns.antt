-- What the columns below an operator are.
use Rattle.std.specs.Prelude.{◌≡◌, List, Option, None, Some, ⊤}
use Rattle.mz_statement.specs.declared.column.Column.{Column}
use Rattle.mz_plan.specs.Typed.{plan_columns}
use Rattle.mz_plan.specs.declared.item.Item.{Item}
use Rattle.mz_plan.specs.declared.plan.Plan.{Plan}

-- these are the columns of the plan below over some items. Where there is no plan below, any are
abbrev pub AreColumnsBelow : List Item → Option Plan → List Column → Type 0
AreColumnsBelow items None columns = ⊤
AreColumnsBelow items (Some plan) columns = columns ≡ plan_columns items plan
