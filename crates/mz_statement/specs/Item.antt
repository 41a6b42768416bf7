-- Items of a select that the grammar can spell.
use Rattle.mz_statement.specs.declared.item.Expression.{Expression}
use Rattle.mz_statement.specs.declared.item.Expression.TheVariants.{Column, Count, Sum, Min, Max}
use Rattle.mz_statement.specs.declared.item.SelectItem.{SelectItem}
use Rattle.mz_statement.specs.Word.{IsMaybeName}
use Rattle.mz_statement.specs.Reference.{IsColumnName}

-- the column of an expression is one
abbrev pub IsExpression : Expression → Type 0
IsExpression (Column column) = IsColumnName column
IsExpression Count = Unit {0}
IsExpression (Sum column) = IsColumnName column
IsExpression (Min column) = IsColumnName column
IsExpression (Max column) = IsColumnName column

-- the expression is one, and so is the alias
pub record IsItem (item : SelectItem) : Type 0 where
  pub expression : IsExpression item.expression
  pub alias : IsMaybeName item.alias
