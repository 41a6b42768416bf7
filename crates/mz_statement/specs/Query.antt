-- Queries that the grammar can spell.
use Rattle.std.specs.Prelude.{◌<◌, List, length, IfSome}
use Rattle.std.specs.List.{AllByRecursion as Each}
use Rattle.mz_statement.specs.declared.item.SelectItem.{SelectItem}
use Rattle.mz_statement.specs.declared.query.Select.{Select}
use Rattle.mz_statement.specs.Item.{IsItem}
use Rattle.mz_statement.specs.Reference.{IsColumnName, IsJoin, IsReference}
use Rattle.mz_statement.specs.Test.{IsTest}

-- a list of items has an item at least
pub record AreItems (items : List SelectItem) : Type 0 where
  pub each : Each IsItem items
  pub some : 0 < length items

-- each part of a select is one
pub record IsSelect (select : Select) : Type 0 where
  pub items : IfSome select.items AreItems
  pub first : IsReference select.first
  pub joins : Each IsJoin select.joins
  pub test : IfSome select.test IsTest
  pub group : Each IsColumnName select.group

-- a query has a select at least
pub record IsQuery (query : List Select) : Type 0 where
  pub each : Each IsSelect query
  pub some : 0 < length query
