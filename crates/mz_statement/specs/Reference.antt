-- References, columns and joins that the grammar can spell.
use Rattle.std.specs.Prelude.{◌<◌, length}
use Rattle.std.specs.List.{AllByRecursion as Each}
use Rattle.mz_statement.specs.declared.reference.Reference.{Reference}
use Rattle.mz_statement.specs.declared.reference.ColumnName.{ColumnName}
use Rattle.mz_statement.specs.declared.reference.ColumnPair.{ColumnPair}
use Rattle.mz_statement.specs.declared.reference.Join.{Join}
use Rattle.mz_statement.specs.Word.{IsName, IsMaybeName}

-- the names of a reference are names
pub record IsReference (reference : Reference) : Type 0 where
  pub name : IsName reference.name
  pub alias : IsMaybeName reference.alias

-- the names of a column are names
pub record IsColumnName (column : ColumnName) : Type 0 where
  pub qualifier : IsMaybeName column.qualifier
  pub name : IsName column.name

-- both columns of a pair are ones
pub record IsColumnPair (pair : ColumnPair) : Type 0 where
  pub left : IsColumnName pair.left
  pub right : IsColumnName pair.right

-- a join has a pair of columns at least
pub record IsJoin (join : Join) : Type 0 where
  pub reference : IsReference join.reference
  pub pairs : Each IsColumnPair join.pairs
  pub some : 0 < length join.pairs
