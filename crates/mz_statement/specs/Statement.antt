-- Statements that the grammar can spell.
use Rattle.std.specs.Prelude.{ℕ, ◌<◌, ◌≤◌, ◌≢◌, ◌^◌, List, length, IfSome}
use Rattle.std.specs.List.{AllByRecursion as Each}
use Rattle.mz_value.specs.declared.datum.Datum.{Datum}
use Rattle.mz_statement.specs.declared.column.Column.{Column}
use Rattle.mz_statement.specs.declared.column.ColumnType.TheVariants.{Wide}
use Rattle.mz_statement.specs.declared.statement.Keep.{Keep}
use Rattle.mz_statement.specs.declared.statement.Keep.TheVariants.{Lag, From, Stay}
use Rattle.mz_statement.specs.declared.statement.Statement.{Statement}
use Rattle.mz_statement.specs.declared.statement.Statement.TheVariants.{Query, CreateTable, CreateView, CreateIndex, DropTable, DropView, DropIndex, Insert, Delete, Start, Commit, ShowFrontiers, Retain, SetIsolation, SetCluster}
use Rattle.mz_statement.specs.Query.{IsQuery}
use Rattle.mz_statement.specs.Test.{IsTest}
use Rattle.mz_statement.specs.Value.{IsTuple}
use Rattle.mz_statement.specs.Word.{IsName}

-- a column of a table has a name and is not WIDE
pub record IsColumn (column : Column) : Type 0 where
  pub name : IsName column.name
  pub kind : column.kind ≢ Wide

-- a table has a column at least
pub record AreColumns (columns : List Column) : Type 0 where
  pub each : Each IsColumn columns
  pub some : 0 < length columns

-- an INSERT has a row at least
pub record AreTuples (rows : List (List Datum)) : Type 0 where
  pub each : Each IsTuple rows
  pub some : 0 < length rows

-- how many times may be named, from 0 on
abbrev pub times : ℕ
times = 2 ^ 63

-- a time that may be named
abbrev pub IsTime : ℕ → Type 0
IsTime time = time < times

-- how many lags there are, with 0, which none may be
abbrev pub lags : ℕ
lags = 2 ^ 32

-- a lag is from 1 on, and of 32 bits
pub record IsLag (lag : ℕ) : Type 0 where
  pub low : 1 ≤ lag
  pub high : lag < lags

-- a policy of a RETAIN
abbrev pub IsKeep : Keep → Type 0
IsKeep (Lag lag) = IsLag lag
IsKeep (From time) = IsTime time
IsKeep Stay = Unit {0}

-- the grammar can spell the statement: names are lowered and not reserved, lists that are written
-- out have a member, and literals, numbers and the depth of conditions are within their limits. No
-- text spells a SET
abbrev pub IsStatement : Statement → Type 0
IsStatement (Query query as_of) = IsQuery query × IfSome as_of IsTime
IsStatement (CreateTable name columns) = IsName name × AreColumns columns
IsStatement (CreateView name query) = IsName name × IsQuery query
IsStatement (CreateIndex name on) = IsName name × IsName on
IsStatement (DropTable name) = IsName name
IsStatement (DropView name) = IsName name
IsStatement (DropIndex name) = IsName name
IsStatement (Insert name rows) = IsName name × AreTuples rows
IsStatement (Delete name test) = IsName name × IfSome test IsTest
IsStatement Start = Unit {0}
IsStatement Commit = Unit {0}
IsStatement ShowFrontiers = Unit {0}
IsStatement (Retain name keep) = IsName name × IsKeep keep
IsStatement (SetIsolation strict) = ⊥
IsStatement (SetCluster name) = ⊥
