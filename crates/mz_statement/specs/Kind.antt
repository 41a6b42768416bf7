-- What a statement does with the session that gives it.
use Rattle.mz_statement.specs.declared.statement.Kind.{Kind}
use Rattle.mz_statement.specs.declared.statement.Kind.TheVariants as kind
use Rattle.mz_statement.specs.declared.statement.Statement.{Statement}
use Rattle.mz_statement.specs.declared.statement.Statement.TheVariants.{Query, CreateTable, CreateView, CreateIndex, DropTable, DropView, DropIndex, Insert, Delete, Start, Commit, ShowFrontiers, Retain, SetIsolation, SetCluster}

-- what makes, removes or changes something is a command
abbrev pub kind_of : Statement → Kind
kind_of (Query query as_of) = kind.Query
kind_of (CreateTable name columns) = kind.Command
kind_of (CreateView name query) = kind.Command
kind_of (CreateIndex name on) = kind.Command
kind_of (DropTable name) = kind.Command
kind_of (DropView name) = kind.Command
kind_of (DropIndex name) = kind.Command
kind_of (Insert name rows) = kind.Command
kind_of (Delete name test) = kind.Command
kind_of Start = kind.Start
kind_of Commit = kind.Commit
kind_of (Retain name keep) = kind.Retain
kind_of ShowFrontiers = kind.ShowFrontiers
kind_of (SetIsolation strict) = kind.Set
kind_of (SetCluster name) = kind.Set
