-- Which statements the sequential object carries out, and which of them ask for rows.
use Rattle.std.specs.Prelude.{Bool, true, false}
use Rattle.mz_statement.specs.declared.statement.Kind.{Kind}
use Rattle.mz_statement.specs.declared.statement.Kind.TheVariants as kind
use Rattle.mz_plan.specs.declared.resolved.Resolved.{Resolved}
use Rattle.mz_plan.specs.declared.resolved.Resolved.TheVariants as asked
use Rattle.mz_log.specs.CarriedOut.{Response, Command, Rows}

-- a statement of this kind is carried out: a command or a query
abbrev pub is_carried : Kind → Bool
is_carried kind.Command = true
is_carried kind.Query = true
is_carried other = false

-- a statement of this kind asks for rows
abbrev pub is_read : Kind → Bool
is_read kind.Query = true
is_read other = false

-- what is asked for is the rows of a plan
abbrev pub is_query : Resolved → Bool
is_query (asked.Query plan) = true
is_query other = false

-- what is told is rows
abbrev pub is_rows : Response → Bool
is_rows (Rows rows) = true
is_rows (Command reply) = false
