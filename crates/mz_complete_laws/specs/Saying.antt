-- A session that may say something, and a query whose names resolve.
use Rattle.std.specs.Prelude.{◌≡◌, ◌<◌, ◌+◌, ℕ, None, Ok, false, length}
use Rattle.mz_statement.specs.Kind.{kind_of}
use Rattle.mz_statement.specs.declared.statement.Kind.TheVariants.{Query}
use Rattle.mz_statement.specs.declared.statement.Statement.{Statement}
use Rattle.mz_plan.specs.declared.plan.Plan.{Plan}
use Rattle.mz_log.specs.declared.entry.Entry.{Entry}
use Rattle.mz_log.specs.declared.entry.Entry.TheVariants.{Read}
use Rattle.mz_log.specs.Log.{Log}
use Rattle.mz_books.specs.Answer.{as_of, most_calls, target}
use Rattle.mz_books.specs.Calls.{calls}
use Rattle.mz_books.specs.Collections.{collections}
use Rattle.mz_books.specs.Holds.{peeks_made}
use Rattle.mz_books.specs.Sessions.{calls_made, is_closed, outstanding}
use Rattle.mz_books.specs.States.{query_plan, scope_of}

-- a session may say something: it isn't closed, waits for no reply, and there are fewer calls than there may be
pub record MaySay (log : Log) (session : ℕ) : Type 0 where
  pub unclosed : is_closed log session ≡ false
  pub none_waits : outstanding log session ≡ None
  pub room : length (calls log) < most_calls

-- a statement of the session is a query that names no time, and whose names resolve to a plan
pub record IsPlanned (log : Log) (session : ℕ) (statement : Statement) (plan : Plan) : Type 0 where
  pub query : kind_of statement ≡ Query
  pub no_time : as_of statement ≡ None
  pub resolves : query_plan (scope_of log session) statement ≡ Ok plan

-- the entry of its read at a time
abbrev pub read_entry : Log → ℕ → Statement → Plan → ℕ → Entry
read_entry log session statement plan time =
    Read session (calls_made log session + 1) (peeks_made log + 1) time statement (target plan (collections log))
