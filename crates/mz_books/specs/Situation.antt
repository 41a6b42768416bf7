-- What an answer to a session hangs on: its situation in a log.
use Rattle.std.specs.Prelude.{ℕ, List, Bool, Option, length}
use Rattle.mz_plan.specs.declared.scope.Scope.{Scope}
use Rattle.mz_rules.specs.declared.capability.Collection.{Collection}
use Rattle.mz_rules.specs.declared.capability.Settled.{Settled}
use Rattle.mz_log.specs.Log.{Log}
use Rattle.mz_books.specs.Clusters.{clusters}
use Rattle.mz_books.specs.Rounds.{ddl, read_time}
use Rattle.mz_books.specs.States.{scope_of}
use Rattle.mz_books.specs.Collections.{collections}
use Rattle.mz_books.specs.Holds.{peeks_made, transaction}
use Rattle.mz_books.specs.Since.{settled}
use Rattle.mz_books.specs.Calls.{calls}
use Rattle.mz_books.specs.Sessions.{calls_made, is_closed, outstanding, seen}

-- all of a log that the answer to a session hangs on: whether the session is closed, its outstanding call, how many calls it made and all
-- sessions made, the time of its transaction, the time that it has seen, the read time, the time of the last CREATE or DROP, what its
-- statements may name, the names of the clusters, the collections with their sinces, and how many peeks were made
pub record Situation : Type 0 where
  pub closed : Bool
  pub outstanding : Option ℕ
  pub calls_made : ℕ
  pub all_calls : ℕ
  pub transaction : Option ℕ
  pub seen : ℕ
  pub read : ℕ
  pub ddl : ℕ
  pub scope : Scope
  pub clusters : List (List ℕ)
  pub collections : List Collection
  pub settled : List Settled
  pub peeks_made : ℕ

-- the session's situation in a log
abbrev pub situation : Log → ℕ → Situation
situation log session = record {
  closed = is_closed log session;
  outstanding = outstanding log session;
  calls_made = calls_made log session;
  all_calls = length (calls log);
  transaction = transaction log session;
  seen = seen log session;
  read = read_time log;
  ddl = ddl log;
  scope = scope_of log session;
  clusters = clusters log;
  collections = collections log;
  settled = settled log;
  peeks_made = peeks_made log;
}
