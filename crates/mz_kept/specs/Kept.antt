-- What a plain core keeps.
use Rattle.std.specs.Prelude.{ℕ, List, []}
use Rattle.mz_plan.specs.declared.plan.Plan.{Plan}
use Rattle.mz_log.specs.Sequential.{Database, Sequential, opening_database}
use Rattle.mz_oracle.specs.Oracle.{OracleState, opening}
use Rattle.mz_oracle.specs.Rounds.{RoundsState, no_rounds}
use Rattle.mz_core.specs.declared.calls.FinishedRead.{FinishedRead}
use Rattle.mz_kept.specs.declared.session.Session.{Session}
use Rattle.mz_core.specs.declared.calls.Waiting.{Waiting}

-- the names of sessions in order of opening; the sessions in the same order; how many calls they have made; the times of rounds; the
-- commands that wait; the items and the tables; the plans of all indexes, the newest first; the reads that wait, in order of their
-- peeks, with their rows; and how many peeks were made
pub record Kept : Type 0 where
  pub names : List (List ℕ)
  pub sessions : List Session
  pub calls : ℕ
  pub oracle : OracleState
  pub rounds : RoundsState Waiting
  pub database : Database
  pub plans : List (ℕ × Plan)
  pub reads : List FinishedRead
  pub peeks : ℕ

-- what is kept where nothing has happened
abbrev pub nothing : Kept
nothing = record {
  names = [];
  sessions = [];
  calls = 0;
  oracle = opening;
  rounds = no_rounds;
  database = opening_database;
  plans = [];
  reads = [];
  peeks = 0;
}

-- the state of the sequential object
abbrev pub state_of : Kept → Sequential
state_of kept = record { database = kept.database; plans = kept.plans }
