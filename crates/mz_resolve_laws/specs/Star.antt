-- The query of all columns of a table or a view.
use Rattle.std.specs.Prelude.{ℕ, List, [], false, None}
use Rattle.mz_statement.specs.declared.query.Select.{Select}
use Rattle.mz_plan.specs.declared.scope.Scope.{Scope}
use Rattle.mz_resolution.specs.declared.relation.Relation.{Relation}
use Rattle.mz_resolution.specs.Queries.{narrow}
use Rattle.mz_resolution.specs.Resolution.{named, newest_first, without_number}
use Rattle.mz_resolution.specs.Steps.{Step, ◌>>=◌}

-- `SELECT * FROM name`
abbrev pub select_star : List ℕ → Select
select_star name = record {
  distinct = false;
  items = None;
  first = record { name = name; alias = None };
  joins = [];
  test = None;
  group = [];
}

-- what a name stands for, unless it has more columns than a result may have
abbrev pub narrow_named : Scope → List ℕ → Step Relation
narrow_named scope name = without_number (named scope (newest_first scope) name) >>= narrow
