-- Well-formed plans that read few tables, none of which is large.
use Rattle.std.specs.Prelude.{ℕ, List, ◌≤◌}
use Rattle.mz_statement.specs.declared.column.ColumnType.{ColumnType}
use Rattle.mz_plan.specs.Masses.{AreWithin}
use Rattle.mz_plan.specs.Meaning.{Leaves}
use Rattle.mz_plan.specs.PlanTypes.{AreFormedOver, IsFormedOver, index_types}
use Rattle.mz_plan.specs.RowTypes.{AreTyped}
use Rattle.mz_plan.specs.Small.{index_reads, most_rows, most_tables, tables_read}
use Rattle.mz_plan.specs.declared.plan.Plan.{Plan}

-- no more tables are read than a query may, and each has no more rows than a table may; the rows have these types, over
-- which the plan and those of the indexes, the newest first, are well formed
pub record IsSmallOver (types : ℕ → List ColumnType) (tables : Leaves) (plans : List (ℕ × Plan)) (plan : Plan) : Type 0 where
  pub few : tables_read (index_reads plans) plan ≤ most_tables
  pub rows : AreWithin most_rows tables
  pub typed : AreTyped types tables
  pub formed : IsFormedOver types (index_types types plans) plan
  pub indexes : AreFormedOver types plans
