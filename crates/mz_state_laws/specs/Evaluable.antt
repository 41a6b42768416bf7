-- What a query is asked over, and what it is told.
use Rattle.std.specs.Prelude.{◌≡◌, ◌≤◌, ◌≤ℤ◌, pos, ⊤}
use Rattle.std.specs.FinMap.{entries}
use Rattle.std.specs.List.{AllByRecursion as Each}
use Rattle.mz_bag.specs.Mass.{IsLight}
use Rattle.mz_bag.specs.Weighted.{Weighted, bag_of}
use Rattle.mz_plan.specs.Bound.{IsBoundedIn, IsBoundedOver}
use Rattle.mz_plan.specs.Meaning.{table_rows}
use Rattle.mz_plan.specs.RowTypes.{HaveTypes}
use Rattle.mz_plan.specs.Small.{index_reads, most_tables, tables_read}
use Rattle.mz_plan.specs.Types.{types_of}
use Rattle.mz_plan.specs.declared.plan.Plan.{Plan}
use Rattle.mz_plan.specs.declared.resolved.Resolved.{Resolved}
use Rattle.mz_plan.specs.declared.resolved.Resolved.TheVariants as asked
use Rattle.mz_plan.specs.declared.tables.TableBags.{TableBags}
use Rattle.mz_resolution.specs.declared.relation.Relation.{Relation}
use Rattle.mz_log.specs.CarriedOut.{Response, Command, Rows, rows_of}
use Rattle.mz_log.specs.Sequential.{Sequential}

-- the tables for an evaluation have the rows of a state, and the plans of all its indexes
pub record AreOf (state : Sequential) (tables : TableBags) : Type 0 where
  pub bags : tables.bags.items ≡ state.database.bags
  pub plans : tables.plans ≡ state.plans

-- a plan may be evaluated over a state: it reads at most as many tables as a query may, and it is
-- bounded
pub record IsEvaluable (state : Sequential) (plan : Plan) : Type 0 where
  pub few : tables_read (index_reads state.plans) plan ≤ most_tables
  pub bounded : IsBoundedOver (table_rows state.database.bags) state.plans plan

-- so may the plan that a query or a new index asks for
abbrev pub AsksEvaluable : Sequential → Resolved → Type 0
AsksEvaluable state (asked.Query plan) = IsEvaluable state plan
AsksEvaluable state (asked.CreateIndex name on plan cluster) = IsEvaluable state plan
AsksEvaluable state other = ⊥

-- the plan that a query or a new index asks for is bounded in tables, which is what an evaluation
-- asks
abbrev pub AsksBoundedIn : TableBags → Resolved → Type 0
AsksBoundedIn tables (asked.Query plan) = IsBoundedIn tables plan
AsksBoundedIn tables (asked.CreateIndex name on plan cluster) = IsBoundedIn tables plan
AsksBoundedIn tables other = ⊥

-- rows that are told: each is there once at least, and no sum of their counts passes the bound
pub record AreToldRows (rows : Weighted) : Type 0 where
  pub there : Each (λ w. pos 1 ≤ℤ w.1) rows
  pub light : IsLight rows

-- a query is told an answer, unless it is refused
abbrev pub TellsRows : Response → Type 0
TellsRows (Rows rows) = AreToldRows rows
TellsRows (Command reply) = ⊤

-- the rows of a relation's plan have the types of its columns
pub record HasRowsOf (state : Sequential) (relation : Relation) : Type 0 where
  pub typed : HaveTypes (types_of relation.columns) (entries (bag_of (rows_of state relation.plan)))
