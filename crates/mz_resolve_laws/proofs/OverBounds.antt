-- The plans that statements ask for are bounded over small tables of their types.
use Rattle.std.proofs.Common.{◌≤◌, ℕ, List, Option}
use Rattle.std.specs.Prelude.{IfOk}
use Rattle.mz_statement.specs.declared.query.Select.{Select}
use Rattle.mz_statement.specs.declared.statement.Statement.TheVariants as statement
use Rattle.mz_plan.specs.Bound.{IsBoundedOver}
use Rattle.mz_plan.specs.Masses.{AreWithin}
use Rattle.mz_plan.specs.Meaning.{Leaves}
use Rattle.mz_plan.specs.PlanTypes.{IsFormedOver, index_types}
use Rattle.mz_plan.specs.RowTypes.{AreTyped}
use Rattle.mz_plan.specs.Small.{index_reads, most_rows, most_tables, tables_read}
use Rattle.mz_plan.specs.declared.plan.Plan.{Plan}
use Rattle.mz_plan.specs.declared.resolved.Resolved.{Resolved}
use Rattle.mz_plan.specs.declared.resolved.Resolved.TheVariants as resolved
use Rattle.mz_plan.specs.declared.scope.Scope.{Scope}
use Rattle.mz_plan_laws.proofs.RowTypes.{small_typed_bounded}
use Rattle.mz_resolution.specs.Resolution.{resolution}
use Rattle.mz_resolve_laws.specs.SoundOver.{IsSoundOver, Made, ReadsFew}
use Rattle.mz_resolve_laws.specs.TypedOver.{AsksBounded, AsksOver, IndexesOver, IsTypedOver, LeafTypes}
use Rattle.mz_resolve_laws.proofs.FewStatements.{asks_few, indexes_few}
use Rattle.mz_resolve_laws.proofs.OverTypes.{asks_over, indexes_over}
use Rattle.mz_resolve_laws.proofs.StepTools.{both_ok, weaker_ok}

-- a plan that reads few tables and is well formed
plan_bounded : (tables : LeafTypes) (plans : Made) (scope : Scope) → IsTypedOver tables plans scope → (rows : Leaves)
    → AreWithin most_rows rows → AreTyped tables rows → (plan : Plan) → tables_read (index_reads plans) plan ≤ most_tables
    → IsFormedOver tables (index_types tables plans) plan → IsBoundedOver rows plans plan
plan_bounded tables plans scope typed rows within own plan few formed =
    small_typed_bounded tables rows plans plan
    (record { few = few; rows = within; typed = own; formed = formed; indexes = typed.formed })

-- a query's
query_bounded : (tables : LeafTypes) (plans : Made) (scope : Scope) → IsTypedOver tables plans scope → (rows : Leaves)
    → AreWithin most_rows rows → AreTyped tables rows → (done : Resolved)
    → ReadsFew plans done × AsksOver tables (index_types tables plans) done → AsksBounded rows plans done
query_bounded tables plans scope typed rows within own (resolved.Query plan) h =
    plan_bounded tables plans scope typed rows within own plan h.0 h.1
query_bounded tables plans scope typed rows within own other h = elim (h.1) [ ]

-- an index's
index_bounded : (tables : LeafTypes) (plans : Made) (scope : Scope) → IsTypedOver tables plans scope → (rows : Leaves)
    → AreWithin most_rows rows → AreTyped tables rows → (done : Resolved)
    → ReadsFew plans done × IndexesOver tables (index_types tables plans) scope done → AsksBounded rows plans done
index_bounded tables plans scope typed rows within own (resolved.CreateIndex name on plan cluster) h =
    plan_bounded tables plans scope typed rows within own plan h.0 h.1.0
index_bounded tables plans scope typed rows within own other h = elim (h.1) [ ]

-- a query
pub asks_bounded : (tables : LeafTypes) (plans : Made) (scope : Scope) → IsSoundOver plans scope → IsTypedOver tables plans scope
    → (rows : Leaves) → AreWithin most_rows rows → AreTyped tables rows → (query : List Select) (as_of : Option ℕ)
    → IfOk (resolution scope (statement.Query query as_of)) (AsksBounded rows plans)
asks_bounded tables plans scope sound typed rows within own query as_of =
    weaker_ok (resolution scope (statement.Query query as_of)) _ (AsksBounded rows plans)
    (both_ok (resolution scope (statement.Query query as_of)) (ReadsFew plans) (AsksOver tables (index_types tables plans))
    (asks_few plans scope sound query as_of) (asks_over tables plans scope sound.sound typed query as_of))
    (query_bounded tables plans scope typed rows within own)

-- a CREATE INDEX
pub indexes_bounded : (tables : LeafTypes) (plans : Made) (scope : Scope) → IsSoundOver plans scope → IsTypedOver tables plans scope
    → (rows : Leaves) → AreWithin most_rows rows → AreTyped tables rows → (name on : List ℕ)
    → IfOk (resolution scope (statement.CreateIndex name on)) (AsksBounded rows plans)
indexes_bounded tables plans scope sound typed rows within own name on =
    weaker_ok (resolution scope (statement.CreateIndex name on)) _ (AsksBounded rows plans)
    (both_ok (resolution scope (statement.CreateIndex name on)) (ReadsFew plans) (IndexesOver tables (index_types tables plans) scope)
    (indexes_few plans scope sound name on) (indexes_over tables plans scope sound.sound typed name on))
    (index_bounded tables plans scope typed rows within own)
