-- The plans that statements ask for read few tables.
use Rattle.std.proofs.Common.{◌≤◌, ℕ, List, Option, arith}
use Rattle.std.specs.Prelude.{IfOk}
use Rattle.mz_statement.specs.declared.query.Select.{Select}
use Rattle.mz_statement.specs.declared.statement.Statement.TheVariants as statement
use Rattle.mz_plan.specs.Small.{index_reads, tables_read}
use Rattle.mz_plan.specs.declared.scope.Scope.{Scope}
use Rattle.mz_resolution.specs.Resolution.{named, newest_first, query_in, resolution}
use Rattle.mz_resolve_laws.specs.SoundOver.{IsSoundOver, Made, ReadsFew}
use Rattle.mz_resolve_laws.proofs.NameTables.{IsNamedNarrow, name_few, query_few}
use Rattle.mz_resolve_laws.proofs.QueryTables.{IsFew, IsNarrow}
use Rattle.mz_resolve_laws.proofs.StepTools.{then_ok, weaker_ok}

-- a relation
pub relation_narrow : (plans : Made) (scope : Scope) → IsSoundOver plans scope → (query : List Select)
    → IfOk (query_in scope query) (λ relation. tables_read (index_reads plans) relation.plan ≤ relation.tables)
relation_narrow plans scope sound query =
    weaker_ok (query_in scope query) (IsNarrow (index_reads plans)) (IsFew (index_reads plans)) (query_few plans scope sound query)
    (λ relation narrow. narrow.few)

-- a query
pub asks_few : (plans : Made) (scope : Scope) → IsSoundOver plans scope → (query : List Select) (as_of : Option ℕ)
    → IfOk (resolution scope (statement.Query query as_of)) (ReadsFew plans)
asks_few plans scope sound query as_of =
    then_ok (query_in scope query) _ (IsNarrow (index_reads plans)) (ReadsFew plans) (query_few plans scope sound query)
    (λ relation narrow. omega (arith, narrow.few, narrow.most))

-- an index
pub indexes_few : (plans : Made) (scope : Scope) → IsSoundOver plans scope → (name on : List ℕ)
    → IfOk (resolution scope (statement.CreateIndex name on)) (ReadsFew plans)
indexes_few plans scope sound name on =
    then_ok (named scope (newest_first scope) on) _ (IsNamedNarrow plans scope) (ReadsFew plans) (name_few plans scope sound on)
    (λ found narrow. omega (arith, narrow.narrow.few, narrow.narrow.most))
