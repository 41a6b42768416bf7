-- The plans that are asked for in a well state are bounded over its tables.
use Rattle.std.proofs.Common.{◌≡◌, ◌≤◌, ◌==◌, ℕ, Bool, true, false, cond, List, [], ◌∷◌, Option, sym, subst, arith}
use Rattle.std.specs.Prelude.{IfOk}
use Rattle.mz_statement.specs.declared.query.Select.{Select}
use Rattle.mz_statement.specs.declared.statement.Statement.TheVariants as statement
use Rattle.mz_plan.specs.Bound.{IsBoundedIn, IsBoundedOver}
use Rattle.mz_plan.specs.Masses.{AreWithin}
use Rattle.mz_plan.specs.Meaning.{Leaves, index_rows, meaning, meaning_of, table_rows}
use Rattle.mz_plan.specs.PlanTypes.{IsFormedOver, index_types}
use Rattle.mz_plan.specs.RowTypes.{AreTyped}
use Rattle.mz_plan.specs.Small.{index_reads, most_rows, most_tables, tables_read}
use Rattle.mz_plan.specs.declared.plan.Plan.{Plan}
use Rattle.mz_plan.specs.declared.plan.Plan.TheVariants as node
use Rattle.mz_plan.specs.declared.resolved.Resolved.{Resolved}
use Rattle.mz_plan.specs.declared.resolved.Resolved.TheVariants as asked
use Rattle.mz_plan.specs.declared.tables.TableBags.{TableBags}
use Rattle.mz_plan_laws.proofs.RowTypes.{small_typed_bounded}
use Rattle.mz_resolution.specs.Resolution.{resolution}
use Rattle.mz_resolve_laws.proofs.FewStatements.{asks_few, indexes_few}
use Rattle.mz_resolve_laws.proofs.OverBounds.{asks_bounded, indexes_bounded}
use Rattle.mz_resolve_laws.proofs.OverLaws.{over_in_cluster}
use Rattle.mz_resolve_laws.proofs.StepTools.{both_ok, weaker_ok}
use Rattle.mz_resolve_laws.proofs.TypesStay.{typed_in_cluster}
use Rattle.mz_resolve_laws.specs.SoundOver.{ReadsFew}
use Rattle.mz_resolve_laws.specs.TypedOver.{AsksBounded, LeafTypes}
use Rattle.mz_log.specs.CarriedOut.{rows_of}
use Rattle.mz_log.specs.Sequential.{Sequential}
use Rattle.mz_state_laws.specs.Evaluable.{AreOf, AsksBoundedIn, AsksEvaluable, IsEvaluable}
use Rattle.mz_state_laws.specs.Well.{AreNarrow, IsWell, IsWellOver, scope_in}
use Rattle.mz_state_laws.proofs.LeafRows.{rows_of_types, rows_within}

-- ---- indexes

-- each index reads few tables, and so does what is no index
index_narrow : (plans : List (ℕ × Plan)) → AreNarrow plans → (number : ℕ) → index_reads plans number ≤ most_tables
index_narrow [] h number = omega arith
index_narrow (newest ∷ older) h number = by (newest.0 == number) h.0 (index_narrow older h.1 number)
  where
    by : (c : Bool) → tables_read (index_reads older) newest.1 ≤ most_tables → index_reads older number ≤ most_tables
        → cond c (tables_read (index_reads older) newest.1) (index_reads older number) ≤ most_tables
    by true first rest = first
    by false first rest = rest

-- ---- any rows of the tables' types

-- over them a plan is bounded that is well formed and reads few tables
pub formed_bounded : (types : LeafTypes) (state : Sequential) → IsWellOver types state → (rows : Leaves) → AreWithin most_rows rows
    → AreTyped types rows → (plan : Plan) → tables_read (index_reads state.plans) plan ≤ most_tables
    → IsFormedOver types (index_types types state.plans) plan → IsBoundedOver rows state.plans plan
formed_bounded types state well rows within typed plan few formed =
    small_typed_bounded types rows state.plans plan
    (record { few = few; rows = within; typed = typed; formed = formed; indexes = well.typed.formed })

-- and so is each index
pub index_bounded : (types : LeafTypes) (state : Sequential) → IsWellOver types state → (rows : Leaves) → AreWithin most_rows rows
    → AreTyped types rows → (number : ℕ) → IsBoundedOver rows state.plans (node.Index number)
index_bounded types state well rows within typed number =
    formed_bounded types state well rows within typed (node.Index number) (index_narrow state.plans well.narrow number) tt

-- so is what a query asks for
pub asks_bounded_over : (types : LeafTypes) (state : Sequential) → IsWellOver types state → (rows : Leaves) → AreWithin most_rows rows
    → AreTyped types rows → (cluster : ℕ) (query : List Select) (as_of : Option ℕ)
    → IfOk (resolution (scope_in state cluster) (statement.Query query as_of)) (AsksBounded rows state.plans)
asks_bounded_over types state well rows within typed cluster query as_of =
    asks_bounded types state.plans (scope_in state cluster) (over_in_cluster _ _ cluster well.sound) (typed_in_cluster _ _ _ cluster well.typed) rows
    within typed query as_of

-- ---- the rows of a state

-- an index may be read
pub index_evaluable : (state : Sequential) → IsWell state → (number : ℕ) → IsEvaluable state (node.Index number)
index_evaluable state well number = record {
  few = index_narrow state.plans well.over.narrow number;
  bounded = index_bounded well.types state well.over (table_rows state.database.bags) (rows_within well.types state.database.bags well.over.bags)
      (rows_of_types well.types state.database.bags well.over.bags) number;
}

-- what reads few tables and is bounded may be read
both_evaluable : (state : Sequential) (done : Resolved) → ReadsFew state.plans done × AsksBounded (table_rows state.database.bags) state.plans done
    → AsksEvaluable state done
both_evaluable state (asked.Query plan) h = record { few = h.0; bounded = h.1 }
both_evaluable state (asked.CreateIndex name on plan cluster) h = record { few = h.0; bounded = h.1 }
both_evaluable state other h = absurd h.0

-- so may a query
pub query_evaluable : (state : Sequential) → IsWell state → (cluster : ℕ) (query : List Select) (as_of : Option ℕ)
    → IfOk (resolution (scope_in state cluster) (statement.Query query as_of)) (AsksEvaluable state)
query_evaluable state well cluster query as_of =
    weaker_ok (resolution (scope_in state cluster) (statement.Query query as_of)) _ (AsksEvaluable state)
    (both_ok (resolution (scope_in state cluster) (statement.Query query as_of)) (ReadsFew state.plans)
    (AsksBounded (table_rows state.database.bags) state.plans)
    (asks_few state.plans (scope_in state cluster) (over_in_cluster _ _ cluster well.over.sound) query as_of)
    (asks_bounded_over well.types state well.over (table_rows state.database.bags)
    (rows_within well.types state.database.bags well.over.bags) (rows_of_types well.types state.database.bags well.over.bags) cluster query as_of))
    (both_evaluable state)

-- and the plan of a new index
pub new_index_evaluable : (state : Sequential) → IsWell state → (cluster : ℕ) (name on : List ℕ)
    → IfOk (resolution (scope_in state cluster) (statement.CreateIndex name on)) (AsksEvaluable state)
new_index_evaluable state well cluster name on =
    weaker_ok (resolution (scope_in state cluster) (statement.CreateIndex name on)) _ (AsksEvaluable state)
    (both_ok (resolution (scope_in state cluster) (statement.CreateIndex name on)) (ReadsFew state.plans)
    (AsksBounded (table_rows state.database.bags) state.plans)
    (indexes_few state.plans (scope_in state cluster) (over_in_cluster _ _ cluster well.over.sound) name on)
    (indexes_bounded well.types state.plans (scope_in state cluster) (over_in_cluster _ _ cluster well.over.sound)
    (typed_in_cluster _ _ _ cluster well.over.typed) (table_rows state.database.bags)
    (rows_within well.types state.database.bags well.over.bags) (rows_of_types well.types state.database.bags well.over.bags) name on))
    (both_evaluable state)

-- ---- evaluation

-- what may be read over a state is bounded in tables that have its rows
pub bounded_in : (state : Sequential) (tables : TableBags) → AreOf state tables → (plan : Plan) → IsEvaluable state plan → IsBoundedIn tables plan
bounded_in state tables are plan is = record {
  bounded = subst (λ bags. IsBoundedOver (table_rows bags) tables.plans plan) (sym are.bags)
      (subst (λ plans. IsBoundedOver (table_rows state.database.bags) plans plan) (sym are.plans) is.bounded);
}

-- so is what is asked for
asks_in : (state : Sequential) (tables : TableBags) → AreOf state tables → (done : Resolved) → AsksEvaluable state done → AsksBoundedIn tables done
asks_in state tables are (asked.Query plan) h = bounded_in state tables are plan h
asks_in state tables are (asked.CreateIndex name on plan cluster) h = bounded_in state tables are plan h
asks_in state tables are other h = absurd h

-- the plan of a query is
pub query_bounded_in : (state : Sequential) → IsWell state → (tables : TableBags) → AreOf state tables → (cluster : ℕ) (query : List Select)
    (as_of : Option ℕ) → IfOk (resolution (scope_in state cluster) (statement.Query query as_of)) (AsksBoundedIn tables)
query_bounded_in state well tables are cluster query as_of =
    weaker_ok (resolution (scope_in state cluster) (statement.Query query as_of)) (AsksEvaluable state) (AsksBoundedIn tables)
    (query_evaluable state well cluster query as_of) (asks_in state tables are)

-- it means what the state has
pub means_rows : (state : Sequential) (tables : TableBags) → AreOf state tables → (plan : Plan) → meaning_of plan tables ≡ rows_of state plan
means_rows state tables are plan i = meaning (table_rows (are.bags i)) (index_rows (table_rows (are.bags i)) (are.plans i)) plan
