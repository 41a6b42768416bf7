-- Each statement leaves a well state.
use Rattle.std.proofs.Common.{◌≡◌, ℕ, Ok, Err, subst}
use Rattle.std.specs.Prelude.{IfOk}
use Rattle.mz_statement.specs.Statement.{IsStatement}
use Rattle.mz_statement.specs.declared.statement.Statement.{Statement}
use Rattle.mz_statement.specs.declared.statement.Statement.TheVariants as statement
use Rattle.mz_plan.specs.Items.{is_index, is_table, is_view}
use Rattle.mz_plan.specs.declared.resolved.Resolved.{Resolved}
use Rattle.mz_resolution.specs.Resolution.{query_in, resolution}
use Rattle.mz_resolution.specs.Steps.{Step}
use Rattle.mz_resolve_laws.proofs.StepTools.{any_then_ok}
use Rattle.mz_resolve_laws.specs.TypedOver.{LeafTypes}
use Rattle.mz_log.specs.CarriedOut.{carried_or_refused, carried_out, seq}
use Rattle.mz_log.specs.Sequential.{Sequential}
use Rattle.mz_state_laws.specs.Well.{IsWell, IsWellAfter, IsWellOver, scope_in}
use Rattle.mz_state_laws.proofs.CommandsKeep.{delete_keeps, drop_keeps}
use Rattle.mz_state_laws.proofs.CreationsKeep.{Leaves, index_keeps, table_keeps, view_keeps}
use Rattle.mz_state_laws.proofs.InsertsKeep.{insert_keeps}
use Rattle.mz_state_laws.proofs.LeftWell.{well_still}

-- what each statement asks for leaves a well state
pub statement_keeps : (types : LeafTypes) (state : Sequential) → IsWellOver types state → (cluster : ℕ) (said : Statement) → IsStatement said
    → IfOk (resolution (scope_in state cluster) said) (Leaves types state)
statement_keeps types state well cluster (statement.Query query as_of) is =
    any_then_ok (query_in (scope_in state cluster) query) _ (Leaves types state)
    (λ relation found. well_still types state well)
statement_keeps types state well cluster (statement.CreateTable name columns) is = table_keeps types state well cluster name columns
statement_keeps types state well cluster (statement.CreateView name query) is = view_keeps types state well cluster name query
statement_keeps types state well cluster (statement.CreateIndex name on) is = index_keeps types state well cluster name on
statement_keeps types state well cluster (statement.DropTable name) is = drop_keeps types state well cluster is_table name
statement_keeps types state well cluster (statement.DropView name) is = drop_keeps types state well cluster is_view name
statement_keeps types state well cluster (statement.DropIndex name) is = drop_keeps types state well cluster is_index name
statement_keeps types state well cluster (statement.Insert name rows) is = insert_keeps types state well cluster name rows is.1.each
statement_keeps types state well cluster (statement.Delete name test) is = delete_keeps types state well cluster name test
statement_keeps types state well cluster other is = tt

-- and so does each that is refused
carried_keeps : (types : LeafTypes) (state : Sequential) → IsWellOver types state → (step : Step Resolved)
    → IfOk step (Leaves types state) → IsWellAfter types state (carried_or_refused state step).state
carried_keeps types state well (Ok done) h = h
carried_keeps types state well (Err refusal) h = well_still types state well

-- so each statement does
pub seq_keeps : (types : LeafTypes) (state : Sequential) → IsWellOver types state → (cluster : ℕ) (said : Statement) → IsStatement said
    → IsWellAfter types state (seq state cluster said).state
unfolding seq
seq_keeps types state well cluster said is =
    carried_keeps types state well (resolution (scope_in state cluster) said) (statement_keeps types state well cluster said is)

-- what is asked for, by some statement, leaves a well state
pub asked_keeps : (types : LeafTypes) (state : Sequential) → IsWellOver types state → (cluster : ℕ) (said : Statement) → IsStatement said
    → (done : Resolved) → resolution (scope_in state cluster) said ≡ Ok done → IsWellAfter types state (carried_out state done).state
asked_keeps types state well cluster said is done resolved =
    subst (λ (step : Step Resolved). IfOk step (Leaves types state)) resolved
    (statement_keeps types state well cluster said is)

-- ---- whatever the types are

-- what is well over later types is well
well_again : (types : LeafTypes) (before after : Sequential) → IsWellAfter types before after → IsWell after
well_again types before after h = record { types = h.later; over = h.over }

-- a statement leaves a well state
pub seq_well : (state : Sequential) → IsWell state → (cluster : ℕ) (said : Statement) → IsStatement said → IsWell (seq state cluster said).state
seq_well state well cluster said is =
    well_again well.types state (seq state cluster said).state (seq_keeps well.types state well.over cluster said is)

-- and so does what is asked for
pub asked_well : (state : Sequential) → IsWell state → (cluster : ℕ) (said : Statement) → IsStatement said → (done : Resolved)
    → resolution (scope_in state cluster) said ≡ Ok done → IsWell (carried_out state done).state
asked_well state well cluster said is done resolved =
    well_again well.types state (carried_out state done).state (asked_keeps well.types state well.over cluster said is done resolved)
