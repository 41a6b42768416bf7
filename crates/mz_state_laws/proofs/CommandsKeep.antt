-- A DROP and a DELETE leave a well state.
use Rattle.std.proofs.Common.{◌≡◌, ℕ, Bool, cond, List, [], ◌∷◌, Option, None, refl}
use Rattle.std.specs.Prelude.{IfOk}
use Rattle.mz_statement.specs.declared.condition.Test.{Test}
use Rattle.mz_statement.specs.declared.statement.Statement.TheVariants as statement
use Rattle.mz_plan.specs.Items.{dependents}
use Rattle.mz_plan.specs.declared.condition.Cond.{Cond}
use Rattle.mz_plan.specs.declared.item.Item.{Item}
use Rattle.mz_plan.specs.declared.item.ItemKind.{ItemKind}
use Rattle.mz_plan.specs.declared.resolved.Resolved.TheVariants as asked
use Rattle.mz_resolution.specs.Conditions.{condition}
use Rattle.mz_resolution.specs.Resolution.{dropped, item_in, resolution, table_columns, table_sight}
use Rattle.mz_resolve_laws.proofs.StepTools.{any_then_ok, guard_ok}
use Rattle.mz_resolve_laws.specs.TypedOver.{LeafTypes}
use Rattle.mz_log.specs.CarriedOut.{carried_out, held_back, meets}
use Rattle.mz_log.specs.Sequential.{Sequential, bag_at}
use Rattle.mz_state_laws.specs.Well.{IsWellAfter, IsWellOver, scope_in}
use Rattle.mz_state_laws.proofs.RowsStay.{rows_less}
use Rattle.mz_state_laws.proofs.CreationsKeep.{Leaves}
use Rattle.mz_state_laws.proofs.LeftWell.{well_moved, well_removed, well_still}
use Rattle.mz_state_laws.proofs.Refusals.{unless_refused}

-- ---- DROP

-- where nothing holds an item back, none depends on it
pub none_holds : (items : List Item) → held_back items ≡ None → items ≡ []
none_holds [] h = refl
none_holds (item ∷ items) h = cc

-- what is there isn't, once it is dropped
drop_leaves : (types : LeafTypes) (state : Sequential) → IsWellOver types state → (id : ℕ)
    → IsWellAfter types state (carried_out state (asked.Drop id)).state
drop_leaves types state well id =
    unless_refused state (held_back (dependents id state.database.items)) _ _ (IsWellAfter types state) (well_still types state well)
    (λ none. well_removed types state id well (none_holds (dependents id state.database.items) none))

-- a DROP, of whatever kind
pub drop_keeps : (types : LeafTypes) (state : Sequential) → IsWellOver types state → (cluster : ℕ) (is_kind : ItemKind → Bool) (name : List ℕ)
    → IfOk (dropped (scope_in state cluster) is_kind name) (Leaves types state)
drop_keeps types state well cluster is_kind name =
    any_then_ok (item_in (scope_in state cluster) name) _ (Leaves types state)
    (λ item found. guard_ok (is_kind item.kind) (asked.Drop item.id) _ (Leaves types state)
    (λ is. drop_leaves types state well item.id))

-- ---- DELETE

-- rows go from a table
delete_leaves : (types : LeafTypes) (state : Sequential) → IsWellOver types state → (table : ℕ) (cond : Option Cond)
    → IsWellAfter types state (carried_out state (asked.Delete table cond)).state
delete_leaves types state well table cond =
    well_moved types state table _ well (rows_less (types table) (bag_at state.database.bags table) (meets cond))

-- a DELETE
pub delete_keeps : (types : LeafTypes) (state : Sequential) → IsWellOver types state → (cluster : ℕ) (name : List ℕ) (test : Option Test)
    → IfOk (resolution (scope_in state cluster) (statement.Delete name test)) (Leaves types state)
delete_keeps types state well cluster name test =
    any_then_ok (item_in (scope_in state cluster) name) _ (Leaves types state) (λ item found.
    any_then_ok (table_columns name item.kind) _ (Leaves types state) (λ columns is.
    any_then_ok (condition (table_sight name columns) test) _ (Leaves types state) (λ cond given. delete_leaves types state well item.id cond)))
