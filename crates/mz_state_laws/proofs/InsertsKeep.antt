-- An INSERT leaves a well state.
use Rattle.std.proofs.Common.{◌≡◌, ◌≤◌, ◌+◌, ◌&&◌, ℕ, Bool, true, false, cond, List, [], ◌∷◌, map, bytes_eq, Option, None, Some, length, nat_le, refl, sym, ap, subst, ◌∙◌, arith}
use Rattle.std.proofs.lemmas.List.Elements.{All-contains, All-from_recursion}
use Rattle.std.specs.Prelude.{IfOk, IsTrue}
use Rattle.std.specs.List.{AllByRecursion as Each}
use Rattle.mz_value.specs.declared.datum.Datum.{Datum}
use Rattle.mz_statement.specs.Value.{IsTuple}
use Rattle.mz_statement.specs.declared.statement.Statement.TheVariants as statement
use Rattle.mz_plan.specs.Items.{is_table}
use Rattle.mz_plan.specs.RowTypes.{IsRowOf}
use Rattle.mz_plan.specs.Small.{most_rows}
use Rattle.mz_plan.specs.Typed.{own_columns, relation_columns}
use Rattle.mz_plan.specs.Types.{type_of, types_of}
use Rattle.mz_plan.specs.declared.item.ItemKind.{ItemKind}
use Rattle.mz_plan.specs.declared.item.ItemKind.TheVariants.{Table, View, Index}
use Rattle.mz_plan.specs.declared.resolved.Resolved.{Resolved}
use Rattle.mz_plan.specs.declared.resolved.Resolved.TheVariants as asked
use Rattle.mz_plan_laws.proofs.LiteralTypes.{row_of_types}
use Rattle.mz_refusal.specs.declared.refusal.Refusal.{Refusal}
use Rattle.mz_refusal.specs.declared.refusal.Refusal.TheVariants.{TableFull}
use Rattle.mz_resolution.specs.Resolution.{first_misfit, item_in, resolution, table_columns}
use Rattle.mz_resolution.specs.Steps.{unless}
use Rattle.mz_resolve_laws.proofs.NameTypes.{own_of}
use Rattle.mz_resolve_laws.proofs.ScopeStatements.{insert_fits}
use Rattle.mz_resolve_laws.proofs.StatementTypes.{inserts_well}
use Rattle.mz_resolve_laws.proofs.StepTools.{any_then_ok, both_ok, weaker_ok}
use Rattle.mz_resolve_laws.specs.OfScope.{ChangesOfScope, HasItem, is_called}
use Rattle.mz_resolve_laws.specs.TypedOver.{LeafTypes, TableFits}
use Rattle.mz_resolve_laws.specs.WellFormed.{InsertsWell}
use Rattle.mz_log.specs.CarriedOut.{carried_out, overfull, rows_in}
use Rattle.mz_log.specs.Sequential.{Sequential, bag_at}
use Rattle.mz_state_laws.specs.Well.{IsWellAfter, IsWellOver, scope_in}
use Rattle.mz_state_laws.proofs.RowsStay.{rows_more}
use Rattle.mz_state_laws.proofs.CreationsKeep.{Leaves}
use Rattle.mz_state_laws.proofs.LeftWell.{well_moved, well_still}
use Rattle.mz_state_laws.proofs.Refusals.{unless_refused}

-- what isn't too much for a table leaves it with no more than it may have
room_there : (has adds : ℕ) → overfull has adds ≡ None → has + adds ≤ most_rows
room_there has adds h = by (nat_le (has + adds) most_rows) refl h
  where
    by : (c : Bool) → nat_le (has + adds) most_rows ≡ c → cond c None (Some (TableFull has adds)) ≡ None → has + adds ≤ most_rows
    by true is k = grind arith
    by false is k = cc

-- rows come to a table
insert_leaves : (types : LeafTypes) (state : Sequential) → IsWellOver types state → (table : ℕ) (rows : List (List Datum))
    → Each (IsRowOf (types table)) rows → IsWellAfter types state (carried_out state (asked.Insert table rows)).state
insert_leaves types state well table rows own =
    unless_refused state (overfull (rows_in (bag_at state.database.bags table)) (length rows)) _ _ (IsWellAfter types state)
    (well_still types state well)
    (λ none. well_moved types state table _ well
    (λ is. rows_more (types table) (bag_at state.database.bags table) rows is
    (room_there (rows_in (bag_at state.database.bags table)) (length rows) none) own))

-- what is asked for puts these rows in
abbrev Puts : List (List Datum) → Resolved → Type 0
Puts rows (asked.Insert table others) = others ≡ rows
Puts rows other = ⊥

-- so an INSERT does
inserts_these : (state : Sequential) (cluster : ℕ) (name : List ℕ) (rows : List (List Datum))
    → IfOk (resolution (scope_in state cluster) (statement.Insert name rows)) (Puts rows)
inserts_these state cluster name rows =
    any_then_ok (item_in (scope_in state cluster) name) _ (Puts rows) (λ item found.
    any_then_ok (table_columns name item.kind) _ (Puts rows) (λ columns is. by item.id (first_misfit name columns rows)))
  where
    by : (table : ℕ) (found : Option Refusal) → IfOk (unless found (asked.Insert table rows)) (Puts rows)
    by table None = refl
    by table (Some refusal) = tt

-- rows of literals that have the types of columns
literal_rows : (types : List _) (rows : List (List Datum)) → Each IsTuple rows → Each (λ row. map type_of row ≡ types) rows
    → Each (IsRowOf types) rows
literal_rows types [] h k = tt
literal_rows types (row ∷ rows) h k = (row_of_types types row h.0.literals k.0, literal_rows types rows h.1 k.1)

-- a table has the types of its number
table_types : (types : LeafTypes) (number : ℕ) (kind : ItemKind) (b : Bool) → IsTrue (is_table kind && b) → TableFits types number kind
    → types number ≡ types_of (own_columns kind)
table_types types number (Table columns) b is fits = fits
table_types types number (View columns query) b is fits = absurd cc
table_types types number (Index on plan) b is fits = absurd cc

-- so a table that is called by its name has the types of the columns that its number finds
called_types : (types : LeafTypes) (state : Sequential) → IsWellOver types state → (cluster : ℕ) (name : List ℕ) (table : ℕ)
    → HasItem (scope_in state cluster) (is_called is_table name) table → types table ≡ types_of (relation_columns state.database.items table)
called_types types state well cluster name table has =
    subst (λ n. types n ≡ types_of (relation_columns state.database.items n)) has.numbered
    (table_types types has.item.id has.item.kind (bytes_eq name has.item.name) has.passes
    (All-contains (λ item. TableFits types item.id item.kind) state.database.items has.item
    (All-from_recursion (λ item. TableFits types item.id item.kind) state.database.items well.typed.columns) has.there)
    ∙ ap types_of (sym (own_of state.database.items well.sound.sound.numbers has.item has.there)))

-- what is asked for is of the table that is called so, and puts these rows in
abbrev PutsInto : Sequential → ℕ → List ℕ → List (List Datum) → Resolved → Type 0
PutsInto state cluster name rows done = ChangesOfScope (scope_in state cluster) is_table name done × Puts rows done

-- an INSERT of rows of literals
pub insert_keeps : (types : LeafTypes) (state : Sequential) → IsWellOver types state → (cluster : ℕ) (name : List ℕ) (rows : List (List Datum))
    → Each IsTuple rows
    → IfOk (resolution (scope_in state cluster) (statement.Insert name rows)) (Leaves types state)
insert_keeps types state well cluster name rows tuples =
    weaker_ok (resolution (scope_in state cluster) (statement.Insert name rows)) _ (Leaves types state)
    (both_ok (resolution (scope_in state cluster) (statement.Insert name rows)) (InsertsWell state.database.items)
    (PutsInto state cluster name rows)
    (inserts_well (scope_in state cluster) well.sound.sound.numbers name rows)
    (both_ok (resolution (scope_in state cluster) (statement.Insert name rows)) (ChangesOfScope (scope_in state cluster) is_table name)
    (Puts rows)
    (insert_fits (scope_in state cluster) name rows) (inserts_these state cluster name rows)))
    by
  where
    by : (done : Resolved) → InsertsWell state.database.items done × PutsInto state cluster name rows done
        → IsWellAfter types state (carried_out state done).state
    by (asked.Insert table others) h =
        insert_leaves types state well table others
        (literal_rows (types table) others (subst (Each IsTuple) (sym h.1.1) tuples)
        (subst (λ ts. Each (λ row. map type_of row ≡ ts) others) (sym (called_types types state well cluster name table h.1.0)) h.0))
    by other h = absurd h.0
