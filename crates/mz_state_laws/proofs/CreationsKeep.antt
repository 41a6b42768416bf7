-- A CREATE leaves a well state.
use Rattle.std.proofs.Common.{◌≡◌, ◌<◌, ◌==◌, ℕ, Bool, true, false, cond, List, [], None, Result, Ok, Err, length, nat_le, refl, sym, ap, subst, arith}
use Rattle.std.proofs.lemmas.Bool.{eq-eqb, ne_eqb}
use Rattle.std.specs.Prelude.{IfOk}
use Rattle.mz_statement.specs.declared.column.Column.{Column}
use Rattle.mz_statement.specs.declared.column.ColumnType.{ColumnType}
use Rattle.mz_statement.specs.declared.query.Select.{Select}
use Rattle.mz_statement.specs.declared.statement.Statement.TheVariants as statement
use Rattle.mz_plan.specs.Types.{types_of}
use Rattle.mz_plan.specs.declared.item.Item.{Item}
use Rattle.mz_plan.specs.declared.item.ItemKind.TheVariants.{Table, View, Index}
use Rattle.mz_plan.specs.declared.resolved.Resolved.{Resolved}
use Rattle.mz_plan.specs.declared.resolved.Resolved.TheVariants as asked
use Rattle.mz_refusal.specs.declared.refusal.Refusal.{Refusal}
use Rattle.mz_resolution.specs.Queries.{most_columns}
use Rattle.mz_resolution.specs.Resolution.{first_of, newest_first, query_in, resolution}
use Rattle.mz_resolution.specs.Resolution as resolving
use Rattle.mz_resolution.specs.Steps.{◌>>=◌}
use Rattle.mz_resolution.specs.declared.relation.NamedRelation.{NamedRelation}
use Rattle.mz_resolution.specs.declared.relation.Relation.{Relation}
use Rattle.mz_resolve_laws.proofs.FewStatements.{indexes_few}
use Rattle.mz_resolve_laws.proofs.OverLaws.{index_over, over_in_cluster, table_over, view_over}
use Rattle.mz_resolve_laws.proofs.StepTools.{any_then_ok, guard_ok}
use Rattle.mz_resolve_laws.proofs.TypesStay.{index_typed, table_typed, typed_in_cluster, typed_unused, view_typed}
use Rattle.mz_resolve_laws.specs.TypedOver.{LeafTypes}
use Rattle.mz_log.specs.CarriedOut.{carried_out, next_item, unmakable}
use Rattle.mz_log.specs.Sequential.{Sequential}
use Rattle.mz_state_laws.specs.Well.{IsWellAfter, IsWellOver, scope_in}
use Rattle.mz_state_laws.proofs.ReadsThere.{new_own}
use Rattle.mz_state_laws.proofs.LeftWell.{well_still}
use Rattle.mz_state_laws.proofs.MadeWell.{well_made}
use Rattle.mz_state_laws.proofs.Refusals.{free_both, unless_refused}

-- what is asked for leaves a well state
abbrev pub Leaves : LeafTypes → Sequential → Resolved → Type 0
Leaves types state done = IsWellAfter types state (carried_out state done).state

-- ---- what is told of a step

-- what holds of what a step gives holds where it gives something
of_step : {A B : Type 0} (step : Result A Refusal) (x : A) (f : A → B) (P : B → Type 0) → step ≡ Ok x → IfOk (step >>= λ y. Ok (f y)) P → P (f x)
of_step step x f P is h = subst (λ s. IfOk (s >>= λ y. Ok (f y)) P) is h

-- and behind a test
of_guard : {A : Type 0} (test : Bool) (x : A) (refusal : Refusal) (P : A → Type 0) → test ≡ true → IfOk (cond test (Ok x) (Err refusal)) P → P x
of_guard true x refusal P is h = h
of_guard false x refusal P is h = absurd cc

-- ---- CREATE TABLE

-- the types of all tables with those of one more
abbrev with_types : LeafTypes → ℕ → List ColumnType → LeafTypes
with_types types new own number = cond (number == new) own (types number)

-- a number below the new one has its types still
types_stay : (types : LeafTypes) (new : ℕ) (own : List ColumnType) (number : ℕ) → number < new → types number ≡ with_types types new own number
types_stay types new own number less = sym (ap (λ c. cond c own (types number)) (ne_eqb number new (λ e. omega (arith, e, less))))

-- the item that is made
abbrev new_table : Sequential → List ℕ → List Column → Item
new_table state name columns = next_item state.database name 0 (Table columns)

-- and the types that there are then
abbrev later_types : LeafTypes → Sequential → List Column → LeafTypes
later_types types state columns = with_types types state.database.next (types_of columns)

-- a table
pub table_keeps : (types : LeafTypes) (state : Sequential) → IsWellOver types state → (cluster : ℕ) (name : List ℕ) (columns : List Column)
    → IfOk (resolution (scope_in state cluster) (statement.CreateTable name columns)) (Leaves types state)
table_keeps types state well cluster name columns =
    guard_ok (nat_le (length columns) most_columns) (asked.CreateTable name columns) _ (Leaves types state)
    (λ fits. unless_refused state (unmakable state.database.items name columns) _ _ (IsWellAfter types state) (well_still types state well)
    (λ none. well_made types (later_types types state columns) state (new_table state name columns) well refl
    (free_both state.database.items name columns none) (types_stay types state.database.next (types_of columns))
    (of_guard (nat_le (length columns) most_columns) (asked.CreateTable name columns) _ _ fits
    (table_over state.plans (scope_in state 0) well.sound (new_table state name columns) well.below well.made name columns) refl)
    (of_guard (nat_le (length columns) most_columns) (asked.CreateTable name columns) _ _ fits
    (table_typed (later_types types state columns) state.plans (scope_in state 0)
    (typed_unused types (later_types types state columns) state.plans (scope_in state 0) well.sound.order well.typed state.database.next
    well.below well.made (types_stay types state.database.next (types_of columns)))
    (new_table state name columns) well.below name columns
    (ap (λ c. cond c (types_of columns) (types state.database.next)) (eq-eqb state.database.next state.database.next refl))) refl)
    well.narrow tt))

-- ---- CREATE VIEW

-- the item that is made
abbrev new_view : Sequential → List ℕ → List Select → Relation → Item
new_view state name query relation = next_item state.database name 0 (View relation.columns (statement.Query query None))

-- a view
pub view_keeps : (types : LeafTypes) (state : Sequential) → IsWellOver types state → (cluster : ℕ) (name : List ℕ) (query : List Select)
    → IfOk (resolution (scope_in state cluster) (statement.CreateView name query)) (Leaves types state)
view_keeps types state well cluster name query =
    any_then_ok (query_in (scope_in state cluster) query) _ (Leaves types state)
    (λ relation is. unless_refused state (unmakable state.database.items name relation.columns) _ _ (IsWellAfter types state)
    (well_still types state well)
    (λ none. well_made types types state (new_view state name query relation) well refl
    (free_both state.database.items name relation.columns none) (λ number less. refl)
    (over_in_cluster _ _ 0
    (of_step _ relation (λ found. asked.CreateView name found.columns (statement.Query query None)) _ is
    (view_over state.plans (scope_in state cluster) (over_in_cluster _ _ cluster well.sound) (new_view state name query relation)
    well.below well.made name query) refl))
    (typed_in_cluster _ _ _ 0
    (of_step _ relation (λ found. asked.CreateView name found.columns (statement.Query query None)) _ is
    (view_typed types state.plans (scope_in state cluster) (typed_in_cluster _ _ _ cluster well.typed) (new_view state name query relation)
    well.below name query) refl))
    well.narrow tt))

-- ---- CREATE INDEX

-- the item that is made
abbrev new_index : Sequential → List ℕ → ℕ → NamedRelation → Item
new_index state name cluster found = next_item state.database name cluster (Index found.item found.relation.plan)

-- an index
pub index_keeps : (types : LeafTypes) (state : Sequential) → IsWellOver types state → (cluster : ℕ) (name on : List ℕ)
    → IfOk (resolution (scope_in state cluster) (statement.CreateIndex name on)) (Leaves types state)
index_keeps types state well cluster name on =
    any_then_ok (resolving.named (scope_in state cluster) (newest_first (scope_in state cluster)) on) _
    (Leaves types state)
    (λ found is. unless_refused state (unmakable state.database.items name []) _ _ (IsWellAfter types state) (well_still types state well)
    (λ none. well_made types types state (new_index state name cluster found) well refl
    (free_both state.database.items name [] none) (λ number less. refl)
    (over_in_cluster _ _ 0
    (of_step _ found (λ x. asked.CreateIndex name x.item x.relation.plan cluster) _ is
    (index_over state.plans (scope_in state cluster) (over_in_cluster _ _ cluster well.sound) (new_index state name cluster found)
    well.below well.made name on) refl))
    (typed_in_cluster _ _ _ 0
    (of_step _ found (λ x. asked.CreateIndex name x.item x.relation.plan cluster) _ is
    (index_typed types state.plans (scope_in state cluster) (over_in_cluster _ _ cluster well.sound).sound
    (typed_in_cluster _ _ _ cluster well.typed) (new_index state name cluster found) well.below name on) refl)) (
      of_step _ found (λ x. asked.CreateIndex name x.item x.relation.plan cluster) _ is
          (indexes_few state.plans (scope_in state cluster) (over_in_cluster _ _ cluster well.sound) name on),
      well.narrow,
    ) (new_own types state well cluster name on found is (new_index state name cluster found))))
