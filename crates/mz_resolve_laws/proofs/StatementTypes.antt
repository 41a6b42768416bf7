-- What statements ask for fits the types of columns.
use Rattle.std.proofs.Common.{◌≡◌, ◌∙◌, ◌+◌, ◌==◌, refl, sym, subst, ap, ℕ, Bool, true, false, cond, List, [], ◌∷◌, map, length, Option, None, Some, slice_get, arith}
use Rattle.std.specs.Prelude.{IfOk}
use Rattle.std.specs.List.{AllByRecursion as Each}
use Rattle.std.proofs.lemmas.Bool.{eqb-true}
use Rattle.mz_value.specs.declared.datum.Datum.{Datum}
use Rattle.mz_statement.specs.declared.column.Column.{Column}
use Rattle.mz_statement.specs.declared.column.ColumnType.{ColumnType}
use Rattle.mz_statement.specs.declared.condition.Test.{Test}
use Rattle.mz_statement.specs.declared.query.Select.{Select}
use Rattle.mz_statement.specs.declared.statement.Statement.TheVariants as statement
use Rattle.mz_plan.specs.Typed.{own_columns, relation_columns}
use Rattle.mz_plan.specs.declared.item.Item.{Item}
use Rattle.mz_plan.specs.declared.item.ItemKind.{ItemKind}
use Rattle.mz_plan.specs.declared.item.ItemKind.TheVariants.{Table, View, Index}
use Rattle.mz_refusal.specs.declared.refusal.Refusal.{Refusal}
use Rattle.mz_refusal.specs.declared.refusal.Refusal.TheVariants.{WrongType}
use Rattle.mz_plan.specs.declared.resolved.Resolved.TheVariants as resolved
use Rattle.mz_plan.specs.declared.scope.Scope.{Scope}
use Rattle.mz_plan.specs.Items.{Ascend}
use Rattle.mz_resolution.specs.Columns.{SeenColumn, columns_of}
use Rattle.mz_plan.specs.Types.{same_type, type_of}
use Rattle.mz_resolution.specs.Conditions.{condition}
use Rattle.mz_resolution.specs.Resolution.{first_misfit, first_of, item_in, misfit, misplaced, named, newest_first, query_in, resolution, table_columns, table_sight}
use Rattle.mz_resolution.specs.Steps.{unless}
use Rattle.mz_resolve_laws.specs.Sound.{IsSound}
use Rattle.mz_plan.specs.Types.{types_of}
use Rattle.mz_plan.specs.WellFormed.{IsTyped, SomeCondFits}
use Rattle.mz_resolve_laws.specs.WellFormed.{AsksWell, DeletesWell, IndexesWell, InsertsWell, IsTypedRelation}
use Rattle.mz_resolve_laws.proofs.CondTypes.{SeesTyped, condition_ok, same_type_same}
use Rattle.mz_resolve_laws.proofs.JoinTypes.{IsSeenIn, columns_of_seen}
use Rattle.mz_resolve_laws.proofs.NameTypes.{IsTypedItem, name_typed, own_of, query_typed}
use Rattle.mz_resolve_laws.proofs.ScopeStatements.{IsCalled, item_in_fits}
use Rattle.mz_resolve_laws.proofs.StepTools.{then_ok}
use Rattle.mz_resolve_laws.proofs.TypePlaces.{each_weaker}

-- a query
pub asks_well : (scope : Scope) → IsSound scope → (query : List Select) (as_of : Option ℕ)
    → IfOk (resolution scope (statement.Query query as_of)) (AsksWell scope.items)
asks_well scope sound query as_of =
    then_ok (query_in scope query) _ (IsTypedRelation scope.items) (AsksWell scope.items) (query_typed scope sound query)
    (λ relation typed. typed.formed)

-- an index
pub indexes_well : (scope : Scope) → IsSound scope → (name on : List ℕ)
    → IfOk (resolution scope (statement.CreateIndex name on)) (IndexesWell scope.items)
indexes_well scope sound name on =
    then_ok (named scope (newest_first scope) on) _ (IsTypedItem scope.items) (IndexesWell scope.items) (name_typed scope sound on)
    (λ found typed. (typed.relation.formed, typed.relation.types ∙ ap types_of typed.own))

-- ---- rows

-- values none of which is misplaced have their columns' types
placed_well : (columns : List Column) (row : List Datum) → misplaced columns row ≡ None → length row ≡ length columns
    → map type_of row ≡ types_of columns
placed_well [] [] h e = refl
placed_well [] (value ∷ row) h e = absurd (omega (arith, e))
placed_well (column ∷ columns) [] h e = absurd (omega (arith, e))
placed_well (column ∷ columns) (value ∷ row) h e =
    by (same_type column.kind (type_of value)) refl h (λ k. placed_well columns row k (omega (arith, e)))
  where
    by : (c : Bool) → same_type column.kind (type_of value) ≡ c → cond c (misplaced columns row) (Some (WrongType column.name)) ≡ None
        → (misplaced columns row ≡ None → map type_of row ≡ types_of columns) → map type_of (value ∷ row) ≡ types_of (column ∷ columns)
    by true same k rest = let here : type_of value ≡ column.kind =
        sym (same_type_same column.kind (type_of value) same) in λ i. here i ∷ rest k i
    by false same k rest = absurd cc

-- a row that fits
row_well : (table : List ℕ) (columns : List Column) (row : List Datum) → misfit table columns row ≡ None
    → map type_of row ≡ types_of columns
row_well table columns row h = by (length row == length columns) refl h
  where
    by : (c : Bool) → (length row == length columns) ≡ c → cond c (misplaced columns row) (Some (WrongType table)) ≡ None
        → map type_of row ≡ types_of columns
    by true e k = placed_well columns row k (eqb-true (length row) (length columns) e)
    by false e k = absurd cc

-- rows none of which is a misfit
rows_well : (table : List ℕ) (columns : List Column) (rows : List (List Datum)) → first_misfit table columns rows ≡ None
    → Each (λ row. map type_of row ≡ types_of columns) rows
rows_well table columns [] h = tt
rows_well table columns (row ∷ rows) h = by (misfit table columns row) refl h (rows_well table columns rows)
  where
    by : (found : Option Refusal) → misfit table columns row ≡ found → first_of found (first_misfit table columns rows) ≡ None
        → (first_misfit table columns rows ≡ None → Each (λ other. map type_of other ≡ types_of columns) rows)
        → Each (λ other. map type_of other ≡ types_of columns) (row ∷ rows)
    by None e k rest = (row_well table columns row e, rest k)
    by (Some refusal) e k rest = absurd cc

-- the columns of a table are its own
table_own : (name : List ℕ) (kind : ItemKind) → IfOk (table_columns name kind) (λ columns. columns ≡ own_columns kind)
table_own name (Table columns) = refl
table_own name (View columns query) = tt
table_own name (Index on below) = tt

-- an INSERT
pub inserts_well : (scope : Scope) → Ascend scope.items → (name : List ℕ) (rows : List (List Datum))
    → IfOk (resolution scope (statement.Insert name rows)) (InsertsWell scope.items)
inserts_well scope up name rows =
    then_ok (item_in scope name) _ (IsCalled scope name) (InsertsWell scope.items) (item_in_fits scope name) (λ item here.
    then_ok (table_columns name item.kind) _ (λ columns. columns ≡ own_columns item.kind) (InsertsWell scope.items)
    (table_own name item.kind) (λ columns own.
    by item columns (own ∙ sym (own_of scope.items up item here.there)) (first_misfit name columns rows) refl))
  where
    by : (item : Item) (columns : List Column) → columns ≡ relation_columns scope.items item.id → (found : Option Refusal)
        → first_misfit name columns rows ≡ found
        → IfOk (unless found (resolved.Insert item.id rows)) (InsertsWell scope.items)
    by item columns own None e = subst (λ cs. Each (λ row. map type_of row ≡ types_of cs) rows) own (rows_well name columns rows e)
    by item columns own (Some refusal) e = tt

-- ---- conditions

-- what a condition over one table sees
table_seen : (table : List ℕ) (columns : List Column) → Each (SeesTyped (types_of columns)) (columns_of 0 0 table 0 columns)
table_seen table columns =
    each_weaker (IsSeenIn 0 0 (types_of columns)) (SeesTyped (types_of columns)) typed _
    (columns_of_seen 0 0 table (types_of columns) 0 columns whole)
  where
    typed : (seen : SeenColumn) → IsSeenIn 0 0 (types_of columns) seen → IsTyped (types_of columns) seen.place seen.kind
    typed seen h = let none : 0 + seen.within ≡ seen.within = omega arith in ap (slice_get (types_of columns)) (h.placed ∙ none) ∙ h.typed

    whole : (k : ℕ) (of_type : ColumnType) → IsTyped (types_of columns) k of_type → IsTyped (types_of columns) (0 + k) of_type
    whole k of_type e = let none : k ≡ 0 + k = omega arith in subst (λ place. IsTyped (types_of columns) place of_type) none e

-- a DELETE
pub deletes_well : (scope : Scope) → Ascend scope.items → (name : List ℕ) (test : Option Test)
    → IfOk (resolution scope (statement.Delete name test)) (DeletesWell scope.items)
deletes_well scope up name test =
    then_ok (item_in scope name) _ (IsCalled scope name) (DeletesWell scope.items) (item_in_fits scope name) (λ item here.
    then_ok (table_columns name item.kind) _ (λ columns. columns ≡ own_columns item.kind) (DeletesWell scope.items)
    (table_own name item.kind) (λ columns own.
    then_ok (condition (table_sight name columns) test) _ (SomeCondFits (types_of columns)) (DeletesWell scope.items)
    (condition_ok (types_of columns) (table_sight name columns) (table_seen name columns) test)
    (λ cond fits. subst (λ cs. SomeCondFits (types_of cs) cond) (own ∙ sym (own_of scope.items up item here.there)) fits)))
