-- The plans that statements ask for are well formed over the types of all tables and the plans of all indexes ever made.
use Rattle.std.proofs.Common.{◌≡◌, ◌∙◌, ◌==◌, sym, subst, ap, ℕ, IsTrue, List, Option}
use Rattle.std.specs.Prelude.{IfOk}
use Rattle.std.proofs.lemmas.Bool.{and_parts}
use Rattle.std.proofs.lemmas.List.Elements.{All-contains, All-from_recursion}
use Rattle.mz_statement.specs.declared.query.Select.{Select}
use Rattle.mz_statement.specs.declared.statement.Statement.TheVariants as statement
use Rattle.mz_plan.specs.Leaves.{AllLeaves}
use Rattle.mz_plan.specs.Typed.{kind_columns}
use Rattle.mz_plan.specs.Types.{plan_types, types_of}
use Rattle.mz_plan.specs.WellFormed.{IsWellFormed}
use Rattle.mz_plan.specs.declared.item.Item.{Item}
use Rattle.mz_plan.specs.declared.item.ItemKind.{ItemKind}
use Rattle.mz_plan.specs.declared.item.ItemKind.TheVariants.{Table, View, Index}
use Rattle.mz_plan.specs.declared.plan.Plan.{Plan}
use Rattle.mz_plan.specs.declared.scope.Scope.{Scope}
use Rattle.mz_plan.specs.Items.{Ascend, is_index, is_table}
use Rattle.mz_resolution.specs.Resolution.{named, newest_first, query_in, resolution}
use Rattle.mz_plan.specs.PlanTypes.{IsFormedOver, index_types, item_types, types_over}
use Rattle.mz_resolve_laws.specs.OfScope.{HasItem, IsOfScope, is_index_in}
use Rattle.mz_resolve_laws.specs.Sound.{IsSound}
use Rattle.mz_resolve_laws.specs.SoundOver.{Made}
use Rattle.mz_resolve_laws.specs.TypedOver.{AsksOver, IndexFits, IndexesOver, IsRelationOver, IsTypedOver, LeafTypes, TableFits}
use Rattle.mz_resolve_laws.specs.WellFormed.{IsTypedRelation}
use Rattle.mz_plan_laws.proofs.ScopeTypes.{formed_in_scope, types_in_scope}
use Rattle.mz_resolve_laws.proofs.LeafForms.{form_same, types_same}
use Rattle.mz_resolve_laws.proofs.NameTypes.{IsTypedItem, item_of_number, name_typed, query_typed}
use Rattle.mz_resolve_laws.proofs.ScopeLeaves.{IsNamed, named_fits, newest_there, query_fits}
use Rattle.mz_resolve_laws.proofs.ScopeStatements.{leaves_weaker}
use Rattle.mz_resolve_laws.proofs.StepTools.{both_ok, then_ok, weaker_ok}

-- ---- leaves

-- a table of the scope
table_types : (tables : LeafTypes) (items : List Item) (number : ℕ) (kind : ItemKind) → IsTrue (is_table kind)
    → TableFits tables number kind → types_of (kind_columns items kind) ≡ tables number
table_types tables items number (Table columns) is h = sym h
table_types tables items number (View columns query) is h = absurd cc
table_types tables items number (Index on plan) is h = absurd cc

-- an index of it
own_types : (tables : LeafTypes) (plans : Made) (scope : Scope) (number : ℕ) (kind : ItemKind) → IsTrue (is_index kind)
    → IndexFits tables plans scope number kind → types_of (kind_columns scope.items kind) ≡ index_types tables plans number
own_types tables plans scope number (Table columns) is h = absurd cc
own_types tables plans scope number (View columns query) is h = absurd cc
own_types tables plans scope number (Index on plan) is h = sym h.types

-- the leaves of a plan of the scope have their types
leaves_typed : (tables : LeafTypes) (plans : Made) (scope : Scope) → Ascend scope.items → IsTypedOver tables plans scope
    → (plan : Plan) → IsOfScope scope plan
    → AllLeaves (λ n. item_types scope.items n ≡ tables n) (λ n. item_types scope.items n ≡ index_types tables plans n) plan
leaves_typed tables plans scope up typed plan h = leaves_weaker _ _ _ _ of_table of_index plan h
  where
    of_table : (number : ℕ) → HasItem scope (λ item. is_table item.kind) number → item_types scope.items number ≡ tables number
    of_table number k =
        subst (λ n. item_types scope.items n ≡ tables n) k.numbered (ap types_of (item_of_number scope.items up k.item k.there)
        ∙ table_types tables scope.items k.item.id k.item.kind k.passes
        (All-contains (λ item. TableFits tables item.id item.kind) scope.items k.item
        (All-from_recursion (λ item. TableFits tables item.id item.kind) scope.items typed.columns) k.there))

    of_index : (number : ℕ) → HasItem scope (is_index_in scope.cluster) number
        → item_types scope.items number ≡ index_types tables plans number
    of_index number k =
        subst (λ n. item_types scope.items n ≡ index_types tables plans n) k.numbered
        (ap types_of (item_of_number scope.items up k.item k.there)
        ∙ own_types tables plans scope k.item.id k.item.kind
        (and_parts (k.item.cluster == scope.cluster) (is_index k.item.kind) k.passes).1
        (All-contains (λ item. IndexFits tables plans scope item.id item.kind) scope.items k.item
        (All-from_recursion (λ item. IndexFits tables plans scope item.id item.kind) scope.items typed.indexes) k.there))

-- ---- plans

-- a plan of the scope has its types over what was made
plan_over : (tables : LeafTypes) (plans : Made) (scope : Scope) → Ascend scope.items → IsTypedOver tables plans scope
    → (plan : Plan) → IsOfScope scope plan → types_over tables (index_types tables plans) plan ≡ plan_types scope.items plan
plan_over tables plans scope up typed plan h =
    sym (types_in_scope scope.items plan
    ∙ types_same (item_types scope.items) (item_types scope.items) tables (index_types tables plans) plan
    (leaves_typed tables plans scope up typed plan h))

-- and is well formed over it
form_over : (tables : LeafTypes) (plans : Made) (scope : Scope) → Ascend scope.items → IsTypedOver tables plans scope
    → (plan : Plan) → IsOfScope scope plan → IsWellFormed scope.items plan → IsFormedOver tables (index_types tables plans) plan
form_over tables plans scope up typed plan h k =
    form_same (item_types scope.items) (item_types scope.items) tables (index_types tables plans) plan
    (leaves_typed tables plans scope up typed plan h) (formed_in_scope scope.items plan k)

-- ---- statements

-- a relation
pub relation_over : (tables : LeafTypes) (plans : Made) (scope : Scope) → IsSound scope → IsTypedOver tables plans scope
    → (query : List Select) → IfOk (query_in scope query) (IsRelationOver tables (index_types tables plans))
relation_over tables plans scope sound typed query =
    weaker_ok (query_in scope query) _ (IsRelationOver tables (index_types tables plans))
    (both_ok (query_in scope query) (λ relation. IsOfScope scope relation.plan) (IsTypedRelation scope.items)
    (query_fits scope query) (query_typed scope sound query)) (λ relation both. record {
      formed = form_over tables plans scope sound.numbers typed relation.plan both.0 both.1.formed;
      types = plan_over tables plans scope sound.numbers typed relation.plan both.0 ∙ both.1.types;
    })

-- a query
pub asks_over : (tables : LeafTypes) (plans : Made) (scope : Scope) → IsSound scope → IsTypedOver tables plans scope
    → (query : List Select) (as_of : Option ℕ)
    → IfOk (resolution scope (statement.Query query as_of)) (AsksOver tables (index_types tables plans))
asks_over tables plans scope sound typed query as_of =
    then_ok (query_in scope query) _ (IsRelationOver tables (index_types tables plans)) (AsksOver tables (index_types tables plans))
    (relation_over tables plans scope sound typed query) (λ relation over. over.formed)

-- an index
pub indexes_over : (tables : LeafTypes) (plans : Made) (scope : Scope) → IsSound scope → IsTypedOver tables plans scope
    → (name on : List ℕ)
    → IfOk (resolution scope (statement.CreateIndex name on)) (IndexesOver tables (index_types tables plans) scope)
indexes_over tables plans scope sound typed name on =
    then_ok (named scope (newest_first scope) on) _ (λ found. IsNamed scope on found × IsTypedItem scope.items found)
    (IndexesOver tables (index_types tables plans) scope)
    (both_ok (named scope (newest_first scope) on) (IsNamed scope on) (IsTypedItem scope.items)
    (named_fits scope (newest_first scope) (newest_there scope) on) (name_typed scope sound on)) (λ found both. (
      form_over tables plans scope sound.numbers typed found.relation.plan both.0.leaves both.1.relation.formed,
      plan_over tables plans scope sound.numbers typed found.relation.plan both.0.leaves
          ∙ (both.1.relation.types ∙ ap types_of both.1.own),
    ))
