-- A scope keeps its types over those of all tables and the plans of all indexes ever made.
use Rattle.std.proofs.Common.{◌≡◌, ◌∙◌, ◌<◌, ◌==◌, refl, sym, subst, ap, ℕ, suc, Bool, true, false, IsTrue, cond, not, List, [], ◌∷◌, ◌++◌, filter, arith}
use Rattle.std.specs.Prelude.{All, Contains, IfOk, ⊤}
use Rattle.std.specs.List.{AllByRecursion as Each}
use Rattle.std.proofs.lemmas.Bool.{eq-eqb, eqb-true, ne_eqb}
use Rattle.std.proofs.lemmas.List.Elements.{recursion_from_All}
use Rattle.mz_statement.specs.declared.column.Column.{Column}
use Rattle.mz_statement.specs.declared.query.Select.{Select}
use Rattle.mz_statement.specs.declared.statement.Statement.TheVariants as statement
use Rattle.mz_plan.specs.Leaves.{AllBelow, AllLeaves}
use Rattle.mz_plan.specs.Typed.{own_columns, relation_columns}
use Rattle.mz_plan.specs.Types.{types_of}
use Rattle.mz_plan.specs.declared.item.Item.{Item}
use Rattle.mz_plan.specs.declared.item.ItemKind.{ItemKind}
use Rattle.mz_plan.specs.declared.item.ItemKind.TheVariants.{Table, View, Index}
use Rattle.mz_plan.specs.declared.plan.Plan.{Plan}
use Rattle.mz_plan.specs.declared.resolved.Resolved.{Resolved}
use Rattle.mz_plan.specs.declared.resolved.Resolved.TheVariants as resolved
use Rattle.mz_plan.specs.declared.scope.Scope.{Scope}
use Rattle.mz_plan.specs.Items.{Ascend, dependents, is_index, is_on}
use Rattle.mz_resolution.specs.Resolution.{query_in, resolution}
use Rattle.mz_resolve_laws.specs.Growth.{IsMadeBy, IsNewIn, in_cluster, with_item, without_item}
use Rattle.mz_resolve_laws.specs.OfScope.{NamesBelow}
use Rattle.mz_plan.specs.PlanTypes.{AreFormedOver, IsFormedOver, index_types, types_over}
use Rattle.mz_plan.specs.Indexes.{AreNewestFirst}
use Rattle.mz_resolve_laws.specs.Sound.{IsSound}
use Rattle.mz_resolve_laws.specs.SoundOver.{IsNewAmong, Made, made_with}
use Rattle.mz_resolve_laws.specs.TypedOver.{IndexFits, IndexesOver, IsTypedOver, LeafTypes, TableFits}
use Rattle.mz_resolve_laws.proofs.LeafForms.{form_same, types_same}
use Rattle.mz_resolve_laws.proofs.NameTypes.{pairs_tail}
use Rattle.mz_resolve_laws.proofs.OverTypes.{indexes_over}
use Rattle.mz_resolve_laws.proofs.ScopeLeaves.{all_there}
use Rattle.mz_resolve_laws.proofs.ScopeStatements.{indexes_below, leaves_weaker}
use Rattle.mz_resolve_laws.proofs.StepTools.{any_then_ok, both_ok, guard_ok, weaker_ok}
use Rattle.mz_resolve_laws.proofs.TablesStay.{IsSpared, on_spared}
use Rattle.mz_resolve_laws.proofs.TypePlaces.{each_append, each_filter, each_from}

-- ---- the columns of an item

-- with an item more
columns_grow : (items : List Item) (item : Item) (on : ℕ) → on < item.id
    → relation_columns (items ++ item ∷ []) on ≡ relation_columns items on
columns_grow [] item on less = ap (λ c. cond c (own_columns item.kind) []) (ne_eqb item.id on (λ e. omega (arith, e, less)))
columns_grow (first ∷ items) item on less =
    ap (λ rest. cond (first.id == on) (own_columns first.kind) rest) (columns_grow items item on less)

-- what is not there has none
columns_absent : (items : List Item) (on : ℕ) → Each (λ item. on < item.id) items → relation_columns items on ≡ []
columns_absent [] on less = refl
columns_absent (first ∷ items) on less =
    ap (λ c. cond c (own_columns first.kind) (relation_columns items on)) (ne_eqb first.id on (λ e. omega (arith, e, less.0)))
    ∙ columns_absent items on less.1

-- an index has none of its own
own_none : (kind : ItemKind) → is_index kind ≡ true → own_columns kind ≡ []
own_none (Table columns) h = absurd cc
own_none (View columns query) h = absurd cc
own_none (Index on plan) h = refl

-- without what isn't this item
columns_spared : (keep : Item → Bool) (items : List Item) → Ascend items → (on : ℕ) → Each (IsSpared keep on) items
    → relation_columns (filter keep items) on ≡ relation_columns items on
columns_spared keep [] up on spared = refl
columns_spared keep (item ∷ items) up on spared =
    by (keep item) refl (item.id == on) refl
    (columns_spared keep items (pairs_tail (λ earlier later. earlier.id < later.id) item items up) on spared.1)
  where
    later : Each (λ other. item.id < other.id) items
    later = recursion_from_All (λ other. item.id < other.id) items (λ k d within. up 0 (suc k) d (omega arith) (omega arith))

    by : (c : Bool) → keep item ≡ c → (d : Bool) → (item.id == on) ≡ d
        → relation_columns (filter keep items) on ≡ relation_columns items on
        → relation_columns (cond c (item ∷ filter keep items) (filter keep items)) on
        ≡ cond d (own_columns item.kind) (relation_columns items on)
    by true kept d same rest =
        ap (λ c. cond c (own_columns item.kind) (relation_columns (filter keep items) on)) same ∙ ap (cond d (own_columns item.kind)) rest
    by false gone true same rest =
        rest ∙ (columns_absent items on (subst (λ n. Each (λ other. n < other.id) items) (eqb-true item.id on same) later)
        ∙ sym (own_none item.kind (spared.0 (eqb-true item.id on same) gone)))
    by false gone false same rest = rest

-- ---- indexes

-- an index goes on to have its types
fits_stay : (tables : LeafTypes) (plans more : Made) (one other : Scope) (number : ℕ)
    → index_types tables more number ≡ index_types tables plans number → (kind : ItemKind)
    → ((on : ℕ) → IsTrue (is_on on kind) → on < number → relation_columns other.items on ≡ relation_columns one.items on)
    → IndexFits tables plans one number kind → IndexFits tables more other number kind
fits_stay tables plans more one other number types (Table columns) stay h = tt
fits_stay tables plans more one other number types (View columns query) stay h = tt
fits_stay tables plans more one other number types (Index on plan) stay h =
    record { older = h.older; types = types ∙ (h.types ∙ ap types_of (sym (stay on (eq-eqb on on refl) h.older))) }

-- what is older than what was made has its types
made_types : (tables : LeafTypes) (number : ℕ) (kind : ItemKind) (plans : Made) (older : ℕ) → older < number
    → index_types tables (made_with number kind plans) older ≡ index_types tables plans older
made_types tables number (Table columns) plans older less = refl
made_types tables number (View columns query) plans older less = refl
made_types tables number (Index on plan) plans older less =
    ap (λ c. cond c (types_over tables (index_types tables plans) plan) (index_types tables plans older))
    (ne_eqb number older (λ e. omega (arith, e, less)))

-- ---- an item more

-- a new index is on an older item, and its plan is well formed and has that one's types
record IsNewIndex (tables : LeafTypes) (plans : Made) (scope : Scope) (number on : ℕ) (plan : Plan) : Type 0 where
  older : on < number
  formed : IsFormedOver tables (index_types tables plans) plan
  types : types_over tables (index_types tables plans) plan ≡ types_of (relation_columns scope.items on)

-- a new item has its types
abbrev NewFits : LeafTypes → Made → Scope → ℕ → ItemKind → Type 0
NewFits tables plans scope number (Table columns) = tables number ≡ types_of columns
NewFits tables plans scope number (View columns query) = ⊤
NewFits tables plans scope number (Index on plan) = IsNewIndex tables plans scope number on plan

-- as a table
new_table : (tables : LeafTypes) (plans : Made) (scope : Scope) (number : ℕ) (kind : ItemKind) → NewFits tables plans scope number kind
    → TableFits tables number kind
new_table tables plans scope number (Table columns) h = h
new_table tables plans scope number (View columns query) h = tt
new_table tables plans scope number (Index on plan) h = tt

-- as an index
new_index : (tables : LeafTypes) (plans : Made) (scope : Scope) (item : Item) (kind : ItemKind)
    → NewFits tables plans scope item.id kind
    → IndexFits tables (made_with item.id kind plans) (with_item scope item) item.id kind
new_index tables plans scope item (Table columns) h = tt
new_index tables plans scope item (View columns query) h = tt
new_index tables plans scope item (Index on plan) h = record {
  older = h.older;
  types = ap (λ c. cond c (types_over tables (index_types tables plans) plan) (index_types tables plans item.id))
      (eq-eqb item.id item.id refl)
      ∙ (h.types ∙ ap types_of (sym (columns_grow scope.items item on h.older)));
}

-- the plans that were made are well formed
new_formed : (tables : LeafTypes) (plans : Made) (scope : Scope) (number : ℕ) (kind : ItemKind) → NewFits tables plans scope number kind
    → AreFormedOver tables plans → AreFormedOver tables (made_with number kind plans)
new_formed tables plans scope number (Table columns) h k = k
new_formed tables plans scope number (View columns query) h k = k
new_formed tables plans scope number (Index on plan) h k = (h.formed, k)

-- a scope with a new item
typed_with : (tables : LeafTypes) (plans : Made) (scope : Scope) → IsTypedOver tables plans scope → (item : Item) → IsNewIn scope item
    → NewFits tables plans scope item.id item.kind → IsTypedOver tables (made_with item.id item.kind plans) (with_item scope item)
typed_with tables plans scope typed item new fits = record {
  columns = each_append (λ other. TableFits tables other.id other.kind) scope.items (item ∷ []) typed.columns
      (new_table tables plans scope item.id item.kind fits, tt);
  indexes = each_append Fits scope.items (item ∷ [])
      (each_from (λ older. older.id < item.id) (λ older. IndexFits tables plans scope older.id older.kind) Fits
      (λ older less h. fits_stay tables plans (made_with item.id item.kind plans) scope (with_item scope item) older.id
      (made_types tables item.id item.kind plans older.id less) older.kind
      (λ on is before. columns_grow scope.items item on (omega (arith, before, less))) h)
      scope.items (recursion_from_All (λ older. older.id < item.id) scope.items new) typed.indexes)
      (new_index tables plans scope item item.kind fits, tt);
  formed = new_formed tables plans scope item.id item.kind fits typed.formed;
}
  where
    Fits : Item → Type 0
    Fits = λ other. IndexFits tables (made_with item.id item.kind plans) (with_item scope item) other.id other.kind

-- what a CREATE makes has its types
abbrev MakesTyped : LeafTypes → Made → Scope → ℕ → Resolved → Type 0
MakesTyped tables plans scope number (resolved.CreateTable name columns) = NewFits tables plans scope number (Table columns)
MakesTyped tables plans scope number (resolved.CreateIndex name on plan cluster) = NewFits tables plans scope number (Index on plan)
MakesTyped tables plans scope number other = ⊤

-- and so has the item
item_fits : (tables : LeafTypes) (plans : Made) (scope : Scope) (item : Item) (done : Resolved)
    → MakesTyped tables plans scope item.id done → IsMadeBy done item → NewFits tables plans scope item.id item.kind
item_fits tables plans scope item (resolved.CreateTable name columns) h e = subst (NewFits tables plans scope item.id) (sym e) h
item_fits tables plans scope item (resolved.CreateView name columns query) h e = subst (NewFits tables plans scope item.id) (sym e) tt
item_fits tables plans scope item (resolved.CreateIndex name on plan cluster) h e = subst (NewFits tables plans scope item.id) (sym e) h
item_fits tables plans scope item other h e = elim e [ ]

-- a CREATE TABLE
pub table_typed : (tables : LeafTypes) (plans : Made) (scope : Scope) → IsTypedOver tables plans scope → (item : Item)
    → IsNewIn scope item → (name : List ℕ) (columns : List Column) → tables item.id ≡ types_of columns
    → IfOk (resolution scope (statement.CreateTable name columns))
    (λ done. IsMadeBy done item → IsTypedOver tables (made_with item.id item.kind plans) (with_item scope item))
table_typed tables plans scope typed item new name columns own =
    weaker_ok (resolution scope (statement.CreateTable name columns)) (MakesTyped tables plans scope item.id) _
    (guard_ok _ _ _ (MakesTyped tables plans scope item.id) (λ _. own))
    (λ done h e. typed_with tables plans scope typed item new (item_fits tables plans scope item done h e))

-- a CREATE VIEW
pub view_typed : (tables : LeafTypes) (plans : Made) (scope : Scope) → IsTypedOver tables plans scope → (item : Item)
    → IsNewIn scope item → (name : List ℕ) (query : List Select) → IfOk (resolution scope (statement.CreateView name query))
    (λ done. IsMadeBy done item → IsTypedOver tables (made_with item.id item.kind plans) (with_item scope item))
view_typed tables plans scope typed item new name query =
    weaker_ok (resolution scope (statement.CreateView name query)) (MakesTyped tables plans scope item.id) _
    (any_then_ok (query_in scope query) _ (MakesTyped tables plans scope item.id) (λ relation given. tt))
    (λ done h e. typed_with tables plans scope typed item new (item_fits tables plans scope item done h e))

-- what a CREATE INDEX makes
makes_index : (tables : LeafTypes) (plans : Made) (scope : Scope) (number : ℕ) (done : Resolved)
    → IndexesOver tables (index_types tables plans) scope done × NamesBelow number done → MakesTyped tables plans scope number done
makes_index tables plans scope number (resolved.CreateIndex name on plan cluster) h =
    record { older = h.1.0; formed = h.0.0; types = h.0.1 }
makes_index tables plans scope number other h = elim (h.0) [ ]

-- a CREATE INDEX
pub index_typed : (tables : LeafTypes) (plans : Made) (scope : Scope) → IsSound scope → IsTypedOver tables plans scope → (item : Item)
    → IsNewIn scope item → (name on : List ℕ) → IfOk (resolution scope (statement.CreateIndex name on))
    (λ done. IsMadeBy done item → IsTypedOver tables (made_with item.id item.kind plans) (with_item scope item))
index_typed tables plans scope sound typed item new name on =
    weaker_ok (resolution scope (statement.CreateIndex name on)) _ _
    (both_ok (resolution scope (statement.CreateIndex name on)) (IndexesOver tables (index_types tables plans) scope) (NamesBelow item.id)
    (indexes_over tables plans scope sound typed name on) (indexes_below scope item.id new name on))
    (λ done h e. typed_with tables plans scope typed item new (item_fits tables plans scope item done
    (makes_index tables plans scope item.id done h) e))

-- ---- the same items, none, or fewer

-- in each cluster
pub typed_in_cluster : (tables : LeafTypes) (plans : Made) (scope : Scope) (cluster : ℕ) → IsTypedOver tables plans scope
    → IsTypedOver tables plans (in_cluster cluster scope)
typed_in_cluster tables plans scope cluster typed = record {
  columns = typed.columns;
  indexes = each_from (λ item. IndexFits tables plans scope item.id item.kind) (Contains scope.items)
      (λ item. IndexFits tables plans (in_cluster cluster scope) item.id item.kind)
      (λ item h there. fits_stay tables plans plans scope (in_cluster cluster scope) item.id refl item.kind (λ on is before. refl) h)
      scope.items typed.indexes (all_there scope);
  formed = typed.formed;
}

-- no items
pub typed_empty : (tables : LeafTypes) (cluster : ℕ) → IsTypedOver tables [] (record { items = []; cluster = cluster })
typed_empty tables cluster = record { columns = tt; indexes = tt; formed = tt }

-- a DROP of what none depends on
pub drop_typed : (tables : LeafTypes) (plans : Made) (scope : Scope) → Ascend scope.items → IsTypedOver tables plans scope
    → (number : ℕ) → dependents number scope.items ≡ [] → IsTypedOver tables plans (without_item number scope)
drop_typed tables plans scope up typed number none = record {
  columns = each_filter (λ item. TableFits tables item.id item.kind) keep scope.items typed.columns;
  indexes = each_filter (λ item. IndexFits tables plans (without_item number scope) item.id item.kind) keep scope.items
      (each_from (λ item. IndexFits tables plans scope item.id item.kind) (Contains scope.items)
      (λ item. IndexFits tables plans (without_item number scope) item.id item.kind)
      (λ item h there. fits_stay tables plans plans scope (without_item number scope) item.id refl item.kind
      (λ on is before. columns_spared keep scope.items up on
      (on_spared scope up number none item there on is scope.items (all_there scope))) h)
      scope.items typed.indexes (all_there scope));
  formed = typed.formed;
}
  where
    keep : Item → Bool
    keep = λ item. not (item.id == number)

-- ---- numbers that nothing has

-- the leaves of a plan below a number have the same types, where those of its indexes are the same
leaves_same : (one other i j : LeafTypes) (limit number : ℕ) → number < limit
    → ((n : ℕ) → n < limit → one n ≡ other n) → ((n : ℕ) → i n ≡ j n) → (plan : Plan) → AllBelow number plan
    → AllLeaves (λ n. one n ≡ other n) (λ n. i n ≡ j n) plan
leaves_same one other i j limit number less same indexes plan h =
    leaves_weaker _ _ _ _ (λ n before. same n (omega (arith, before, less))) (λ n before. indexes n) plan h

-- so have the indexes
indexes_same : (one other : LeafTypes) (limit : ℕ) → ((n : ℕ) → n < limit → one n ≡ other n) → (plans : Made)
    → Each (λ index. index.0 < limit) plans → AreNewestFirst plans
    → (item : ℕ) → index_types one plans item ≡ index_types other plans item
indexes_same one other limit same [] less order item = refl
indexes_same one other limit same (newest ∷ older) less order item =
    let behind : (n : ℕ) → index_types one older n ≡ index_types other older n =
    λ n. indexes_same one other limit same older less.1 order.2 n in
    let here : types_over one (index_types one older) newest.1 ≡ types_over other (index_types other older) newest.1 =
    types_same one (index_types one older) other (index_types other older) newest.1
    (leaves_same one other (index_types one older) (index_types other older) limit newest.0 less.0 same behind newest.1 order.0) in
    λ k. cond (newest.0 == item) (here k) (behind item k)

-- and their plans are well formed
plans_same : (one other : LeafTypes) (limit : ℕ) → ((n : ℕ) → n < limit → one n ≡ other n) → (plans : Made)
    → Each (λ index. index.0 < limit) plans → AreNewestFirst plans
    → AreFormedOver one plans → AreFormedOver other plans
plans_same one other limit same [] less order h = tt
plans_same one other limit same (newest ∷ older) less order h = (
  form_same one (index_types one older) other (index_types other older) newest.1
      (leaves_same one other (index_types one older) (index_types other older) limit newest.0 less.0 same
      (indexes_same one other limit same older less.1 order.2) newest.1 order.0) h.0,
  plans_same one other limit same older less.1 order.2 h.1,
)

-- a table has its types
table_same : (one other : LeafTypes) (number : ℕ) → one number ≡ other number → (kind : ItemKind) → TableFits one number kind
    → TableFits other number kind
table_same one other number same (Table columns) h = sym same ∙ h
table_same one other number same (View columns query) h = tt
table_same one other number same (Index on plan) h = tt

-- and an index
index_same : (one other : LeafTypes) (plans : Made) (scope : Scope) (number : ℕ)
    → index_types one plans number ≡ index_types other plans number → (kind : ItemKind) → IndexFits one plans scope number kind
    → IndexFits other plans scope number kind
index_same one other plans scope number same (Table columns) h = tt
index_same one other plans scope number same (View columns query) h = tt
index_same one other plans scope number same (Index on plan) h = record { older = h.older; types = sym same ∙ h.types }

-- where the types of the numbers below a limit are the same
pub typed_unused : (tables others : LeafTypes) (plans : Made) (scope : Scope) → AreNewestFirst plans
    → IsTypedOver tables plans scope → (limit : ℕ) → All (λ item. item.id < limit) scope.items → IsNewAmong plans limit
    → ((number : ℕ) → number < limit → tables number ≡ others number) → IsTypedOver others plans scope
typed_unused tables others plans scope order typed limit items made same = record {
  columns = each_from (λ item. item.id < limit) (λ item. TableFits tables item.id item.kind) (λ item. TableFits others item.id item.kind)
      (λ item before h. table_same tables others item.id (same item.id before) item.kind h)
      scope.items (recursion_from_All (λ item. item.id < limit) scope.items items) typed.columns;
  indexes = each_from (λ item. item.id < limit) (λ item. IndexFits tables plans scope item.id item.kind)
      (λ item. IndexFits others plans scope item.id item.kind)
      (λ item before h. index_same tables others plans scope item.id
      (indexes_same tables others limit same plans less order item.id) item.kind h)
      scope.items (recursion_from_All (λ item. item.id < limit) scope.items items) typed.indexes;
  formed = plans_same tables others limit same plans less order typed.formed;
}
  where
    less : Each (λ index. index.0 < limit) plans
    less = recursion_from_All (λ index. index.0 < limit) plans made
