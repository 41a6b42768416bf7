-- A scope that is sound over the plans of all indexes ever made stays so.
use Rattle.std.proofs.Common.{◌≡◌, ◌<◌, ◌≤◌, ◌==◌, refl, sym, subst, ap, ℕ, IsTrue, cond, not, List, [], ◌∷◌, arith}
use Rattle.std.specs.Prelude.{Contains, IfOk, ⊤}
use Rattle.std.proofs.lemmas.Bool.{eq-eqb, ne_eqb}
use Rattle.std.proofs.lemmas.List.Elements.{Contains-append_right, recursion_from_All}
use Rattle.mz_statement.specs.declared.column.Column.{Column}
use Rattle.mz_statement.specs.declared.query.Select.{Select}
use Rattle.mz_statement.specs.declared.statement.Statement.{Statement}
use Rattle.mz_statement.specs.declared.statement.Statement.TheVariants as statement
use Rattle.mz_plan.specs.Leaves.{AllBelow}
use Rattle.mz_plan.specs.Small.{index_reads, tables_read}
use Rattle.mz_plan.specs.declared.item.Item.{Item}
use Rattle.mz_plan.specs.declared.item.ItemKind.{ItemKind}
use Rattle.mz_plan.specs.declared.item.ItemKind.TheVariants.{Table, View, Index}
use Rattle.mz_plan.specs.declared.plan.Plan.{Plan}
use Rattle.mz_plan.specs.declared.resolved.Resolved.{Resolved}
use Rattle.mz_plan.specs.declared.resolved.Resolved.TheVariants as resolved
use Rattle.mz_plan.specs.declared.scope.Scope.{Scope}
use Rattle.mz_plan.specs.Items.{dependents, is_on}
use Rattle.mz_resolution.specs.Resolution.{named, newest_first, query_in, resolution}
use Rattle.mz_resolve_laws.specs.Growth.{IsMadeBy, IsNewIn, in_cluster, with_item, without_item}
use Rattle.mz_plan.specs.Indexes.{AreNewestFirst}
use Rattle.mz_resolve_laws.specs.OfScope.{NamesBelow}
use Rattle.mz_resolve_laws.specs.Sound.{IsSound}
use Rattle.mz_resolve_laws.specs.SoundOver.{IsMade, IsNewAmong, IsSoundOver, Made, made_with, tables_of_item}
use Rattle.mz_resolve_laws.proofs.DropLaws.{drop_keeps}
use Rattle.mz_resolve_laws.proofs.NameTables.{IsNamedNarrow, name_few}
use Rattle.mz_resolve_laws.proofs.ScopeLeaves.{all_there}
use Rattle.mz_resolve_laws.proofs.ScopeStatements.{indexes_below}
use Rattle.mz_resolve_laws.proofs.SoundLaws.{index_keeps, sound_empty, sound_in_cluster, table_keeps, view_keeps}
use Rattle.mz_resolve_laws.proofs.StepTools.{any_then_ok, both_ok, guard_ok, then_ok, weaker_ok}
use Rattle.mz_resolve_laws.proofs.TablesStay.{tables_grow, tables_spared, tables_stay_all}
use Rattle.mz_resolve_laws.proofs.TypePlaces.{each_append, each_filter, each_from}

-- ---- indexes

-- an index goes on to be among those made
made_stays : (plans more : Made) (one other : Scope) (number : ℕ) → ((made : ℕ × Plan) → Contains plans made → Contains more made)
    → index_reads more number ≡ index_reads plans number → (kind : ItemKind)
    → ((on : ℕ) → IsTrue (is_on on kind)
    → tables_of_item one (newest_first one) on ≤ tables_of_item other (newest_first other) on)
    → IsMade plans one number kind → IsMade more other number kind
made_stays plans more one other number there reads (Table columns) stay h = tt
made_stays plans more one other number there reads (View columns query) stay h = tt
made_stays plans more one other number there reads (Index on plan) stay h = record {
  made = there (number, plan) h.made;
  few = let named : tables_of_item one (newest_first one) on ≤ tables_of_item other (newest_first other) on =
      stay on (eq-eqb on on refl) in omega (arith, h.few, reads, named);
}

-- what was made stays there
made_there : (number : ℕ) (kind : ItemKind) (plans : Made) (made : ℕ × Plan) → Contains plans made
    → Contains (made_with number kind plans) made
made_there number (Table columns) plans made h = h
made_there number (View columns query) plans made h = h
made_there number (Index on plan) plans made h = Contains-append_right ((number, plan) ∷ []) plans made h

-- and reads the same
made_reads : (number : ℕ) (kind : ItemKind) (plans : Made) (older : ℕ) → older < number
    → index_reads (made_with number kind plans) older ≡ index_reads plans older
made_reads number (Table columns) plans older less = refl
made_reads number (View columns query) plans older less = refl
made_reads number (Index on plan) plans older less =
    ap (λ c. cond c (tables_read (index_reads plans) plan) (index_reads plans older)) (ne_eqb number older (λ e. omega (arith, e, less)))

-- ---- an item more

-- the plan of a new index names older items alone, and reads at most as many tables as what it is on names
abbrev NewMade : Made → Scope → ℕ → ItemKind → Type 0
NewMade plans scope number (Index on plan) =
    AllBelow number plan × (tables_read (index_reads plans) plan ≤ tables_of_item scope (newest_first scope) on)
NewMade plans scope number kind = ⊤

-- such an index is among those made
made_new : (plans : Made) (scope : Scope) (item : Item) → IsNewIn scope item → (kind : ItemKind) → NewMade plans scope item.id kind
    → IsMade (made_with item.id kind plans) (with_item scope item) item.id kind
made_new plans scope item new (Table columns) h = tt
made_new plans scope item new (View columns query) h = tt
made_new plans scope item new (Index on plan) h = record {
  made = (0, omega arith, refl);
  few =
      let own : index_reads ((item.id, plan) ∷ plans) item.id ≡ tables_read (index_reads plans) plan =
      ap (λ c. cond c (tables_read (index_reads plans) plan) (index_reads plans item.id)) (eq-eqb item.id item.id refl) in
      let grown = tables_grow scope item new on in
      omega (arith, own, grown, h.1);
}

-- the newest goes on to stand first
made_order : (plans : Made) (scope : Scope) (number : ℕ) (kind : ItemKind) → IsNewAmong plans number → NewMade plans scope number kind
    → AreNewestFirst plans → AreNewestFirst (made_with number kind plans)
made_order plans scope number (Table columns) new h k = k
made_order plans scope number (View columns query) new h k = k
made_order plans scope number (Index on plan) new h k = (h.0, recursion_from_All (λ older. older.0 < number) plans new, k)

-- what a CREATE makes is such an index, or none
abbrev Makes : Made → Scope → ℕ → Resolved → Type 0
Makes plans scope number (resolved.CreateIndex name on plan cluster) = NewMade plans scope number (Index on plan)
Makes plans scope number other = ⊤

-- and so is the item
item_made : (plans : Made) (scope : Scope) (item : Item) (done : Resolved) → Makes plans scope item.id done → IsMadeBy done item
    → NewMade plans scope item.id item.kind
item_made plans scope item (resolved.CreateTable name columns) h e = subst (NewMade plans scope item.id) (sym e) tt
item_made plans scope item (resolved.CreateView name columns query) h e = subst (NewMade plans scope item.id) (sym e) tt
item_made plans scope item (resolved.CreateIndex name on plan cluster) h e = subst (NewMade plans scope item.id) (sym e) h
item_made plans scope item other h e = elim e [ ]

-- a scope with the item that was made
over_with : (plans : Made) (scope : Scope) → IsSoundOver plans scope → (item : Item) → IsNewIn scope item → IsNewAmong plans item.id
    → IsSound (with_item scope item) → NewMade plans scope item.id item.kind
    → IsSoundOver (made_with item.id item.kind plans) (with_item scope item)
over_with plans scope sound item new among whole fits = record {
  sound = whole;
  order = made_order plans scope item.id item.kind among fits sound.order;
  indexes = each_append IsMadeNow scope.items (item ∷ [])
      (each_from (λ older. older.id < item.id) (λ older. IsMade plans scope older.id older.kind) IsMadeNow
      (λ older less made. made_stays plans (made_with item.id item.kind plans) scope (with_item scope item) older.id
      (made_there item.id item.kind plans) (made_reads item.id item.kind plans older.id less) older.kind
      (λ on is. tables_grow scope item new on) made)
      scope.items (recursion_from_All (λ older. older.id < item.id) scope.items new) sound.indexes)
      (made_new plans scope item new item.kind fits, tt);
}
  where
    IsMadeNow : Item → Type 0
    IsMadeNow = λ other. IsMade (made_with item.id item.kind plans) (with_item scope item) other.id other.kind

-- a CREATE, where the scope stays sound and a new index is as it has to be
creates_over : (plans : Made) (scope : Scope) → IsSoundOver plans scope → (item : Item) → IsNewIn scope item → IsNewAmong plans item.id
    → (says : Statement) → IfOk (resolution scope says) (λ done. IsMadeBy done item → IsSound (with_item scope item))
    → IfOk (resolution scope says) (Makes plans scope item.id)
    → IfOk (resolution scope says) (λ done. IsMadeBy done item
    → IsSoundOver (made_with item.id item.kind plans) (with_item scope item))
creates_over plans scope sound item new among says h k =
    weaker_ok (resolution scope says) _ _
    (both_ok (resolution scope says) (λ done. IsMadeBy done item → IsSound (with_item scope item)) (Makes plans scope item.id) h k)
    (λ done both e. over_with plans scope sound item new among (both.0 e) (item_made plans scope item done both.1 e))

-- a CREATE TABLE
pub table_over : (plans : Made) (scope : Scope) → IsSoundOver plans scope → (item : Item) → IsNewIn scope item → IsNewAmong plans item.id
    → (name : List ℕ) (columns : List Column) → IfOk (resolution scope (statement.CreateTable name columns))
    (λ done. IsMadeBy done item → IsSoundOver (made_with item.id item.kind plans) (with_item scope item))
table_over plans scope sound item new among name columns =
    creates_over plans scope sound item new among (statement.CreateTable name columns)
    (table_keeps scope sound.sound item new name columns) (guard_ok _ _ _ (Makes plans scope item.id) (λ _. tt))

-- a CREATE VIEW
pub view_over : (plans : Made) (scope : Scope) → IsSoundOver plans scope → (item : Item) → IsNewIn scope item → IsNewAmong plans item.id
    → (name : List ℕ) (query : List Select) → IfOk (resolution scope (statement.CreateView name query))
    (λ done. IsMadeBy done item → IsSoundOver (made_with item.id item.kind plans) (with_item scope item))
view_over plans scope sound item new among name query =
    creates_over plans scope sound item new among (statement.CreateView name query)
    (view_keeps scope sound.sound item new name query)
    (any_then_ok (query_in scope query) _ (Makes plans scope item.id) (λ relation given. tt))

-- the plan of a new index reads at most as many tables as what it is on names
abbrev NamesAsMany : Made → Scope → Resolved → Type 0
NamesAsMany plans scope (resolved.CreateIndex name on plan cluster) =
    tables_read (index_reads plans) plan ≤ tables_of_item scope (newest_first scope) on
NamesAsMany plans scope other = ⊥

-- with older leaves alone it is as it has to be
makes_index : (plans : Made) (scope : Scope) (number : ℕ) (done : Resolved) → NamesAsMany plans scope done × NamesBelow number done
    → Makes plans scope number done
makes_index plans scope number (resolved.CreateIndex name on plan cluster) h = (h.1.1, h.0)
makes_index plans scope number other h = elim (h.0) [ ]

-- a CREATE INDEX
pub index_over : (plans : Made) (scope : Scope) → IsSoundOver plans scope → (item : Item) → IsNewIn scope item → IsNewAmong plans item.id
    → (name on : List ℕ) → IfOk (resolution scope (statement.CreateIndex name on))
    (λ done. IsMadeBy done item → IsSoundOver (made_with item.id item.kind plans) (with_item scope item))
index_over plans scope sound item new among name on =
    creates_over plans scope sound item new among (statement.CreateIndex name on)
    (index_keeps scope sound.sound item new name on)
    (weaker_ok (resolution scope (statement.CreateIndex name on)) _ (Makes plans scope item.id)
    (both_ok (resolution scope (statement.CreateIndex name on)) (NamesAsMany plans scope) (NamesBelow item.id)
    (then_ok (named scope (newest_first scope) on) _ (IsNamedNarrow plans scope) (NamesAsMany plans scope)
    (name_few plans scope sound on) (λ found narrow. omega (arith, narrow.narrow.few, narrow.counted)))
    (indexes_below scope item.id new name on)) (makes_index plans scope item.id))

-- ---- the same items, none, or fewer

-- in each cluster
pub over_in_cluster : (plans : Made) (scope : Scope) (cluster : ℕ) → IsSoundOver plans scope → IsSoundOver plans (in_cluster cluster scope)
over_in_cluster plans scope cluster sound = record {
  sound = sound_in_cluster scope cluster sound.sound;
  order = sound.order;
  indexes = each_from (λ item. IsMade plans scope item.id item.kind) (Contains scope.items)
      (λ item. IsMade plans (in_cluster cluster scope) item.id item.kind)
      (λ item made there. made_stays plans plans scope (in_cluster cluster scope) item.id (λ one h. h) refl item.kind
      (λ on is. tables_stay_all scope (in_cluster cluster scope) (newest_first scope) on) made)
      scope.items sound.indexes (all_there scope);
}

-- no items
pub over_empty : (cluster : ℕ) → IsSoundOver [] (record { items = []; cluster = cluster })
over_empty cluster =
    record { sound = sound_empty cluster; order = tt; indexes = tt }

-- a DROP of what none depends on
pub drop_over : (plans : Made) (scope : Scope) → IsSoundOver plans scope → (number : ℕ) → dependents number scope.items ≡ []
    → IsSoundOver plans (without_item number scope)
drop_over plans scope sound number none = record {
  sound = drop_keeps scope sound.sound number none;
  order = sound.order;
  indexes = each_filter (λ item. IsMade plans (without_item number scope) item.id item.kind) (λ item. not (item.id == number)) scope.items
      (each_from (λ item. IsMade plans scope item.id item.kind) (Contains scope.items)
      (λ item. IsMade plans (without_item number scope) item.id item.kind)
      (λ item made there. made_stays plans plans scope (without_item number scope) item.id (λ one h. h) refl item.kind
      (tables_spared scope sound.sound.numbers number none item there) made)
      scope.items sound.indexes (all_there scope));
}
