-- What a name stands for reads nothing but what it depends on.
use Rattle.std.proofs.Common.{◌≡◌, ◌==◌, ℕ, Bool, true, false, ◌&&◌, List, [], ◌∷◌, Option, None, Some, bytes_eq, refl, sym, subst, ◌∙◌, true≢false}
use Rattle.std.proofs.lemmas.Bool.{eqb-true}
use Rattle.std.proofs.lemmas.List.Elements.{All-contains, All-from_recursion}
use Rattle.std.proofs.lemmas.Slice.Eq.{bytes_eq-Decides}
use Rattle.std.specs.Prelude.{Contains, IfOk, IsTrue, find}
use Rattle.std.specs.List.{AllByRecursion as Each}
use Rattle.std.specs.Option.{option_map}
use Rattle.mz_statement.specs.declared.column.Column.{Column}
use Rattle.mz_statement.specs.declared.statement.Statement.{Statement}
use Rattle.mz_plan.specs.Items.{depends, is_index, is_on, names, oldest_index, query_of}
use Rattle.mz_plan.specs.declared.item.Item.{Item}
use Rattle.mz_plan.specs.declared.item.ItemKind.{ItemKind}
use Rattle.mz_plan.specs.declared.item.ItemKind.TheVariants.{Table, View, Index}
use Rattle.mz_plan.specs.declared.plan.Plan.{Plan}
use Rattle.mz_plan.specs.declared.plan.Plan.TheVariants as node
use Rattle.mz_plan.specs.declared.scope.Scope.{Scope}
use Rattle.mz_resolution.specs.Queries.{queried}
use Rattle.mz_resolution.specs.Resolution.{item_relation, leaf_or, without_number}
use Rattle.mz_resolution.specs.Resolution as resolving
use Rattle.mz_resolution.specs.declared.relation.NamedRelation.{NamedRelation}
use Rattle.mz_resolve_laws.proofs.ScopeLeaves.{IsNamed, all_there, found_passes, named_fits}
use Rattle.mz_resolve_laws.proofs.StepTools.{any_then_ok, both_ok, choice_ok, then_ok, weaker_ok}
use Rattle.mz_resolve_laws.specs.OfScope.{HasItem, is_called, is_readable}
use Rattle.mz_resolve_laws.specs.Sound.{names_among}
use Rattle.mz_state_laws.specs.Reads.{AllReadOwn, IndexReadsOnly, IsClosed, Passes, ReadsOnly, ReadsOwn}
use Rattle.mz_state_laws.proofs.ReadNames.{named_fits_alone}

-- ---- the index that is read

-- an index on a number that passes reads only what passes
on_reads : (plans : List (ℕ × Plan)) (items : List Item) (test : ℕ → Bool) → IsClosed test items → (of number : ℕ) (kind : ItemKind) (here : Bool)
    → IsTrue (here && is_on of kind) → ReadsOwn plans items number kind → Passes test of → IndexReadsOnly (Passes test) plans number
on_reads plans items test closed of number (Table columns) true is own passes = absurd cc
on_reads plans items test closed of number (View columns query) true is own passes = absurd cc
on_reads plans items test closed of number (Index on plan) true is own passes =
    own.within test closed (subst (Passes test) (sym (eqb-true on of is)) passes)
on_reads plans items test closed of number kind false is own passes = absurd cc

-- so what stands for an item that passes does, where the plan below does
leaf_reads : (plans : List (ℕ × Plan)) (scope : Scope) → AllReadOwn plans scope.items → (test : ℕ → Bool) → IsClosed test scope.items → (number : ℕ)
    (below : Plan) → Passes test number → ReadsOnly (Passes test) plans below
    → ReadsOnly (Passes test) plans (leaf_or (oldest_index scope.items scope.cluster number) below)
leaf_reads plans scope own test closed number below passes h =
    by (find (λ other. other.cluster == scope.cluster && is_on number other.kind) scope.items) refl
  where
    by : (found : Option Item) → find (λ other. other.cluster == scope.cluster && is_on number other.kind) scope.items ≡ found
        → ReadsOnly (Passes test) plans (leaf_or (option_map (λ other. other.id) found) below)
    by None same = h
    by (Some other) same =
        let there = found_passes scope.items (λ other. other.cluster == scope.cluster && is_on number other.kind) scope.items
        (all_there scope) other same in
        on_reads plans scope.items test closed number other.id other.kind (other.cluster == scope.cluster) there.1
        (All-contains (λ item. ReadsOwn plans scope.items item.id item.kind) scope.items other
        (All-from_recursion (λ item. ReadsOwn plans scope.items item.id item.kind) scope.items own) there.0) passes

-- ---- names

-- a relation of a number that passes reads only what passes
abbrev pub ReadsIf : List (ℕ × Plan) → (ℕ → Bool) → NamedRelation → Type 0
ReadsIf plans test found = Passes test found.item → ReadsOnly (Passes test) plans found.relation.plan

-- what may be read is no index
pub readable_not : (kind : ItemKind) (b : Bool) → IsTrue (is_readable kind && b) → is_index kind ≡ false
readable_not (Table columns) b h = refl
readable_not (View columns query) b h = refl
readable_not (Index on plan) b h = absurd cc

-- what is called so has the name
called_so : (a : Bool) (name other : List ℕ) → IsTrue (a && bytes_eq name other) → name ≡ other
called_so true name other h = (bytes_eq-Decides name other).0 h
called_so false name other h = absurd cc

-- a name in a view's query stands for what passes where the view does
word_passes : (scope : Scope) (test : ℕ → Bool) → IsClosed test scope.items → (item : Item) → Contains scope.items item → (columns : List Column)
    (says : Statement) → item.kind ≡ View columns says → Passes test item.id → (word : List ℕ) → names (query_of says) word ≡ true → (number : ℕ)
    → HasItem scope (is_called is_readable word) number → Passes test number
word_passes scope test closed item there columns says is passes word named number has =
    subst (Passes test) has.numbered
    (closed.closed item has.item there has.there (readable_not has.item.kind (bytes_eq word has.item.name) has.passes)
    (subst (λ kind. depends kind has.item ≡ true) (sym is)
    (subst (λ name. names (query_of says) name ≡ true) (called_so (is_readable has.item.kind) word has.item.name has.passes) named)) passes)

-- what names stand for among some items, if they pass
abbrev WordsRead : List (ℕ × Plan) → Scope → (ℕ → Bool) → List Item → Type 0
WordsRead plans scope test older =
    (word : List ℕ) → IfOk (resolving.named scope older word) (λ found. ReadsIf plans test found × IsNamed scope word found)

-- a view
view_reads : (plans : List (ℕ × Plan)) (scope : Scope) → AllReadOwn plans scope.items → (test : ℕ → Bool) → IsClosed test scope.items
    → (older : List Item) → WordsRead plans scope test older → (item : Item) → Contains scope.items item → (columns : List Column)
    (says : Statement) → item.kind ≡ View columns says
    → IfOk (item_relation scope (names_among scope older) item (View columns says)) (ReadsIf plans test)
view_reads plans scope own test closed older words item there columns says is = by (test item.id) refl
  where
    by : (c : Bool) → test item.id ≡ c → IfOk (item_relation scope (names_among scope older) item (View columns says)) (ReadsIf plans test)
    by true passes =
        then_ok (queried (names_among scope older) (query_of says)) _ (λ relation. ReadsOnly (Passes test) plans relation.plan) (ReadsIf plans test)
        (named_fits_alone (Passes test) (IndexReadsOnly (Passes test) plans) (names_among scope older) (query_of says) (λ word named.
        then_ok (resolving.named scope older word) _ (λ found. ReadsIf plans test found × IsNamed scope word found)
        (λ relation. ReadsOnly (Passes test) plans relation.plan) (words word)
        (λ found h. h.0 (word_passes scope test closed item there columns says is passes word named found.item h.1.item))))
        (λ below h k. leaf_reads plans scope own test closed item.id below.plan k h)
    by false fails =
        any_then_ok (queried (names_among scope older) (query_of says)) _ (ReadsIf plans test)
        (λ below found passes. absurd (true≢false (sym passes ∙ fails)))

-- what an item stands for
item_reads : (plans : List (ℕ × Plan)) (scope : Scope) → AllReadOwn plans scope.items → (test : ℕ → Bool) → IsClosed test scope.items
    → (older : List Item) → WordsRead plans scope test older → (item : Item) → Contains scope.items item → (kind : ItemKind) → item.kind ≡ kind
    → IfOk (item_relation scope (names_among scope older) item kind) (ReadsIf plans test)
item_reads plans scope own test closed older words item there (Table columns) is =
    λ passes. leaf_reads plans scope own test closed item.id (node.Table item.id) passes passes
item_reads plans scope own test closed older words item there (View columns says) is =
    view_reads plans scope own test closed older words item there columns says is
item_reads plans scope own test closed older words item there (Index on below) is = tt

-- what a name stands for
pub named_reads : (plans : List (ℕ × Plan)) (scope : Scope) → AllReadOwn plans scope.items → (test : ℕ → Bool) → IsClosed test scope.items
    → (items : List Item) → Each (Contains scope.items) items → WordsRead plans scope test items
named_reads plans scope own test closed [] there name = tt
named_reads plans scope own test closed (item ∷ older) there name =
    both_ok (resolving.named scope (item ∷ older) name) (ReadsIf plans test) (IsNamed scope name)
    (choice_ok (bytes_eq name item.name) _ _ (ReadsIf plans test)
    (λ called. item_reads plans scope own test closed older (named_reads plans scope own test closed older there.1) item there.0 item.kind refl)
    (λ other. weaker_ok (resolving.named scope older name) (λ found. ReadsIf plans test found × IsNamed scope name found) (ReadsIf plans test)
    (named_reads plans scope own test closed older there.1 name) (λ found h. h.0)))
    (named_fits scope (item ∷ older) there name)
