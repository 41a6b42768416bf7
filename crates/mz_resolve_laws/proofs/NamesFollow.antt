-- What names stand for is related in scopes whose items differ in some that no name means.
use Rattle.std.proofs.Common.{◌≡◌, ◌∙◌, ◌+◌, refl, sym, subst, ap, ℕ, Bool, true, false, cond, List, [], ◌∷◌, Result, Ok, Err, bytes_eq, filter, inl, inr}
use Rattle.std.specs.Prelude.{IsOkAnd, ◌⊎◌, ⊤}
use Rattle.std.specs.List.{AllByRecursion as Each, AllZip}
use Rattle.mz_statement.specs.declared.column.Column.{Column}
use Rattle.mz_statement.specs.declared.query.Select.{Select}
use Rattle.mz_statement.specs.declared.reference.Join.{Join}
use Rattle.mz_plan.specs.declared.item.Item.{Item}
use Rattle.mz_plan.specs.declared.item.ItemKind.{ItemKind}
use Rattle.mz_plan.specs.declared.item.ItemKind.TheVariants.{Table, View, Index}
use Rattle.mz_plan.specs.declared.plan.Plan.TheVariants as plans
use Rattle.mz_refusal.specs.declared.refusal.Refusal.{Refusal}
use Rattle.mz_refusal.specs.declared.refusal.Refusal.TheVariants.{UnknownName, WrongType}
use Rattle.mz_plan.specs.declared.scope.Scope.{Scope}
use Rattle.mz_resolution.specs.declared.relation.NamedRelation.{NamedRelation}
use Rattle.mz_resolution.specs.declared.relation.Referred.{Referred}
use Rattle.mz_resolution.specs.declared.relation.Relation.{Relation}
use Rattle.mz_resolution.specs.Queries.{queried, tables_of}
use Rattle.mz_plan.specs.Items.{is_index, query_of}
use Rattle.mz_resolution.specs.Resolution.{item_relation, named, relation_of, without_number}
use Rattle.mz_resolve_laws.specs.Alike.{AreAlike, GivesAlike}
use Rattle.mz_resolve_laws.specs.Sound.{ViewFits, ViewsFit, names_among}
use Rattle.mz_plan.specs.Types.{types_of}
use Rattle.mz_resolve_laws.proofs.Follows.{AreCalledAlike, Follows, IsCarried, JoinsRead, Reads, follows_choice, follows_then, queried_follows, refuses_same}

-- ---- names

-- a relation of relations that items of two scopes carry on
pub record IsCarriedBy (R : Relation → Relation → Type 0) (one other : Scope) : Type 0 where
  pub queries : IsCarried R
  pub tables : (item : ℕ) (columns : List Column)
      → R (relation_of one item columns (plans.Table item) 1).relation (relation_of other item columns (plans.Table item) 1).relation
  pub views : (item : ℕ) (columns : List Column) (below more : Relation) → R below more
      → R (relation_of one item columns below.plan below.tables).relation (relation_of other item columns more.plan more.tables).relation

-- two are of one item, and their relations are related
pub record AreNamedBy (R : Relation → Relation → Type 0) (one other : NamedRelation) : Type 0 where
  pub item : one.item ≡ other.item
  pub relations : R one.relation other.relation

-- without their numbers
without_follows : (strict : Bool) (R : Relation → Relation → Type 0) (r s : Result NamedRelation Refusal)
    → Follows strict (AreNamedBy R) r s → Follows strict R (without_number r) (without_number s)
without_follows strict R r s h = follows_then strict r s _ _ (AreNamedBy R) R h (λ one other alike. alike.relations)

-- what an item reads
abbrev pub KindReads : (List ℕ → Type 0) → ItemKind → Type 0
KindReads P (Table columns) = ⊤
KindReads P (View columns query) = Reads P (query_of query)
KindReads P (Index on below) = ⊤

-- an item reads only names of which something holds, and is kept, or is an index, or none of those names means it
pub record Stays (strict : Bool) (P : List ℕ → Type 0) (keep : Item → Bool) (item : Item) : Type 0 where
  pub reads : KindReads P item.kind
  pub gone : keep item ≡ false → ((strict ≡ false) × (is_index item.kind ≡ true)) ⊎ ((word : List ℕ) → P word
      → bytes_eq word item.name ≡ false)

-- an item
pub item_follows : (strict : Bool) (R : Relation → Relation → Type 0) (one other : Scope) → IsCarriedBy R one other
    → (P : List ℕ → Type 0) (older fewer : List Item)
    → ((word : List ℕ) → P word → Follows strict (AreNamedBy R) (named one older word) (named other fewer word))
    → (item : Item) (kind : ItemKind) → KindReads P kind
    → Follows strict (AreNamedBy R) (item_relation one (names_among one older) item kind)
    (item_relation other (names_among other fewer) item kind)
item_follows strict R one other carried P older fewer h item (Table columns) reads =
    record { item = refl; relations = carried.tables item.id columns }
item_follows strict R one other carried P older fewer h item (View columns query) reads =
    follows_then strict (queried (names_among one older) (query_of query)) (queried (names_among other fewer) (query_of query)) _ _ R
    (AreNamedBy R)
    (queried_follows strict R carried.queries P (names_among one older) (names_among other fewer)
    (λ word k. without_follows strict R (named one older word) (named other fewer word) (h word k)) (query_of query) reads)
    (λ below more alike. record { item = refl; relations = carried.views item.id columns below more alike })
item_follows strict R one other carried P older fewer h item (Index on below) reads =
    refuses_same NamedRelation strict (WrongType item.name) (WrongType item.name) refl

-- a name of an index that is gone
index_gone : (one : Scope) (older : List Item) (item : Item) (kind : ItemKind) → is_index kind ≡ true
    → (R : Relation → Relation → Type 0) (s : Result NamedRelation Refusal)
    → Follows false (AreNamedBy R) (item_relation one (names_among one older) item kind) s
index_gone one older item (Table columns) e R s = absurd cc
index_gone one older item (View columns query) e R s = absurd cc
index_gone one older item (Index on below) e R s = tt

-- a name among items
pub named_follows : (strict : Bool) (R : Relation → Relation → Type 0) (one other : Scope) → IsCarriedBy R one other
    → (P : List ℕ → Type 0) (keep : Item → Bool) (items : List Item)
    → Each (Stays strict P keep) items → (word : List ℕ) → P word
    → Follows strict (AreNamedBy R) (named one items word) (named other (filter keep items) word)
named_follows strict R one other carried P keep [] stays word k =
    refuses_same NamedRelation strict (UnknownName word) (UnknownName word) refl
named_follows strict R one other carried P keep (item ∷ older) stays word k =
    by (keep item) refl (λ w p. named_follows strict R one other carried P keep older stays.1 w p)
  where
    Later : Type 0
    Later = (w : List ℕ) → P w → Follows strict (AreNamedBy R) (named one older w) (named other (filter keep older) w)

    gone : (b : Bool) → bytes_eq word item.name ≡ b → ((strict ≡ false) × (is_index item.kind ≡ true)) ⊎ ((w : List ℕ) → P w
        → bytes_eq w item.name ≡ false)
        → Follows strict (AreNamedBy R) (named one older word) (named other (filter keep older) word)
        → Follows strict (AreNamedBy R) (cond b (item_relation one (names_among one older) item item.kind) (named one older word))
        (named other (filter keep older) word)
    gone false e h later = later
    gone true e (inl h) later =
        subst (λ c. Follows c (AreNamedBy R) (item_relation one (names_among one older) item item.kind)
        (named other (filter keep older) word)) (sym h.0)
        (index_gone one older item item.kind h.1 R (named other (filter keep older) word))
    gone true e (inr h) later = absurd (true_false (sym e ∙ h word k))
      where
        true_false : true ≡ false → ⊥
        true_false x = cc

    by : (c : Bool) → keep item ≡ c → Later
        → Follows strict (AreNamedBy R) (named one (item ∷ older) word)
        (named other (cond c (item ∷ filter keep older) (filter keep older)) word)
    by true e later =
        follows_choice strict (bytes_eq word item.name) (bytes_eq word item.name) refl
        (item_relation one (names_among one older) item item.kind)
        (item_relation other (names_among other (filter keep older)) item item.kind)
        (named one older word) (named other (filter keep older) word) (AreNamedBy R)
        (item_follows strict R one other carried P older (filter keep older) later item item.kind stays.0.reads) (later word k)
    by false e later = gone (bytes_eq word item.name) refl (stays.0.gone e) (later word k)

-- a query over the names among items
pub query_follows : (strict : Bool) (R : Relation → Relation → Type 0) (one other : Scope) → IsCarriedBy R one other
    → (P : List ℕ → Type 0) (keep : Item → Bool) (items : List Item)
    → Each (Stays strict P keep) items → (query : List Select) → Reads P query
    → Follows strict R (queried (names_among one items) query) (queried (names_among other (filter keep items)) query)
query_follows strict R one other carried P keep items stays query reads =
    queried_follows strict R carried.queries P (names_among one items) (names_among other (filter keep items))
    (λ word k. without_follows strict R (named one items word) (named other (filter keep items) word)
    (named_follows strict R one other carried P keep items stays word k)) query reads

-- ---- relations that differ in their plans

-- how many tables are named
tables_alike : (ones others : List Referred) → AllZip (AreCalledAlike AreAlike) ones others → tables_of ones ≡ tables_of others
tables_alike [] [] h = refl
tables_alike [] (other ∷ others) h = elim h [ ]
tables_alike (one ∷ ones) [] h = elim h [ ]
tables_alike (one ∷ ones) (other ∷ others) h = λ i. h.0.relations.tables i + tables_alike ones others h.1 i

-- such relations are carried on by all scopes
pub alike_carried : (one other : Scope) → IsCarriedBy AreAlike one other
alike_carried one other = record {
  queries = record {
    columns = λ x y h. h.columns;
    tables = λ x y h. h.tables;
    selects = λ first second rest others h k select pairs cond keys found. record
        { columns = refl; tables = λ i. h.relations.tables i + tables_alike rest others k i };
    unions = λ whole second next more h k. record { columns = h.columns; tables = λ i. h.tables i + k.tables i };
  };
  tables = λ item columns. record { columns = refl; tables = refl };
  views = λ item columns below more h. record { columns = refl; tables = h.tables };
}

-- what is given with some types is given with them in what follows
follows_typed : (strict : Bool) (r s : Result Relation Refusal) (columns : List Column) → Follows strict AreAlike r s
    → IsOkAnd r (λ relation. types_of relation.columns ≡ types_of columns)
    → IsOkAnd s (λ relation. types_of relation.columns ≡ types_of columns)
follows_typed strict (Ok one) (Ok other) columns alike h = ap types_of (sym alike.columns) ∙ h
follows_typed strict (Ok one) (Err refusal) columns alike h = elim alike [ ]
follows_typed strict (Err refusal) s columns alike h = elim h [ ]

-- a view goes on to fit
view_stays : (strict : Bool) (one other : Scope) (P : List ℕ → Type 0) (keep : Item → Bool) (older : List Item)
    → Each (Stays strict P keep) older
    → (kind : ItemKind) → KindReads P kind → ViewFits one older kind → ViewFits other (filter keep older) kind
view_stays strict one other P keep older stays (Table columns) reads h = tt
view_stays strict one other P keep older stays (View columns query) reads h =
    follows_typed strict (queried (names_among one older) (query_of query))
    (queried (names_among other (filter keep older)) (query_of query)) columns
    (query_follows strict AreAlike one other (alike_carried one other) P keep older stays (query_of query) reads) h
view_stays strict one other P keep older stays (Index on below) reads h = tt

-- and so do all that are kept
pub views_stay : (strict : Bool) (one other : Scope) (P : List ℕ → Type 0) (keep : Item → Bool) (items : List Item)
    → Each (Stays strict P keep) items → ViewsFit one items → ViewsFit other (filter keep items)
views_stay strict one other P keep [] stays h = tt
views_stay strict one other P keep (item ∷ older) stays h = by (keep item) (views_stay strict one other P keep older stays.1 h.1)
  where
    by : (c : Bool) → ViewsFit other (filter keep older) → ViewsFit other (cond c (item ∷ filter keep older) (filter keep older))
    by true later = (view_stays strict one other P keep older stays.1 item.kind stays.0.reads h.0, later)
    by false later = later

-- ---- the same items

-- each name will do
joins_read : (joins : List Join) → JoinsRead (λ word. ⊤) joins
joins_read [] = tt
joins_read (join ∷ joins) = (tt, joins_read joins)

-- in each query
pub reads_all : (selects : List Select) → Reads (λ word. ⊤) selects
reads_all [] = tt
reads_all (select ∷ selects) = ((tt, joins_read select.joins), reads_all selects)

-- of each kind
pub kind_reads_all : (kind : ItemKind) → KindReads (λ word. ⊤) kind
kind_reads_all (Table columns) = tt
kind_reads_all (View columns query) = reads_all (query_of query)
kind_reads_all (Index on below) = tt

-- where all are kept
pub all_stay : (items : List Item) → Each (Stays true (λ word. ⊤) (λ item. true)) items
all_stay [] = tt
all_stay (item ∷ items) = (record { reads = kind_reads_all item.kind; gone = λ e. absurd cc }, all_stay items)

-- those that are kept are all
pub filter_all : (items : List Item) → filter (λ item. true) items ≡ items
filter_all [] = refl
filter_all (item ∷ items) = ap (λ others. item ∷ others) (filter_all items)

-- views fit in each scope with the same older items
pub views_stay_all : (one other : Scope) (items : List Item) → ViewsFit one items → ViewsFit other items
views_stay_all one other items h =
    subst (ViewsFit other) (filter_all items) (views_stay true one other (λ word. ⊤) (λ item. true) items (all_stay items) h)

-- what follows strictly is alike
gives_alike : (r s : Result Relation Refusal) → Follows true AreAlike r s → GivesAlike AreAlike r s
gives_alike (Ok one) (Ok other) h = h
gives_alike (Ok one) (Err refusal) h = elim h [ ]
gives_alike (Err refusal) (Ok other) h = elim h [ ]
gives_alike (Err refusal) (Err other) h = h

-- a query over the same items
pub query_alike : (one other : Scope) (items : List Item) (query : List Select)
    → GivesAlike AreAlike (queried (names_among one items) query) (queried (names_among other items) query)
query_alike one other items query =
    subst (λ others. GivesAlike AreAlike (queried (names_among one items) query) (queried (names_among other others) query))
    (filter_all items)
    (gives_alike (queried (names_among one items) query) (queried (names_among other (filter (λ item. true) items)) query)
    (query_follows true AreAlike one other (alike_carried one other) (λ word. ⊤) (λ item. true) items (all_stay items) query
    (reads_all query)))
