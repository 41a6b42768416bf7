-- What resolves in a scope resolves to the same without an index of another cluster.
use Rattle.std.proofs.Common.{◌≡◌, ◌∙◌, ◌+◌, ◌==◌, ◌&&◌, refl, sym, subst, ap, ℕ, Bool, true, false, cond, not, List, [], ◌∷◌, Result, Ok, Err, Option, Some, filter, inl, inr}
use Rattle.std.specs.Prelude.{All, Contains, IfOk, find, option_map, ⊤}
use Rattle.std.specs.List.{AllByRecursion as Each, AllZip}
use Rattle.std.proofs.lemmas.Bool.{eqb-true}
use Rattle.std.proofs.lemmas.List.Elements.{All-contains}
use Rattle.mz_statement.specs.declared.query.Select.{Select}
use Rattle.mz_statement.specs.declared.statement.Statement.TheVariants as statement
use Rattle.mz_plan.specs.declared.item.Item.{Item}
use Rattle.mz_plan.specs.declared.plan.Plan.{Union}
use Rattle.mz_plan.specs.declared.plan.Plan.TheVariants as plans
use Rattle.mz_refusal.specs.declared.refusal.Refusal.{Refusal}
use Rattle.mz_plan.specs.declared.scope.Scope.{Scope}
use Rattle.mz_plan.specs.Items.{Ascend, depends, names, is_index, is_on, oldest_index}
use Rattle.mz_resolution.specs.declared.relation.Referred.{Referred}
use Rattle.mz_resolution.specs.declared.relation.Relation.{Relation}
use Rattle.mz_resolution.specs.Queries.{queried, select_of}
use Rattle.mz_resolution.specs.Resolution.{leaf_or, named, newest_first, query_in, resolution}
use Rattle.mz_resolution.specs.Steps.{Step, ◌>>=◌}
use Rattle.mz_resolve_laws.specs.Growth.{IsForeignIndex, without_item}
use Rattle.mz_resolve_laws.specs.Sound.{names_among}
use Rattle.mz_resolve_laws.proofs.DropLaws.{NamesNone, filter_reverse, kind_reads_none, reads_none}
use Rattle.mz_resolve_laws.proofs.Follows.{AreCalledAlike, Follows}
use Rattle.mz_resolve_laws.proofs.NameTypes.{by_number}
use Rattle.mz_resolve_laws.proofs.NamesFollow.{AreNamedBy, IsCarriedBy, Stays, kind_reads_all, named_follows, query_follows, reads_all}
use Rattle.mz_resolve_laws.proofs.ScopeLeaves.{all_there, newest_there}

-- relations that are one
abbrev pub AreOne : Relation → Relation → Type 0
AreOne one other = one ≡ other

-- references that are alike are one
referred_one : (one other : Referred) → AreCalledAlike AreOne one other → one ≡ other
referred_one one other h i = record { called = h.called i; relation = h.relations i }

-- and so are lists of them
all_one : (ones others : List Referred) → AllZip (AreCalledAlike AreOne) ones others → ones ≡ others
all_one [] [] h = refl
all_one [] (other ∷ others) h = elim h [ ]
all_one (one ∷ ones) [] h = elim h [ ]
all_one (one ∷ ones) (other ∷ others) h = λ i. referred_one one other h.0 i ∷ all_one ones others h.1 i

-- scopes that read the same indexes carry such relations on
one_carried : (one other : Scope)
    → ((item : ℕ) → oldest_index one.items one.cluster item ≡ oldest_index other.items other.cluster item)
    → IsCarriedBy AreOne one other
one_carried one other same = record {
  queries = record {
    columns = λ x y h. ap (λ r. r.columns) h;
    tables = λ x y h. ap (λ r. r.tables) h;
    selects = λ first second rest others h k select pairs cond keys found. λ i. select_of (referred_one first second h i)
        (all_one rest others k i) select pairs cond keys found;
    unions = λ whole second next more h k. λ i. record {
      columns = (h i).columns;
      plan = Union (h i).plan
          (k i).plan;
      tables = (h i).tables + (k i).tables;
    };
  };
  tables = λ item columns. λ i. record { columns = columns; plan = leaf_or (same item i) (plans.Table item); tables = 1 };
  views = λ item columns below more h. λ i. record { columns = columns; plan = leaf_or (same item i) (h i).plan; tables = (h i).tables };
}

-- a search over what is kept, where what isn't doesn't pass
find_kept : (test keep : Item → Bool) (items : List Item) → Each (λ item. keep item ≡ false → test item ≡ false) items
    → find test items ≡ find test (filter keep items)
find_kept test keep [] h = refl
find_kept test keep (item ∷ items) h = by (keep item) refl (find_kept test keep items h.1)
  where
    by : (c : Bool) → keep item ≡ c → find test items ≡ find test (filter keep items)
        → cond (test item) (Some item) (find test items) ≡ find test (cond c (item ∷ filter keep items) (filter keep items))
    by true e later = ap (λ o. cond (test item) (Some item) o) later
    by false e later = ap (λ c. cond c (Some item) (find test items)) (h.0 e) ∙ later

-- what is not kept is the index
gone_is_index : (scope : Scope) → Ascend scope.items → (index : Item) → Contains scope.items index → (item : Item)
    → Contains scope.items item → not (item.id == index.id) ≡ false → item ≡ index
gone_is_index scope up index there item here e =
    let one : find (λ x. x.id == index.id) scope.items ≡ Some item =
    by_number index.id (find (λ x. x.id == index.id)) Some (λ x xs. refl) scope.items up item
    (eqb-true item.id index.id (negated (item.id == index.id) e)) here in
    let other : find (λ x. x.id == index.id) scope.items ≡ Some index =
    by_number index.id (find (λ x. x.id == index.id)) Some (λ x xs. refl) scope.items up index refl there in
    cc
  where
    negated : (c : Bool) → not c ≡ false → c ≡ true
    negated true h = refl
    negated false h = absurd cc

-- the same indexes are read
same_indexes : (scope : Scope) → Ascend scope.items → (index : Item) → IsForeignIndex scope index → (item : ℕ)
    → oldest_index scope.items scope.cluster item
    ≡ oldest_index (without_item index.id scope).items (without_item index.id scope).cluster item
same_indexes scope up index foreign item =
    ap (option_map (λ x. x.id)) (find_kept test keep scope.items (each scope.items (all_there scope)))
  where
    test : Item → Bool
    test x = x.cluster == scope.cluster && is_on item x.kind

    keep : Item → Bool
    keep x = not (x.id == index.id)

    other : (c : Bool) → (index.cluster == scope.cluster) ≡ c → (c && is_on item index.kind) ≡ false
    other true e = absurd (foreign.foreign (eqb-true index.cluster scope.cluster e))
    other false e = refl

    each : (items : List Item) → Each (Contains scope.items) items
        → Each (λ x. not (x.id == index.id) ≡ false → (x.cluster == scope.cluster && is_on item x.kind) ≡ false) items
    each [] there = tt
    each (x ∷ items) there = (
      λ e. subst (λ y. (y.cluster == scope.cluster && is_on item y.kind) ≡ false)
          (sym (gone_is_index scope up index foreign.there x there.0 e)) (other (index.cluster == scope.cluster) refl),
      each items there.1,
    )

-- each item stays, or is that index
others_stay : (scope : Scope) → Ascend scope.items → (index : Item) → IsForeignIndex scope index → (items : List Item)
    → Each (Contains scope.items) items
    → Each (Stays false (λ word. ⊤) (λ item. not (item.id == index.id))) items
others_stay scope up index foreign [] there = tt
others_stay scope up index foreign (item ∷ items) there = (
  record {
    reads = kind_reads_all item.kind;
    gone = λ e. inl (
      refl,
      subst (λ x. is_index x.kind ≡ true)
          (sym (gone_is_index scope up index foreign.there item there.0 e)) foreign.is,
    );
  },
  others_stay scope up index foreign items there.1,
)

-- what a step gives, the other does
follows_ok : {A : Type 0} (r s : Result A Refusal) (R : A → A → Type 0) → ((x y : A) → R x y → x ≡ y) → Follows false R r s
    → IfOk r (λ x. s ≡ Ok x)
follows_ok (Ok x) (Ok y) R f h = ap Ok (sym (f x y h))
follows_ok (Ok x) (Err refusal) R f h = elim h [ ]
follows_ok (Err refusal) s R f h = tt

-- a query
pub query_same : (scope : Scope) → Ascend scope.items → (index : Item) → IsForeignIndex scope index → (query : List Select)
    → IfOk (query_in scope query) (λ relation. query_in (without_item index.id scope) query ≡ Ok relation)
query_same scope up index foreign query =
    subst (λ items. IfOk (query_in scope query) (λ relation. queried (names_among (without_item index.id scope) items) query ≡ Ok relation))
    (sym (filter_reverse (λ item. not (item.id == index.id)) scope.items))
    (follows_ok (query_in scope query) _ AreOne (λ x y h. h)
    (query_follows false AreOne scope (without_item index.id scope)
    (one_carried scope (without_item index.id scope) (same_indexes scope up index foreign)) (λ word. ⊤)
    (λ item. not (item.id == index.id))
    (newest_first scope) (others_stay scope up index foreign (newest_first scope) (newest_there scope)) query (reads_all query)))

-- a name
name_same : (scope : Scope) → Ascend scope.items → (index : Item) → IsForeignIndex scope index → (name : List ℕ)
    → IfOk (named scope (newest_first scope) name) (λ found. named (without_item index.id scope)
    (newest_first (without_item index.id scope)) name ≡ Ok found)
name_same scope up index foreign name =
    subst (λ items. IfOk (named scope (newest_first scope) name) (λ found. named (without_item index.id scope) items name ≡ Ok found))
    (sym (filter_reverse (λ item. not (item.id == index.id)) scope.items))
    (follows_ok (named scope (newest_first scope) name) _ (AreNamedBy AreOne)
    (λ x y h. λ i. record { item = h.item i; relation = h.relations i })
    (named_follows false AreOne scope (without_item index.id scope)
    (one_carried scope (without_item index.id scope) (same_indexes scope up index foreign)) (λ word. ⊤)
    (λ item. not (item.id == index.id))
    (newest_first scope) (others_stay scope up index foreign (newest_first scope) (newest_there scope)) name tt))

-- a step with another behind it
same_behind : {A B : Type 0} (r s : Result A Refusal) (f g : A → Step B) → IfOk r (λ x. s ≡ Ok x) → ((x : A) → f x ≡ g x)
    → IfOk (r >>= f) (λ y. (s >>= g) ≡ Ok y)
same_behind (Ok x) s f g h same = by (f x) refl
  where
    by : (step : Result _ Refusal) → f x ≡ step → IfOk step (λ y. (s >>= g) ≡ Ok y)
    by (Ok y) e = ap (λ t. t >>= g) h ∙ (sym (same x) ∙ e)
    by (Err refusal) e = tt
same_behind (Err refusal) s f g h same = tt

-- a query's statement
pub asks_same : (scope : Scope) → Ascend scope.items → (index : Item) → IsForeignIndex scope index
    → (query : List Select) (as_of : Option ℕ)
    → IfOk (resolution scope (statement.Query query as_of)) (λ done. resolution (without_item index.id scope)
    (statement.Query query as_of) ≡ Ok done)
asks_same scope up index foreign query as_of =
    same_behind (query_in scope query) (query_in (without_item index.id scope) query) _ _ (query_same scope up index foreign query)
    (λ relation. refl)

-- a view's
pub views_same : (scope : Scope) → Ascend scope.items → (index : Item) → IsForeignIndex scope index → (name : List ℕ) (query : List Select)
    → IfOk (resolution scope (statement.CreateView name query))
    (λ done. resolution (without_item index.id scope) (statement.CreateView name query) ≡ Ok done)
views_same scope up index foreign name query =
    same_behind (query_in scope query) (query_in (without_item index.id scope) query) _ _ (query_same scope up index foreign query)
    (λ relation. refl)

-- an index's
pub indexes_same : (scope : Scope) → Ascend scope.items → (index : Item) → IsForeignIndex scope index → (name on : List ℕ)
    → IfOk (resolution scope (statement.CreateIndex name on))
    (λ done. resolution (without_item index.id scope) (statement.CreateIndex name on) ≡ Ok done)
indexes_same scope up index foreign name on =
    same_behind (named scope (newest_first scope) on) (named (without_item index.id scope) (newest_first (without_item index.id scope)) on)
    _ _ (name_same scope up index foreign on) (λ found. refl)

-- ---- where no name means the index

-- an item is this one
abbrev pub IsItself : Item → Item → Type 0
IsItself index item = item ≡ index

-- each item stays, or its name is read by none
unread_stay : (scope : Scope) → Ascend scope.items → (index : Item) → IsForeignIndex scope index → (items : List Item)
    → Each (Contains scope.items) items → Each (λ item. depends item.kind index ≡ false) items
    → Each (Stays true (NamesNone (IsItself index)) (λ item. not (item.id == index.id))) items
unread_stay scope up index foreign [] there unread = tt
unread_stay scope up index foreign (item ∷ items) there unread = (
  record {
    reads = kind_reads_none (IsItself index) item.kind (λ other same. subst (λ x. depends item.kind x ≡ false) (sym same) unread.0);
    gone = λ e. inr (λ word free. free item (gone_is_index scope up index foreign.there item there.0 e));
  },
  unread_stay scope up index foreign items there.1 unread.1,
)

-- what holds of each item holds of each of a list of them
each_of : (P : Item → Type 0) (all items : List Item) → All P all → Each (Contains all) items → Each P items
each_of P all [] h there = tt
each_of P all (item ∷ items) h there = (All-contains P all item h there.0, each_of P all items h there.1)

-- steps that follow each other strictly are one
follows_one : {A : Type 0} (r s : Result A Refusal) → Follows true (λ x y. x ≡ y) r s → r ≡ s
follows_one (Ok x) (Ok y) h = ap Ok h
follows_one (Ok x) (Err refusal) h = elim h [ ]
follows_one (Err refusal) (Ok y) h = elim h [ ]
follows_one (Err refusal) (Err other) h = ap Err h

-- a query that doesn't name it
pub query_unread : (scope : Scope) → Ascend scope.items → (index : Item) → IsForeignIndex scope index
    → All (λ item. depends item.kind index ≡ false) scope.items
    → (query : List Select) → names query index.name ≡ false → query_in scope query ≡ query_in (without_item index.id scope) query
query_unread scope up index foreign unread query free =
    subst (λ items. query_in scope query ≡ queried (names_among (without_item index.id scope) items) query)
    (sym (filter_reverse (λ item. not (item.id == index.id)) scope.items))
    (follows_one (query_in scope query)
    (queried (names_among (without_item index.id scope) (filter (λ item. not (item.id == index.id)) (newest_first scope))) query)
    (query_follows true AreOne scope (without_item index.id scope)
    (one_carried scope (without_item index.id scope) (same_indexes scope up index foreign)) (NamesNone (IsItself index))
    (λ item. not (item.id == index.id)) (newest_first scope)
    (unread_stay scope up index foreign (newest_first scope) (newest_there scope)
    (each_of (λ item. depends item.kind index ≡ false) scope.items (newest_first scope) unread (newest_there scope)))
    query (reads_none (IsItself index) query (λ item same. subst (λ x. names query x.name ≡ false) (sym same) free))))
