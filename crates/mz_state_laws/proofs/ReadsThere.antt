-- What is asked for in a well state reads only tables that are there.
use Rattle.std.proofs.Common.{◌≡◌, ◌==◌, ℕ, true, List, [], ◌∷◌, ◌++◌, Option, Result, Ok, Err, bytes_eq, refl, subst}
use Rattle.std.proofs.lemmas.Bool.{eq-eqb, or_left, or_right}
use Rattle.std.proofs.lemmas.List.Elements.{All-contains, All-from_recursion, Contains-append_left}
use Rattle.std.specs.Prelude.{Contains, IfOk}
use Rattle.std.specs.List.{AllByRecursion as Each}
use Rattle.mz_statement.specs.declared.query.Select.{Select}
use Rattle.mz_statement.specs.declared.statement.Statement.TheVariants as statement
use Rattle.mz_plan.specs.Items.{is_index}
use Rattle.mz_plan.specs.declared.item.Item.{Item}
use Rattle.mz_plan.specs.declared.item.ItemKind.{ItemKind}
use Rattle.mz_plan.specs.declared.item.ItemKind.TheVariants.{Table, View, Index}
use Rattle.mz_plan.specs.declared.plan.Plan.TheVariants as node
use Rattle.mz_plan_laws.proofs.TypedValues.{each_weaker}
use Rattle.mz_refusal.specs.declared.refusal.Refusal.{Refusal}
use Rattle.mz_resolution.specs.Resolution.{newest_first, query_in, resolution}
use Rattle.mz_resolution.specs.Resolution as resolving
use Rattle.mz_resolution.specs.declared.relation.NamedRelation.{NamedRelation}
use Rattle.mz_resolve_laws.proofs.QueryLeaves.{queried_fits}
use Rattle.mz_resolve_laws.proofs.ScopeLeaves.{IsNamed, named_fits, newest_there}
use Rattle.mz_resolve_laws.proofs.StepTools.{then_ok}
use Rattle.mz_resolve_laws.specs.Sound.{names_among}
use Rattle.mz_resolve_laws.specs.TypedOver.{LeafTypes}
use Rattle.mz_log.specs.Sequential.{Sequential}
use Rattle.mz_state_laws.specs.Reads.{AllReadOwn, AsksThere, IndexReadsOnly, IsClosed, Passes, ReadsBelow, ReadsOwn, ReadsThere, is_there}
use Rattle.mz_state_laws.specs.Well.{IsWell, IsWellOver, scope_in}
use Rattle.mz_state_laws.proofs.NamesClosed.{ReadsIf, named_reads, readable_not}
use Rattle.mz_state_laws.proofs.ReadsStay.{closed_fewer, newest_reads}

-- ---- numbers that are there

-- each item's number is
each_there : (items : List Item) → Each (λ item. is_there items item.id ≡ true) items
each_there [] = tt
each_there (item ∷ items) = (
  or_left (item.id == item.id) (is_there items item.id) (eq-eqb item.id item.id refl),
  each_weaker (λ other. is_there items other.id ≡ true) (λ other. is_there (item ∷ items) other.id ≡ true)
      (λ other there. or_right (item.id == other.id) (is_there items other.id) there) items (each_there items),
)

-- so that of an item that is there is
pub item_there : (items : List Item) (item : Item) → Contains items item → Passes (is_there items) item.id
item_there items item there =
    All-contains (λ other. is_there items other.id ≡ true) items item
    (All-from_recursion (λ other. is_there items other.id ≡ true) items (each_there items)) there

-- and with each item what it depends on
there_closed : (items : List Item) → IsClosed (is_there items) items
there_closed items = record { closed = λ item on there below readable depending passes. item_there items on below }

-- ---- what is asked for

-- what names stand for
names_there : (state : Sequential) (cluster : ℕ)
    → AllReadOwn state.plans state.database.items → (word : List ℕ)
    → IfOk (resolving.named (scope_in state cluster) (newest_first (scope_in state cluster)) word) (λ found. ReadsThere state found.relation.plan)
names_there state cluster own word =
    then_found (resolving.named (scope_in state cluster) (newest_first (scope_in state cluster)) word)
    (named_reads state.plans (scope_in state cluster) own (is_there state.database.items) (there_closed state.database.items)
    (newest_first (scope_in state cluster)) (newest_there (scope_in state cluster)) word)
  where
    then_found : (step : Result NamedRelation Refusal)
        → IfOk step (λ found. ReadsIf state.plans (is_there state.database.items) found × IsNamed (scope_in state cluster) word found)
        → IfOk step (λ found. ReadsThere state found.relation.plan)
    then_found (Ok found) h =
        h.0 (subst (Passes (is_there state.database.items)) h.1.item.numbered (item_there state.database.items h.1.item.item h.1.item.there))
    then_found (Err refusal) h = tt

-- a query
pub query_there : (state : Sequential) → IsWell state → (cluster : ℕ) (query : List Select) (as_of : Option ℕ)
    → IfOk (resolution (scope_in state cluster) (statement.Query query as_of)) (AsksThere state)
query_there state well cluster query as_of =
    then_ok (query_in (scope_in state cluster) query) _ (λ relation. ReadsThere state relation.plan) (AsksThere state)
    (queried_fits (Passes (is_there state.database.items)) (IndexReadsOnly (Passes (is_there state.database.items)) state.plans)
    (names_among (scope_in state cluster) (newest_first (scope_in state cluster)))
    (λ word. then_ok (resolving.named (scope_in state cluster) (newest_first (scope_in state cluster)) word) _
    (λ found. ReadsThere state found.relation.plan) (λ relation. ReadsThere state relation.plan)
    (names_there state cluster well.over.reads word) (λ found h. h)) query)
    (λ relation h. h)

-- the plan of a new index
pub new_index_there : (state : Sequential) → IsWell state → (cluster : ℕ) (name on : List ℕ)
    → IfOk (resolution (scope_in state cluster) (statement.CreateIndex name on)) (AsksThere state)
new_index_there state well cluster name on =
    then_ok (resolving.named (scope_in state cluster) (newest_first (scope_in state cluster)) on) _
    (λ found. ReadsThere state found.relation.plan) (AsksThere state) (names_there state cluster well.over.reads on) (λ found h. h)

-- an index that is there
pub index_there : (state : Sequential) → IsWell state → (item : Item) → Contains state.database.items item → is_index item.kind ≡ true
    → ReadsThere state (node.Index item.id)
index_there state well item there is =
    by item.kind is
    (All-contains (λ other. ReadsOwn state.plans state.database.items other.id other.kind) state.database.items item
    (All-from_recursion (λ other. ReadsOwn state.plans state.database.items other.id other.kind) state.database.items well.over.reads) there)
  where
    by : (kind : ItemKind) → is_index kind ≡ true → ReadsOwn state.plans state.database.items item.id kind
        → IndexReadsOnly (Passes (is_there state.database.items)) state.plans item.id
    by (Table columns) index own = absurd cc
    by (View columns query) index own = absurd cc
    by (Index on plan) index own =
        own.within (is_there state.database.items) (there_closed state.database.items)
        (subst (Passes (is_there state.database.items)) own.numbered (item_there state.database.items own.item own.there))

-- ---- a new index

-- what holds of a step holds of what it gives
of_ok : {A : Type 0} (step : Result A Refusal) (x : A) (P : A → Type 0) → step ≡ Ok x → IfOk step P → P x
of_ok step x P is h = subst (λ s. IfOk s P) is h

-- it reads nothing but what it is on, and what that depends on
pub new_own : (types : LeafTypes) (state : Sequential) → IsWellOver types state → (cluster : ℕ) (name on : List ℕ) (found : NamedRelation)
    → resolving.named (scope_in state cluster) (newest_first (scope_in state cluster)) on ≡ Ok found → (new : Item)
    → ReadsBelow ((state.database.next, found.relation.plan) ∷ state.plans) (state.database.items ++ new ∷ []) state.database.next found.item
new_own types state well cluster name on found is new =
    let own = of_ok (resolving.named (scope_in state cluster) (newest_first (scope_in state cluster)) on) found
    (IsNamed (scope_in state cluster) on) is
    (named_fits (scope_in state cluster) (newest_first (scope_in state cluster)) (newest_there (scope_in state cluster)) on) in
    record {
      item = own.item.item;
      there = Contains-append_left state.database.items (new ∷ []) own.item.item own.item.there;
      numbered = own.item.numbered;
      readable = readable_not own.item.item.kind (bytes_eq on own.item.item.name) own.item.passes;
      within = λ test closed passes. newest_reads (Passes test) state.plans state.database.next found.relation.plan
          ((of_ok (resolving.named (scope_in state cluster) (newest_first (scope_in state cluster)) on) found
          (λ x. ReadsIf state.plans test x × IsNamed (scope_in state cluster) on x) is
          (named_reads state.plans (scope_in state cluster) well.reads test (closed_fewer test state.database.items (new ∷ []) closed)
          (newest_first (scope_in state cluster)) (newest_there (scope_in state cluster)) on)).0 passes);
    }
