-- Each pending peek is on a collection that the replicas of its session's cluster make.
use Rattle.std.proofs.Common.{◌≡◌, ℕ, ◌+◌, ◌≤◌, ◌==◌, ◌&&◌, ◌||◌, Bool, true, false, not, List, [], ◌∷◌, length, filter, map, refl, sym, ap, subst, ◌∙◌, IsTrue}
use Rattle.std.specs.Prelude.{Contains}
use Rattle.std.specs.List.{AllByRecursion as Each}
use Rattle.std.proofs.lemmas.Bool.{and_from, and_parts, cond-true, eq-eqb, eqb-true, or_left, or_right}
use Rattle.std.proofs.lemmas.List.Folds.{list_any-append}
use Rattle.mz_statement.specs.declared.statement.Statement.TheVariants.{Retain}
use Rattle.mz_plan.specs.Items.{is_index}
use Rattle.mz_plan.specs.declared.command.PendingPeek.{PendingPeek}
use Rattle.mz_plan.specs.declared.plan.Plan.{Plan}
use Rattle.mz_plan.specs.declared.plan.Plan.TheVariants as plan
use Rattle.mz_plan.specs.declared.scope.Scope.{Scope}
use Rattle.mz_resolve_laws.specs.OfScope.{HasItem, IsOfScope, is_index_in}
use Rattle.mz_rules.specs.Joining.{is_made_in}
use Rattle.mz_rules.specs.declared.capability.Collection.{Collection}
use Rattle.mz_rules.proofs.Each.{each_both, each_filter, each_of, each_one}
use Rattle.mz_log.specs.declared.entry.Entry.TheVariants.{Apply, Read, Finish, Instant, Cancel, Absorbed}
use Rattle.mz_log.specs.Log.{Log}
use Rattle.mz_log.specs.Sequential.{Sequential}
use Rattle.mz_books.specs.Clusters.{cluster_of}
use Rattle.mz_books.specs.Collections.{collections, is_in_catalog, is_leaf, plan_or_none, reported, retained, with_read}
use Rattle.mz_books.specs.Holds.{is_of_call, is_peek, pending}
use Rattle.mz_books.specs.States.{newest_state, query_plan, round_changes, scope_of}
use Rattle.mz_books.specs.Streams.{is_kept_in}
use Rattle.mz_books.specs.Answer.{first_or_next, target}
use Rattle.mz_books.specs.Legal.{Legal}
use Rattle.mz_call_laws.proofs.Lists.{each_has, has_from}
use Rattle.mz_replay_laws.proofs.Collected.{collections_fit}
use Rattle.mz_replay_laws.proofs.QueryPlans.{plan_of_scope}
use Rattle.mz_replay_laws.proofs.ReadPlans.{accepted_read}
use Rattle.mz_safe_laws.proofs.Reached.{each_left}
use Rattle.mz_stream_laws.proofs.Put.{put_reported, put_retained}
use Rattle.mz_stream_laws.proofs.Kept.{Keeps, keeps_moved, keeps_read, keeps_round}
use Rattle.mz_stream_laws.proofs.Asked.{KeepAll, keep_all}
use Rattle.mz_stream_laws.proofs.IndexPlaces.{IfPresent, index_places}

-- ---- what a read reads

-- a collection that is among these, and made in the cluster, is one that its replicas make
kept_each : (cluster : ℕ) (cs : List Collection) → Each (λ c. is_made_in cluster c ≡ true → is_kept_in cluster cs c.number ≡ true) cs
kept_each cluster [] = tt
kept_each cluster (c ∷ cs) = (
  (λ made. or_left ((c.number == c.number) && is_made_in cluster c) (is_kept_in cluster cs c.number)
      (and_from (c.number == c.number) (is_made_in cluster c) (eq-eqb c.number c.number refl) made)),
  each_of (λ d. is_made_in cluster d ≡ true → is_kept_in cluster cs d.number ≡ true)
      (λ d. is_made_in cluster d ≡ true → is_kept_in cluster (c ∷ cs) d.number ≡ true)
      (λ d q made. or_right ((c.number == d.number) && is_made_in cluster c) (is_kept_in cluster cs d.number) (q made))
      cs (kept_each cluster cs),
)

-- a collection that is there, and that the replicas of the cluster make
abbrev IsThere : ℕ → List Collection → ℕ → Type 0
IsThere cluster cs number = (number ≤ length cs) × (is_kept_in cluster cs number ≡ true)

-- the collection of an index is made in its cluster
leaf_made : (scope : Scope) (state : Sequential) → scope.items ≡ state.database.items → (item : ℕ) → HasItem scope (is_index_in scope.cluster) item
    → (c : Collection) → is_leaf (item ∷ []) c ≡ true → IfPresent state c → is_made_in scope.cluster c ≡ true
leaf_made scope state same item has c leaf placed =
    let parts = and_parts (is_in_catalog c) ((item == c.item) || false) leaf in
    let own = eqb-true item c.item (first (item == c.item) parts.1) in
    let index = and_parts (has.item.cluster == scope.cluster) (is_index has.item.kind) (of_true (is_index_in scope.cluster has.item) has.passes) in
    subst (λ cluster. is_made_in cluster c ≡ true) (eqb-true has.item.cluster scope.cluster index.0)
    (each_has (λ other. other.id ≡ c.item → is_index other.kind ≡ true → is_made_in other.cluster c ≡ true) has.item state.database.items
    (placed parts.0).made (has_from has.item state.database.items (subst (λ items. Contains items has.item) same has.there))
    (has.numbered ∙ own) index.1)
  where
    first : (b : Bool) → (b || false) ≡ true → b ≡ true
    first true h = refl
    first false h = h

    of_true : (b : Bool) → IsTrue b → b ≡ true
    of_true true h = refl
    of_true false h = absurd (cc)

-- so each leaf that is the collection of an index is there
leaves_there : (log : Log) → Legal log → (session item : ℕ) → HasItem (scope_of log session) (is_index_in (cluster_of log session)) item
    → Each (λ c. IsThere (cluster_of log session) (collections log) c.number) (filter (is_leaf (item ∷ [])) (collections log))
leaves_there log l session item has =
    let cs = collections log in
    let cluster = cluster_of log session in
    let low : Collection → Type 0 = λ c. c.number ≤ length cs in
    let found : Collection → Type 0 = λ c. is_made_in cluster c ≡ true → is_kept_in cluster cs c.number ≡ true in
    let known : Collection → Type 0 = λ c. low c × found c in
    each_left (λ c. known c × IfPresent (newest_state log) c) (λ c. IsThere cluster cs c.number) (is_leaf (item ∷ []))
    (λ c leaf k. (k.0.0, k.0.1 (leaf_made (scope_of log session) (newest_state log) refl item has c leaf k.1))) cs
    (each_both known (IfPresent (newest_state log)) (λ c. known c × IfPresent (newest_state log) c) (λ c a b. (a, b)) cs
    (each_both low found known (λ c a b. (a, b)) cs (collections_fit log l).numbers (kept_each cluster cs)) (index_places log l))

-- a collection that is made for a read is made in the cluster of its session
next_made : (collection peek cluster : ℕ) (own : Plan) (time : ℕ) (cs : List Collection) → collection ≡ length cs + 1
    → is_kept_in cluster (with_read collection peek cluster own time cs) collection ≡ true
next_made collection peek cluster own time cs is =
    let test : Collection → Bool = λ c. (c.number == collection) && is_made_in cluster c in
    ap (λ ds. is_kept_in cluster ds collection) (cond-true (collection == length cs + 1) _ _ (eq-eqb collection (length cs + 1) is))
    ∙ list_any-append test cs _
    ∙ or_right (is_kept_in cluster cs collection) _
    (or_left _ false (and_from (length cs + 1 == collection) _ (eq-eqb (length cs + 1) collection (sym is))
    (and_from (cluster == cluster) true (eq-eqb cluster cluster refl) refl)))

-- and one that is there stays so
there_made : (collection peek cluster number : ℕ) (own : Plan) (time : ℕ) (cs : List Collection) → IsThere cluster cs number → collection ≡ number
    → is_kept_in cluster (with_read collection peek cluster own time cs) collection ≡ true
there_made collection peek cluster number own time cs there is =
    subst (λ n. is_kept_in cluster (with_read collection peek cluster own time cs) n ≡ true) (sym is)
    ((keeps_read number collection peek cluster own time cs there.0).same cluster ∙ there.1)

-- the first of some leaves, or the next
first_made : (collection peek cluster : ℕ) (own : Plan) (time : ℕ) (cs leaves : List Collection)
    → Each (λ c. IsThere cluster cs c.number) leaves → collection ≡ first_or_next (map (λ c. c.number) leaves) cs
    → is_kept_in cluster (with_read collection peek cluster own time cs) collection ≡ true
first_made collection peek cluster own time cs [] there is = next_made collection peek cluster own time cs is
first_made collection peek cluster own time cs (c ∷ leaves) there is = there_made collection peek cluster c.number own time cs there.0 is

-- so what any plan reads is made in its session's cluster
target_made : (log : Log) → Legal log → (session collection peek time : ℕ) (asked own : Plan) → IsOfScope (scope_of log session) asked
    → collection ≡ target asked (collections log)
    → is_kept_in (cluster_of log session) (with_read collection peek (cluster_of log session) own time (collections log)) collection ≡ true
target_made log l session collection peek time (plan.Index item) own has is =
    first_made collection peek (cluster_of log session) own time (collections log) (filter (is_leaf (item ∷ [])) (collections log))
    (leaves_there log l session item has) is
target_made log l session collection peek time asked own has is =
    next_made collection peek (cluster_of log session) own time (collections log) is

-- ---- pending peeks

-- the peek's collection is one that the replicas of the cluster of its session make
abbrev IsKept : Log → List Collection → PendingPeek → Type 0
IsKept log cs peek = is_kept_in (cluster_of log peek.session) cs peek.collection ≡ true

-- collections that keep those of peeks
kept_on : (log : Log) (cs ds : List Collection) (peeks : List PendingPeek) → KeepAll cs ds peeks → Each (IsKept log cs) peeks
    → Each (IsKept log ds) peeks
kept_on log cs ds peeks keep h =
    each_both (λ peek. Keeps peek.collection cs ds) (IsKept log cs) (IsKept log ds)
    (λ peek k e. k.same (cluster_of log peek.session) ∙ e) peeks keep h

-- so it is with each pending peek
pub peeks_kept : (log : Log) → Legal log
    → Each (λ peek. is_kept_in (cluster_of log peek.session) (collections log) peek.collection ≡ true) (pending log)
peeks_kept [] l = tt
peeks_kept (Apply time replies ∷ log) l =
    let longer : Log = Apply time replies ∷ log in
    kept_on log (collections log) (collections longer) (pending log)
    (keep_all log l.0 (collections longer) (λ number h. keeps_round number time (collections log) (round_changes log replies) h)) (peeks_kept log l.0)
peeks_kept (Read session call peek time statement collection ∷ log) l =
    let longer : Log = Read session call peek time statement collection ∷ log in
    let own = plan_or_none (query_plan (scope_of log session) statement) in
    let is = accepted_read log session call peek time statement collection l in
    each_one (IsKept longer (collections longer)) (pending log) _
    (kept_on log (collections log) (collections longer) (pending log)
    (keep_all log l.0 (collections longer) (λ number h. keeps_read number collection peek (cluster_of log session) own time (collections log) h))
    (peeks_kept log l.0))
    (target_made log l.0 session collection peek time is.plan own
    (plan_of_scope (scope_of log session) statement is.query is.plan is.resolved) is.reads)
peeks_kept (Finish peek rows ∷ log) l =
    each_filter (IsKept log (collections log)) (λ waiting. not (is_peek peek waiting)) (pending log) (peeks_kept log l.0)
peeks_kept (Cancel session call ∷ log) l =
    each_filter (IsKept log (collections log)) (λ waiting. not (is_of_call session call waiting)) (pending log) (peeks_kept log l.0)
peeks_kept (Absorbed replica incarnation turn taken ready frontiers ∷ log) l =
    let ds = map (reported frontiers) (collections log) in
    kept_on log (collections log) ds (pending log)
    (keep_all log l.0 ds (λ number h. keeps_moved (reported frontiers) (put_reported frontiers) number (collections log))) (peeks_kept log l.0)
peeks_kept (Instant session call (Retain name keep) time ∷ log) l =
    let ds = map (retained name keep) (collections log) in
    kept_on log (collections log) ds (pending log)
    (keep_all log l.0 ds (λ number h. keeps_moved (retained name keep) (put_retained name keep) number (collections log))) (peeks_kept log l.0)
peeks_kept (entry ∷ log) l = peeks_kept log l.0
