-- A collection of the catalog whose item is an index is one that the replicas of the index's cluster make.
use Rattle.std.proofs.Common.{◌≡◌, ◌<◌, ◌+◌, ◌==◌, ◌&&◌, ℕ, Bool, true, false, cond, not, List, [], ◌∷◌, ◌++◌, map, refl, sym, ap, subst, ◌∙◌, arith}
use Rattle.std.proofs.lemmas.Bool.{and_from, eq-eqb, false≢true}
use Rattle.std.specs.List.{AllByRecursion as Each}
use Rattle.mz_statement.specs.declared.statement.Statement.TheVariants.{Retain}
use Rattle.mz_plan.specs.Items.{is_index}
use Rattle.mz_plan.specs.declared.item.Item.{Item}
use Rattle.mz_plan.specs.declared.item.ItemKind.{ItemKind}
use Rattle.mz_plan.specs.declared.item.ItemKind.TheVariants.{Table, View, Index}
use Rattle.mz_rules.specs.Joining.{is_made_in, is_table}
use Rattle.mz_rules.specs.declared.capability.Collection.{Collection}
use Rattle.mz_rules.proofs.Each.{each_filter, each_map, each_of, each_one}
use Rattle.mz_log.specs.Sequential.{Made, Removed, Moved, Sequential, after_changes, new_bag, new_plan}
use Rattle.mz_log.specs.declared.entry.Entry.TheVariants.{Apply, Read, Instant, Absorbed}
use Rattle.mz_log.specs.Log.{Log}
use Rattle.mz_books.specs.Clusters.{cluster_of}
use Rattle.mz_books.specs.Collections.{advanced, collections, is_in_catalog, reported, retained, with_item, without_item}
use Rattle.mz_books.specs.States.{after_replies, newest_state}
use Rattle.mz_books.specs.Legal.{Legal}
use Rattle.mz_replay_laws.proofs.Changes.{AreUsed}
use Rattle.mz_replay_laws.proofs.Said.{round_said}
use Rattle.mz_replay_laws.proofs.Steady.{newest_after}
use Rattle.mz_replay_laws.proofs.WellStates.{states_well}
use Rattle.mz_stream_laws.proofs.Put.{IsPut, put_advanced, put_reported, put_retained, put_without}
use Rattle.mz_replay_laws.proofs.RoundKeeps.{IsKeptBy, round_keeps}

-- the number of the collection's item was used, and where an index has it, its cluster makes the collection
pub record IsMadeForIndex (state : Sequential) (c : Collection) : Type 0 where
  pub used : c.item < state.database.next
  pub made : Each (λ item. item.id ≡ c.item → is_index item.kind ≡ true → is_made_in item.cluster c ≡ true) state.database.items

-- so it is with a collection, if it is in the catalog
abbrev pub IfPresent : Sequential → Collection → Type 0
IfPresent state c = is_in_catalog c ≡ true → IsMadeForIndex state c

-- ---- collections that move

-- the test of the cluster
same_made : (cluster : ℕ) (c d : Collection) → IsPut c d → is_made_in cluster d ≡ is_made_in cluster c
same_made cluster c d p = λ i. (p.cluster i == cluster) && not (is_table (p.kind i))

-- one
moved_made : (state : Sequential) (c d : Collection) → IsPut c d → IfPresent state c → IfPresent state d
moved_made state c d p h here =
    let own = h (p.present here) in
    record {
      used = subst (λ number. number < state.database.next) (sym p.item) own.used;
      made = each_of (λ item. item.id ≡ c.item → is_index item.kind ≡ true → is_made_in item.cluster c ≡ true)
          (λ item. item.id ≡ d.item → is_index item.kind ≡ true → is_made_in item.cluster d ≡ true)
          (λ item q is index. same_made item.cluster c d p ∙ q (is ∙ p.item) index) state.database.items own.made;
    }

-- all
all_put : (state : Sequential) (f : Collection → Collection) → ((c : Collection) → IsPut c (f c)) → (cs : List Collection)
    → Each (IfPresent state) cs → Each (IfPresent state) (map f cs)
all_put state f put cs h = each_map (IfPresent state) (IfPresent state) f (λ c q. moved_made state c (f c) (put c) q) cs h

-- ---- a change

-- the state once an item of this kind is made
abbrev made_state : Sequential → Item → ItemKind → Sequential
made_state state item kind = record {
  database = record {
    items = state.database.items ++ item ∷ [];
    next = state.database.next + 1;
    bags = state.database.bags ++ new_bag item.id kind;
  };
  plans = new_plan item.id kind ++ state.plans;
}

-- older collections are as they were once an item is made
older_made : (state : Sequential) (item : Item) (kind : ItemKind) → item.id ≡ state.database.next → (c : Collection) → IfPresent state c
    → IfPresent (made_state state item kind) c
older_made state item kind next c h here =
    let own = h here in
    let used = own.used in
    record {
      used = omega (arith, used);
      made = each_one (λ other. other.id ≡ c.item → is_index other.kind ≡ true → is_made_in other.cluster c ≡ true) state.database.items item own.made
          (λ is index. absurd (omega (arith, is, next, used)));
    }

-- a new one is right, if it is so for the new item
new_made : (state : Sequential) (item : Item) (kind : ItemKind) → AreUsed state → item.id ≡ state.database.next → (c : Collection)
    → c.item ≡ item.id → (is_index item.kind ≡ true → is_made_in item.cluster c ≡ true) → IfPresent (made_state state item kind) c
new_made state item kind used next c own right here = record {
  used = omega (arith, own, next);
  made = each_one (λ other. other.id ≡ c.item → is_index other.kind ≡ true → is_made_in other.cluster c ≡ true) state.database.items item
      (each_of (λ other. other.id < state.database.next) (λ other. other.id ≡ c.item → is_index other.kind ≡ true → is_made_in other.cluster c ≡ true)
      (λ other below is index. absurd (omega (arith, below, is, own, next))) state.database.items used)
      (λ is index. right index);
}

-- an item that is made
item_made : (state : Sequential) (item : Item) (kind : ItemKind) → item.kind ≡ kind → AreUsed state → item.id ≡ state.database.next
    → (time : ℕ) (cs : List Collection) → Each (IfPresent state) cs → Each (IfPresent (made_state state item kind)) (with_item time cs item kind)
item_made state item (Table columns) is used next time cs h =
    let later = made_state state item (Table columns) in
    each_one (IfPresent later) cs _ (each_of (IfPresent state) (IfPresent later) (older_made state item (Table columns) next) cs h)
    (new_made state item (Table columns) used next _ refl (λ index. absurd (false≢true (sym (ap is_index is) ∙ index))))
item_made state item (Index on plan) is used next time cs h =
    let later = made_state state item (Index on plan) in
    each_one (IfPresent later) cs _ (each_of (IfPresent state) (IfPresent later) (older_made state item (Index on plan) next) cs h)
    (new_made state item (Index on plan) used next _ refl
    (λ index. and_from (item.cluster == item.cluster) true (eq-eqb item.cluster item.cluster refl) refl))
item_made state item (View columns query) is used next time cs h =
    each_of (IfPresent state) (IfPresent (made_state state item (View columns query))) (older_made state item (View columns query) next) cs h

-- any change
change_made : (time : ℕ) → IsKeptBy time (λ state cs. Each (IfPresent state) cs)
change_made time state used (Made item) next cs h = item_made state item item.kind refl used next time cs h
change_made time state used (Removed id) next cs h =
    let later = after_changes state (Removed id ∷ []) in
    all_put later (without_item id) (put_without id) cs
    (each_of (IfPresent state) (IfPresent later)
    (λ c q here. record {
      used = (q here).used;
      made = each_filter (λ item. item.id ≡ c.item → is_index item.kind ≡ true → is_made_in item.cluster c ≡ true) (λ item. not (item.id == id))
          state.database.items (q here).made;
    }) cs h)
change_made time state used (Moved table rows) next cs h =
    each_of (IfPresent state) (IfPresent (after_changes state (Moved table rows ∷ []))) (λ c q here. record { used = (q here).used; made = (q here).made }) cs h

-- ---- every log

-- a read adds a collection that isn't in the catalog
read_made : (state : Sequential) (collection : ℕ) (cs : List Collection) (new : Collection) → is_in_catalog new ≡ false
    → Each (IfPresent state) cs → (which : Bool) → Each (IfPresent state) (cond which (cs ++ new ∷ []) cs)
read_made state collection cs new other h true = each_one (IfPresent state) cs new h (λ here. absurd (false≢true (sym other ∙ here)))
read_made state collection cs new other h false = h

-- so each collection of a legal log is right in the newest state
pub index_places : (log : Log) → Legal log → Each (IfPresent (newest_state log)) (collections log)
index_places [] l = ((λ here. record { used = omega arith; made = ((λ is index. absurd (false≢true index)), tt) }), tt)
index_places (Apply time replies ∷ log) l =
    subst (λ state. Each (IfPresent state) (collections (Apply time replies ∷ log))) (sym (newest_after log time replies l))
    (all_put (after_replies (cluster_of log) (newest_state log) replies) (advanced time) (put_advanced time) _
    (round_keeps time (λ state cs. Each (IfPresent state) cs) (change_made time) (cluster_of log) (newest_state log) (collections log) replies
    (round_said log time replies l) (states_well log l.0 _) (index_places log l.0)))
index_places (Read session call peek time statement collection ∷ log) l =
    read_made (newest_state log) collection (collections log) _ refl (index_places log l.0) _
index_places (Absorbed replica incarnation turn taken ready frontiers ∷ log) l =
    all_put (newest_state log) (reported frontiers) (put_reported frontiers) (collections log) (index_places log l.0)
index_places (Instant session call (Retain name keep) time ∷ log) l =
    all_put (newest_state log) (retained name keep) (put_retained name keep) (collections log) (index_places log l.0)
index_places (entry ∷ log) l = index_places log l.0
