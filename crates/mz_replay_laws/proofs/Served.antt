-- What a read reads has at its time the rows of the read's plan.
use Rattle.std.proofs.Common.{◌≡◌, ◌+◌, ◌==◌, ◌||◌, ℕ, Bool, true, false, List, [], ◌∷◌, filter, map, length, Some, refl, sym, ap, subst, ◌∙◌, arith, IsTrue}
use Rattle.std.proofs.lemmas.Bool.{and_parts, cond-true, eq-eqb, eqb-true}
use Rattle.std.specs.List.{AllByRecursion as Each}
use Rattle.mz_bag.specs.Weighted.{bag_of}
use Rattle.mz_plan.specs.Items.{is_index}
use Rattle.mz_plan.specs.Meaning.{table_rows}
use Rattle.mz_plan.specs.declared.plan.Plan.{Plan}
use Rattle.mz_plan.specs.declared.plan.Plan.TheVariants as plan
use Rattle.mz_plan_laws.proofs.IndexLaws.{index_is}
use Rattle.mz_plan_laws.proofs.TypedValues.{each_weaker}
use Rattle.mz_resolve_laws.specs.OfScope.{HasItem, IsOfScope, is_index_in}
use Rattle.mz_rules.specs.declared.capability.Collection.{Collection}
use Rattle.mz_log.specs.Log.{Log}
use Rattle.mz_books.specs.Collections.{collections, is_leaf, is_in_catalog, with_read}
use Rattle.mz_books.specs.States.{bags_at, newest_state, plan_at, state_at}
use Rattle.mz_books.specs.Answer.{first_or_next, target}
use Rattle.mz_books.specs.Legal.{Legal}
use Rattle.mz_replay_laws.specs.Well.{IsNewest}
use Rattle.mz_replay_laws.proofs.Collected.{collections_fit, found_read}
use Rattle.mz_replay_laws.proofs.Found.{plan_in, plan_past}
use Rattle.mz_replay_laws.proofs.IndexPlans.{HasPlan}
use Rattle.mz_call_laws.specs.Members.{Has}
use Rattle.mz_call_laws.proofs.Lists.{each_has, has_from}
use Rattle.mz_replay_laws.proofs.Lists.{contains_from, each_both, each_passed}
use Rattle.mz_replay_laws.proofs.WellStates.{states_well}

-- the collection of this number, among those after a read, has a plan that gives at a time what another does
pub record IsServed (log : Log) (number : ℕ) (cs : List Collection) (time : ℕ) (asked : Plan) : Type 0 where
  pub own : Plan
  pub found : plan_in number cs ≡ Some own
  pub rows : plan_at log own time ≡ plan_at log asked time

-- the next collection is made for the read, with its plan
served_next : (log : Log) → Legal log → (collection peek cluster time : ℕ) (asked : Plan) → collection ≡ length (collections log) + 1
    → IsServed log collection (with_read collection peek cluster asked time (collections log)) time asked
served_next log l collection peek cluster time asked is = record {
  own = asked;
  found = ap (plan_in collection) (cond-true (collection == length (collections log) + 1) _ _ (eq-eqb collection (length (collections log) + 1) is))
      ∙ plan_past collection (length (collections log)) (collections log) _ (collections_fit log l).numbers (omega (arith, is))
      ∙ cond-true (length (collections log) + 1 == collection) _ _ (eq-eqb (length (collections log) + 1) collection (sym is));
  rows = refl;
}

-- ---- an index

-- a collection is found under its number, has its plan, and is a leaf of a plan that reads one item
abbrev IsFoundLeaf : Log → ℕ → Collection → Type 0
IsFoundLeaf log item c =
    ((plan_in c.number (collections log) ≡ Some c.plan) × HasPlan (newest_state log) c) × (is_leaf (item ∷ []) c ≡ true)

-- each leaf is so
leaves_found : (log : Log) → Legal log → (item : ℕ) → Each (IsFoundLeaf log item) (filter (is_leaf (item ∷ [])) (collections log))
leaves_found log l item =
    let fits = collections_fit log l in
    each_passed (IsFoundLeaf log item) (is_leaf (item ∷ [])) (collections log)
    (each_weaker (λ c. (plan_in c.number (collections log) ≡ Some c.plan) × HasPlan (newest_state log) c)
    (λ c. is_leaf (item ∷ []) c ≡ true → IsFoundLeaf log item c) (λ c h test. (h, test)) (collections log)
    (each_both (λ c. plan_in c.number (collections log) ≡ Some c.plan) (HasPlan (newest_state log)) (collections log) fits.found fits.plans))

-- a leaf that reads one item is its collection, and present
pub record IsPresentOf (item : ℕ) (c : Collection) : Type 0 where
  pub present : is_in_catalog c ≡ true
  pub own : item ≡ c.item

-- so it is
leaf_of : (item : ℕ) (c : Collection) → is_leaf (item ∷ []) c ≡ true → IsPresentOf item c
leaf_of item c test =
    let parts = and_parts (is_in_catalog c) ((item == c.item) || false) test in
    record { present = parts.0; own = eqb-true item c.item (first (item == c.item) parts.1) }
  where
    first : (b : Bool) → (b || false) ≡ true → b ≡ true
    first true h = refl
    first false h = h

-- the plan of an index that is there gives what the index does
index_rows_at : (log : Log) → Legal log → (time number : ℕ) (own : Plan) → Has (number, own) (state_at log time).plans
    → plan_at log own time ≡ plan_at log (plan.Index number) time
index_rows_at log l time number own there =
    ap bag_of (sym (index_is (table_rows (bags_at log time)) (state_at log time).plans (states_well log l time).over.sound.order (number, own)
    (contains_from (number, own) (state_at log time).plans there)))

-- an index of the newest state has the plan of its collection
own_plan : (log : Log) (item : ℕ) (c : Collection) → IsPresentOf item c → HasPlan (newest_state log) c
    → HasItem (record { items = (newest_state log).database.items; cluster = 0 }) (is_index_in 0) item → Has (item, c.plan) (newest_state log).plans
own_plan log item c leaf has there =
    let index = and_parts (there.item.cluster == 0) (is_index there.item.kind) (of_true (is_index_in 0 there.item) there.passes) in
    subst (λ n. Has (n, c.plan) (newest_state log).plans) (sym leaf.own)
    (each_has (λ other. other.id ≡ c.item → is_index other.kind ≡ true → Has (c.item, c.plan) (newest_state log).plans) there.item
    (newest_state log).database.items (has leaf.present).own
    (has_from there.item (newest_state log).database.items there.there) (there.numbered ∙ leaf.own) index.1)
  where
    of_true : (b : Bool) → IsTrue b → b ≡ true
    of_true true h = refl
    of_true false h = absurd (cc)

-- a read of an index that is there reads its collection, or where that isn't present one that is made for it
served_index : (log : Log) → Legal log → (collection peek cluster time item : ℕ) → IsNewest log time
    → HasItem (record { items = (newest_state log).database.items; cluster = 0 }) (is_index_in 0) item
    → (leaves : List Collection) → Each (IsFoundLeaf log item) leaves → collection ≡ first_or_next (map (λ c. c.number) leaves) (collections log)
    → IsServed log collection (with_read collection peek cluster (plan.Index item) time (collections log)) time (plan.Index item)
served_index log l collection peek cluster time item newest there [] found is =
    served_next log l collection peek cluster time (plan.Index item) is
served_index log l collection peek cluster time item newest there (c ∷ others) found is = record {
  own = c.plan;
  found = found_read collection c.plan collection peek cluster (plan.Index item) time (collections log)
      (ap (λ n. plan_in n (collections log)) is ∙ found.0.0.0);
  rows = index_rows_at log l time item c.plan
      (subst (Has (item, c.plan)) (sym newest.plans) (own_plan log item c (leaf_of item c found.0.1) found.0.0.1 there));
}

-- so each read is served
pub read_served : (log : Log) → Legal log → (collection peek cluster time : ℕ) → IsNewest log time → (asked : Plan)
    → IsOfScope (record { items = (newest_state log).database.items; cluster = 0 }) asked → collection ≡ target asked (collections log)
    → IsServed log collection (with_read collection peek cluster asked time (collections log)) time asked
read_served log l collection peek cluster time newest (plan.Index item) of is =
    served_index log l collection peek cluster time item newest of (filter (is_leaf (item ∷ [])) (collections log)) (leaves_found log l item) is
read_served log l collection peek cluster time newest asked of is = served_next log l collection peek cluster time asked is
