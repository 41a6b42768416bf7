-- Only the leaves that a plan names count, and a plan with its leaves renamed means what it means over renamed leaves.
use Rattle.std.proofs.Common.{◌≡◌, ◌<◌, ◌↔◌, ◌∙◌, ℕ, List, [], ◌∷◌, ◌++◌, map, refl, sym, ap}
use Rattle.std.proofs.lemmas.List.{map-append}
use Rattle.std.specs.List.{AllByRecursion as Each}
use Rattle.mz_bag.specs.Weighted.{Weighted, count}
use Rattle.mz_plan.specs.Condition.{holds}
use Rattle.mz_plan.specs.Leaves.{AllBelow, AllLeaves, leaves_of, renamed}
use Rattle.mz_plan.specs.Meaning.{Leaves, meaning}
use Rattle.mz_plan.specs.Operators.{distinct, filtered, grouped, joined, projected}
use Rattle.mz_plan.specs.declared.plan.Plan.{Plan, Table, Index, Filter', Project', Join', Union', Group', Distinct', more_of-Plan, end_of-Plan}
use Rattle.mz_plan.proofs.LeafRules.{leaves_of_filter, leaves_of_project, leaves_of_join, leaves_of_union, leaves_of_group, leaves_of_distinct}
use Rattle.mz_plan.proofs.PlanRules.{meaning_of_filter, meaning_of_project, meaning_of_join, meaning_of_union, meaning_of_group, meaning_of_distinct}
use Rattle.mz_plan_laws.specs.Alike.{Alike}
use Rattle.mz_plan_laws.proofs.MeaningLaws.{grouped_same}
use Rattle.mz_plan_laws.proofs.OperatorLaws.{distinct_same, filter_alike, join_alike, projection_alike, union_alike}
use Rattle.mz_plan_laws.proofs.TypedValues.{each_append}

-- ---- the leaves that a plan names

-- lists that are one count alike
same_alike : (vs ws : Weighted) → vs ≡ ws → Alike vs ws
same_alike vs ws same q = ap (count q) same

-- plans over leaves that count alike, as far as they are named, count alike
pub named_alike : (tables more indexes older : Leaves) (plan : Plan)
    → AllLeaves (λ item. Alike (tables item) (more item)) (λ item. Alike (indexes item) (older item)) plan
    → Alike (meaning tables indexes plan) (meaning more older plan)
named_alike tables more indexes older (Table item) h = h
named_alike tables more indexes older (Index item) h = h
named_alike tables more indexes older (Filter' s (more_of-Plan plan end_of-Plan) keeps) h =
    filter_alike (holds keeps) (meaning tables indexes plan) (meaning more older plan) (named_alike tables more indexes older plan h)
named_alike tables more indexes older (Project' s (more_of-Plan plan end_of-Plan) places) h =
    projection_alike places (meaning tables indexes plan) (meaning more older plan) (named_alike tables more indexes older plan h)
named_alike tables more indexes older (Join' s (more_of-Plan left end_of-Plan) r (more_of-Plan right end_of-Plan) pairs) h =
    join_alike pairs (meaning tables indexes left) (meaning more older left) (meaning tables indexes right) (meaning more older right)
    (named_alike tables more indexes older left h.0) (named_alike tables more indexes older right h.1)
named_alike tables more indexes older (Union' s (more_of-Plan left end_of-Plan) r (more_of-Plan right end_of-Plan)) h =
    union_alike (meaning tables indexes left) (meaning more older left) (meaning tables indexes right) (meaning more older right)
    (named_alike tables more indexes older left h.0) (named_alike tables more indexes older right h.1)
named_alike tables more indexes older (Group' s (more_of-Plan plan end_of-Plan) places aggregates) h =
    same_alike _ _ (grouped_same places aggregates (meaning tables indexes plan) (meaning more older plan)
    (named_alike tables more indexes older plan h))
named_alike tables more indexes older (Distinct' s (more_of-Plan plan end_of-Plan)) h =
    same_alike _ _ (distinct_same (meaning tables indexes plan) (meaning more older plan) (named_alike tables more indexes older plan h))

-- plans over leaves that are the same lists, as far as they are named, give one list
pub named_same : (tables more indexes older : Leaves) (plan : Plan)
    → AllLeaves (λ item. tables item ≡ more item) (λ item. indexes item ≡ older item) plan
    → meaning tables indexes plan ≡ meaning more older plan
named_same tables more indexes older (Table item) h = h
named_same tables more indexes older (Index item) h = h
named_same tables more indexes older (Filter' s (more_of-Plan plan end_of-Plan) keeps) h =
    ap (filtered (holds keeps)) (named_same tables more indexes older plan h)
named_same tables more indexes older (Project' s (more_of-Plan plan end_of-Plan) places) h =
    ap (projected places) (named_same tables more indexes older plan h)
named_same tables more indexes older (Join' s (more_of-Plan left end_of-Plan) r (more_of-Plan right end_of-Plan) pairs) h =
    λ i. joined pairs (named_same tables more indexes older left h.0 i) (named_same tables more indexes older right h.1 i)
named_same tables more indexes older (Union' s (more_of-Plan left end_of-Plan) r (more_of-Plan right end_of-Plan)) h =
    λ i. named_same tables more indexes older left h.0 i ++ named_same tables more indexes older right h.1 i
named_same tables more indexes older (Group' s (more_of-Plan plan end_of-Plan) places aggregates) h =
    ap (grouped places aggregates) (named_same tables more indexes older plan h)
named_same tables more indexes older (Distinct' s (more_of-Plan plan end_of-Plan)) h =
    ap distinct (named_same tables more indexes older plan h)

-- ---- the list of a plan's leaves

-- what holds of the first of two lists, of what holds of both
each_left : (P : ℕ → Type 0) (xs ys : List ℕ) → Each P (xs ++ ys) → Each P xs
each_left P [] ys h = tt
each_left P (x ∷ xs) ys h = (h.0, each_left P xs ys h.1)

-- and of the second
each_right : (P : ℕ → Type 0) (xs ys : List ℕ) → Each P (xs ++ ys) → Each P ys
each_right P [] ys h = h
each_right P (x ∷ xs) ys h = each_right P xs ys h.1

-- what holds of each number in the list holds of each leaf
pub leaves_listed : (P Q : ℕ → Type 0) (plan : Plan) → Each P (leaves_of plan) → Each Q (leaves_of plan) → AllLeaves P Q plan
leaves_listed P Q (Table item) h k = h.0
leaves_listed P Q (Index item) h k = k.0
leaves_listed P Q (Filter' s (more_of-Plan plan end_of-Plan) keeps) h k = leaves_listed P Q plan h k
leaves_listed P Q (Project' s (more_of-Plan plan end_of-Plan) places) h k = leaves_listed P Q plan h k
leaves_listed P Q (Join' s (more_of-Plan left end_of-Plan) r (more_of-Plan right end_of-Plan) pairs) h k = (
  leaves_listed P Q left (each_left P (leaves_of left) (leaves_of right) h) (each_left Q (leaves_of left) (leaves_of right) k),
  leaves_listed P Q right (each_right P (leaves_of left) (leaves_of right) h) (each_right Q (leaves_of left) (leaves_of right) k),
)
leaves_listed P Q (Union' s (more_of-Plan left end_of-Plan) r (more_of-Plan right end_of-Plan)) h k = (
  leaves_listed P Q left (each_left P (leaves_of left) (leaves_of right) h) (each_left Q (leaves_of left) (leaves_of right) k),
  leaves_listed P Q right (each_right P (leaves_of left) (leaves_of right) h) (each_right Q (leaves_of left) (leaves_of right) k),
)
leaves_listed P Q (Group' s (more_of-Plan plan end_of-Plan) places aggregates) h k = leaves_listed P Q plan h k
leaves_listed P Q (Distinct' s (more_of-Plan plan end_of-Plan)) h k = leaves_listed P Q plan h k

-- and back
pub list_of_leaves : (P : ℕ → Type 0) (plan : Plan) → AllLeaves P P plan → Each P (leaves_of plan)
list_of_leaves P (Table item) h = (h, tt)
list_of_leaves P (Index item) h = (h, tt)
list_of_leaves P (Filter' s (more_of-Plan plan end_of-Plan) keeps) h = list_of_leaves P plan h
list_of_leaves P (Project' s (more_of-Plan plan end_of-Plan) places) h = list_of_leaves P plan h
list_of_leaves P (Join' s (more_of-Plan left end_of-Plan) r (more_of-Plan right end_of-Plan) pairs) h =
    each_append P (leaves_of left) (leaves_of right) (list_of_leaves P left h.0) (list_of_leaves P right h.1)
list_of_leaves P (Union' s (more_of-Plan left end_of-Plan) r (more_of-Plan right end_of-Plan)) h =
    each_append P (leaves_of left) (leaves_of right) (list_of_leaves P left h.0) (list_of_leaves P right h.1)
list_of_leaves P (Group' s (more_of-Plan plan end_of-Plan) places aggregates) h = list_of_leaves P plan h
list_of_leaves P (Distinct' s (more_of-Plan plan end_of-Plan)) h = list_of_leaves P plan h

-- plans over leaves that count alike, as far as they are listed
pub listed_alike : (tables more indexes older : Leaves) (plan : Plan) → Each (λ item. Alike (tables item) (more item)) (leaves_of plan)
    → Each (λ item. Alike (indexes item) (older item)) (leaves_of plan)
    → Alike (meaning tables indexes plan) (meaning more older plan)
listed_alike tables more indexes older plan h k =
    named_alike tables more indexes older plan
    (leaves_listed (λ item. Alike (tables item) (more item)) (λ item. Alike (indexes item) (older item)) plan h k)

-- each leaf is below a number exactly where each in the list is
pub listed_below : (limit : ℕ) (plan : Plan) → AllBelow limit plan ↔ Each (λ item. item < limit) (leaves_of plan)
listed_below limit plan =
    (list_of_leaves (λ item. item < limit) plan, λ h. leaves_listed (λ item. item < limit) (λ item. item < limit) plan h h)

-- ---- renamed plans

-- a renamed plan means what the plan means over the leaves of these names
pub meaning_renamed : (name : ℕ → ℕ) (tables indexes : Leaves) (plan : Plan)
    → meaning tables indexes (renamed name plan) ≡ meaning (λ item. tables (name item)) (λ item. indexes (name item)) plan
meaning_renamed name tables indexes (Table item) = refl
meaning_renamed name tables indexes (Index item) = refl
meaning_renamed name tables indexes (Filter' s (more_of-Plan plan end_of-Plan) keeps) =
    meaning_of_filter tables indexes (renamed name plan) keeps ∙ ap (filtered (holds keeps)) (meaning_renamed name tables indexes plan)
meaning_renamed name tables indexes (Project' s (more_of-Plan plan end_of-Plan) places) =
    meaning_of_project tables indexes (renamed name plan) places ∙ ap (projected places) (meaning_renamed name tables indexes plan)
meaning_renamed name tables indexes (Join' s (more_of-Plan left end_of-Plan) r (more_of-Plan right end_of-Plan) pairs) =
    meaning_of_join tables indexes (renamed name left) (renamed name right) pairs
    ∙ (λ i. joined pairs (meaning_renamed name tables indexes left i) (meaning_renamed name tables indexes right i))
meaning_renamed name tables indexes (Union' s (more_of-Plan left end_of-Plan) r (more_of-Plan right end_of-Plan)) =
    meaning_of_union tables indexes (renamed name left) (renamed name right)
    ∙ (λ i. meaning_renamed name tables indexes left i ++ meaning_renamed name tables indexes right i)
meaning_renamed name tables indexes (Group' s (more_of-Plan plan end_of-Plan) places aggregates) =
    meaning_of_group tables indexes (renamed name plan) places aggregates
    ∙ ap (grouped places aggregates) (meaning_renamed name tables indexes plan)
meaning_renamed name tables indexes (Distinct' s (more_of-Plan plan end_of-Plan)) =
    meaning_of_distinct tables indexes (renamed name plan) ∙ ap distinct (meaning_renamed name tables indexes plan)

-- and its leaves are the plan's, renamed
pub leaves_renamed : (name : ℕ → ℕ) (plan : Plan) → leaves_of (renamed name plan) ≡ map name (leaves_of plan)
leaves_renamed name (Table item) = refl
leaves_renamed name (Index item) = refl
leaves_renamed name (Filter' s (more_of-Plan plan end_of-Plan) keeps) =
    leaves_of_filter (renamed name plan) keeps ∙ leaves_renamed name plan
leaves_renamed name (Project' s (more_of-Plan plan end_of-Plan) places) =
    leaves_of_project (renamed name plan) places ∙ leaves_renamed name plan
leaves_renamed name (Join' s (more_of-Plan left end_of-Plan) r (more_of-Plan right end_of-Plan) pairs) =
    leaves_of_join (renamed name left) (renamed name right) pairs ∙ (λ i. leaves_renamed name left i ++ leaves_renamed name right i)
    ∙ sym (map-append name (leaves_of left) (leaves_of right))
leaves_renamed name (Union' s (more_of-Plan left end_of-Plan) r (more_of-Plan right end_of-Plan)) =
    leaves_of_union (renamed name left) (renamed name right) ∙ (λ i. leaves_renamed name left i ++ leaves_renamed name right i)
    ∙ sym (map-append name (leaves_of left) (leaves_of right))
leaves_renamed name (Group' s (more_of-Plan plan end_of-Plan) places aggregates) =
    leaves_of_group (renamed name plan) places aggregates ∙ leaves_renamed name plan
leaves_renamed name (Distinct' s (more_of-Plan plan end_of-Plan)) = leaves_of_distinct (renamed name plan) ∙ leaves_renamed name plan
