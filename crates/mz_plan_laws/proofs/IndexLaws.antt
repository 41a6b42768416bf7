-- An index has the rows of its plan, newer indexes change nothing, and a plan has the same rows without indexes.
use Rattle.std.proofs.Common.{◌≡◌, ◌<◌, ◌≤◌, ◌==◌, ◌∙◌, ℕ, zero, suc, Bool, true, false, cond, List, [], ◌∷◌, ◌++◌, Contains, refl, sym, ap, subst, arith}
use Rattle.std.proofs.lemmas.List.Elements.{All-contains, All-from_recursion}
use Rattle.std.proofs.lemmas.Bool.Decides.{nat_tests}
use Rattle.std.specs.List.{AllByRecursion as Each}
use Rattle.mz_plan.specs.Condition.{holds}
use Rattle.mz_plan.specs.Indexes.{AreNewestFirst, expanded, index_plans}
use Rattle.mz_plan.specs.Leaves.{AllBelow, AllLeaves}
use Rattle.mz_plan.specs.Meaning.{Leaves, index_rows, meaning}
use Rattle.mz_plan.specs.Operators.{distinct, filtered, grouped, joined, projected}
use Rattle.mz_plan.specs.declared.plan.Plan.{Plan, Table, Index, Filter', Project', Join', Union', Group', Distinct', more_of-Plan, end_of-Plan}
use Rattle.mz_plan.proofs.PlanRules.{meaning_of_filter, meaning_of_project, meaning_of_join, meaning_of_union, meaning_of_group, meaning_of_distinct}
use Rattle.mz_plan_laws.proofs.LeafLaws.{named_same}

-- ---- numbers

-- a greater number is another
apart : (limit newest item : ℕ) → limit ≤ newest → item < limit → (newest == item) ≡ false
apart limit newest item h k = grind (arith, nat_tests)

-- a number is itself
itself : (item : ℕ) → (item == item) ≡ true
itself item = grind (arith, nat_tests)

-- ---- newer indexes

-- the rows of an index stay with newer ones
pub rows_stay : (tables : Leaves) (limit : ℕ) (newer older : List (ℕ × Plan)) → Each (λ index. limit ≤ index.0) newer
    → (item : ℕ) → item < limit → index_rows tables (newer ++ older) item ≡ index_rows tables older item
rows_stay tables limit [] older h item below = refl
rows_stay tables limit (newest ∷ newer) older h item below =
    ap (λ c. cond c (meaning tables (index_rows tables (newer ++ older)) newest.1) (index_rows tables (newer ++ older) item))
    (apart limit newest.0 item h.0 below)
    ∙ rows_stay tables limit newer older h.1 item below

-- what holds of all numbers below a limit holds of the leaves of a plan below it
leaves_below : (P Q : ℕ → Type 0) (limit : ℕ) → ((item : ℕ) → item < limit → P item) → ((item : ℕ) → item < limit → Q item)
    → (plan : Plan) → AllBelow limit plan → AllLeaves P Q plan
leaves_below P Q limit h k (Table item) below = h item below
leaves_below P Q limit h k (Index item) below = k item below
leaves_below P Q limit h k (Filter' s (more_of-Plan plan end_of-Plan) keeps) below = leaves_below P Q limit h k plan below
leaves_below P Q limit h k (Project' s (more_of-Plan plan end_of-Plan) places) below = leaves_below P Q limit h k plan below
leaves_below P Q limit h k (Join' s (more_of-Plan left end_of-Plan) r (more_of-Plan right end_of-Plan) pairs) below =
    (leaves_below P Q limit h k left below.0, leaves_below P Q limit h k right below.1)
leaves_below P Q limit h k (Union' s (more_of-Plan left end_of-Plan) r (more_of-Plan right end_of-Plan)) below =
    (leaves_below P Q limit h k left below.0, leaves_below P Q limit h k right below.1)
leaves_below P Q limit h k (Group' s (more_of-Plan plan end_of-Plan) places aggregates) below = leaves_below P Q limit h k plan below
leaves_below P Q limit h k (Distinct' s (more_of-Plan plan end_of-Plan)) below = leaves_below P Q limit h k plan below

-- so do those of a plan that names lesser numbers alone
pub meaning_stays : (tables : Leaves) (limit : ℕ) (newer older : List (ℕ × Plan)) → Each (λ index. limit ≤ index.0) newer → (plan : Plan)
    → AllBelow limit plan → meaning tables (index_rows tables (newer ++ older)) plan ≡ meaning tables (index_rows tables older) plan
meaning_stays tables limit newer older h plan below =
    named_same tables tables (index_rows tables (newer ++ older)) (index_rows tables older) plan
    (leaves_below (λ item. tables item ≡ tables item)
    (λ item. index_rows tables (newer ++ older) item ≡ index_rows tables older item) limit
    (λ item is. refl) (λ item is. rows_stay tables limit newer older h item is) plan below)

-- ---- an index is its plan

-- the newest has the rows of its plan, over all of them too
newest_is : (tables : Leaves) (newest : ℕ × Plan) (older : List (ℕ × Plan)) → AllBelow newest.0 newest.1
    → index_rows tables (newest ∷ older) newest.0 ≡ meaning tables (index_rows tables (newest ∷ older)) newest.1
newest_is tables newest older below =
    ap (λ c. cond c (meaning tables (index_rows tables older) newest.1) (index_rows tables older newest.0)) (itself newest.0)
    ∙ sym (meaning_stays tables newest.0 (newest ∷ []) older (omega arith, tt) newest.1 below)

-- what names lesser numbers than one names lesser numbers than a greater one
lesser_below : (limit more : ℕ) → limit ≤ more → (plan : Plan) → AllBelow limit plan → AllBelow more plan
lesser_below limit more h plan below =
    leaves_below (λ item. item < more) (λ item. item < more) limit (λ item is. omega (arith, h, is)) (λ item is. omega (arith, h, is)) plan
    below

-- the plan of each index names lesser numbers than its own
own_below : (plans : List (ℕ × Plan)) → AreNewestFirst plans → Each (λ index. AllBelow index.0 index.1) plans
own_below [] first = tt
own_below (newest ∷ older) first = (first.0, own_below older first.2)

-- so that of an older index names lesser numbers than the newest's
below_newest : (limit : ℕ) (older : List (ℕ × Plan)) → Each (λ index. index.0 < limit) older → AreNewestFirst older
    → (index : ℕ × Plan) → Contains older index → AllBelow limit index.1
below_newest limit older lesser first index among =
    let less : index.0 < limit = All-contains (λ i. i.0 < limit) older index (All-from_recursion (λ i. i.0 < limit) older lesser) among in
    lesser_below index.0 limit (omega (arith, less)) index.1
    (All-contains (λ i. AllBelow i.0 i.1) older index (All-from_recursion (λ i. AllBelow i.0 i.1) older (own_below older first)) among)

-- an index with this plan is the newest or one of the older ones
pub index_is : (tables : Leaves) (plans : List (ℕ × Plan)) → AreNewestFirst plans → (index : ℕ × Plan) → Contains plans index
    → index_rows tables plans index.0 ≡ meaning tables (index_rows tables plans) index.1
index_is tables [] first index (k, within, is) = absurd (omega (arith, within))
index_is tables (newest ∷ older) first index (zero, within, is) =
    subst (λ i. index_rows tables (newest ∷ older) i.0 ≡ meaning tables (index_rows tables (newest ∷ older)) i.1) is
    (newest_is tables newest older first.0)
index_is tables (newest ∷ older) first index (suc k, within, is) =
    let among : Contains older index = (k, omega (arith, within), is) in
    let lesser : index.0 < newest.0 =
    All-contains (λ i. i.0 < newest.0) older index (All-from_recursion (λ i. i.0 < newest.0) older first.1) among in
    rows_stay tables newest.0 (newest ∷ []) older (omega arith, tt) index.0 lesser
    ∙ index_is tables older first.2 index among
    ∙ sym (meaning_stays tables newest.0 (newest ∷ []) older (omega arith, tt) index.1
    (below_newest newest.0 older first.1 first.2 index among))

-- ---- plans without indexes

-- a plan with other plans in the place of its indexes means what it means over the rows of these
pub meaning_expanded : (of_index : ℕ → Plan) (tables indexes : Leaves) (plan : Plan)
    → meaning tables indexes (expanded of_index plan) ≡ meaning tables (λ item. meaning tables indexes (of_index item)) plan
meaning_expanded of_index tables indexes (Table item) = refl
meaning_expanded of_index tables indexes (Index item) = refl
meaning_expanded of_index tables indexes (Filter' s (more_of-Plan plan end_of-Plan) keeps) =
    meaning_of_filter tables indexes (expanded of_index plan) keeps
    ∙ ap (filtered (holds keeps)) (meaning_expanded of_index tables indexes plan)
meaning_expanded of_index tables indexes (Project' s (more_of-Plan plan end_of-Plan) places) =
    meaning_of_project tables indexes (expanded of_index plan) places
    ∙ ap (projected places) (meaning_expanded of_index tables indexes plan)
meaning_expanded of_index tables indexes (Join' s (more_of-Plan left end_of-Plan) r (more_of-Plan right end_of-Plan) pairs) =
    meaning_of_join tables indexes (expanded of_index left) (expanded of_index right) pairs
    ∙ (λ i. joined pairs (meaning_expanded of_index tables indexes left i) (meaning_expanded of_index tables indexes right i))
meaning_expanded of_index tables indexes (Union' s (more_of-Plan left end_of-Plan) r (more_of-Plan right end_of-Plan)) =
    meaning_of_union tables indexes (expanded of_index left) (expanded of_index right)
    ∙ (λ i. meaning_expanded of_index tables indexes left i ++ meaning_expanded of_index tables indexes right i)
meaning_expanded of_index tables indexes (Group' s (more_of-Plan plan end_of-Plan) places aggregates) =
    meaning_of_group tables indexes (expanded of_index plan) places aggregates
    ∙ ap (grouped places aggregates) (meaning_expanded of_index tables indexes plan)
meaning_expanded of_index tables indexes (Distinct' s (more_of-Plan plan end_of-Plan)) =
    meaning_of_distinct tables indexes (expanded of_index plan) ∙ ap distinct (meaning_expanded of_index tables indexes plan)

-- no item has a row
abbrev pub no_rows : Leaves
no_rows item = []

-- the plan of an index over tables alone has the rows of the index
index_expanded : (tables : Leaves) (plans : List (ℕ × Plan)) (item : ℕ)
    → meaning tables no_rows (index_plans plans item) ≡ index_rows tables plans item
index_expanded tables [] item = refl
index_expanded tables (newest ∷ older) item =
    by (newest.0 == item)
    (meaning_expanded (index_plans older) tables no_rows newest.1
    ∙ (λ i. meaning tables (λ other. index_expanded tables older other i) newest.1))
    (index_expanded tables older item)
  where
    by : (c : Bool) → meaning tables no_rows (expanded (index_plans older) newest.1) ≡ meaning tables (index_rows tables older) newest.1
        → meaning tables no_rows (index_plans older item) ≡ index_rows tables older item
        → meaning tables no_rows (cond c (expanded (index_plans older) newest.1) (index_plans older item))
        ≡ cond c (meaning tables (index_rows tables older) newest.1) (index_rows tables older item)
    by true g l = g
    by false g l = l

-- a plan without indexes has the same rows
pub plan_expanded : (tables : Leaves) (plans : List (ℕ × Plan)) (plan : Plan)
    → meaning tables no_rows (expanded (index_plans plans) plan) ≡ meaning tables (index_rows tables plans) plan
plan_expanded tables plans plan =
    meaning_expanded (index_plans plans) tables no_rows plan ∙ (λ i. meaning tables (λ item. index_expanded tables plans item i) plan)
