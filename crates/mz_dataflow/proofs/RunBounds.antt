-- Runs over few tables, none of which is large, are within the bound.
use Rattle.std.proofs.Common.{◌≡◌, ℕ, zero, suc, ◌+◌, ◌≤◌, ◌^◌, nat_le, add-one, Bool, true, false, cond, ◌+ℤ◌, List, [], ◌∷◌, ◌++◌, length, refl, sym, ap, ◌∙◌, le_trans, arith}
use Rattle.std.proofs.lemmas.Int.{ints}
use Rattle.std.proofs.lemmas.List.{length-append}
use Rattle.std.specs.List.{AllByRecursion as Each}
use Rattle.mz_bag.specs.Mass.{mass, IsLight}
use Rattle.mz_bag.specs.Weighted.{count}
use Rattle.mz_plan.specs.Leaves.{leaves_of}
use Rattle.mz_plan.specs.Meaning.{Leaves}
use Rattle.mz_plan.specs.Small.{most_rows, most_tables, tables_read}
use Rattle.mz_plan.specs.declared.plan.Plan.{Plan, Table, Index, Filter', Project', Join', Union', Group', Distinct', more_of-Plan, end_of-Plan}
use Rattle.mz_plan_laws.specs.Alike.{Alike, AreAlike}
use Rattle.mz_plan_laws.proofs.LeafLaws.{leaves_listed}
use Rattle.mz_updates.specs.declared.update.Update.{Update}
use Rattle.mz_updates.specs.Contents.{changes, contents, up_to, weights, IsBefore, IsFrom}
use Rattle.mz_updates.proofs.ContentsLaws.{contents-from}
use Rattle.mz_dataflow.specs.Built.{AreFew}
use Rattle.mz_dataflow.specs.Flow.{weights_of, LeafUpdates}
use Rattle.mz_dataflow.specs.Stands.{offers_of, CanRunTo, Stands}
use Rattle.mz_dataflow.specs.declared.dataflow.Dataflow.{Dataflow}
use Rattle.mz_dataflow.proofs.PlanLoads.{few_light, plan_bears}
use Rattle.mz_dataflow.proofs.Sums.{contents_behind, rows_on}

-- rows that count as the updates do go on by what was offered
rows_next : (upper : ℕ) (rows : ℕ → Leaves) (us given : LeafUpdates) → ((item : ℕ) → IsBefore upper (us item)) → ((item : ℕ) → IsFrom upper (given item))
    → AreAlike (rows upper) (weights_of us)
    → ((t item : ℕ) → upper ≤ t → Alike (rows (t + 1) item) (contents t (us item ++ given item)))
    → (t item : ℕ) → upper ≤ t → Alike (rows (t + 1) item) (rows t item ++ changes t (given item))
rows_next upper rows us given early from start alike t item low =
    rows_on t upper (given item) (λ s. rows s item) (from item)
    (λ s q l. alike s item l q ∙ contents_behind s upper (us item) (given item) q (early item) (omega (arith, l))
    ∙ ap (λ z. z +ℤ count q (contents s (given item))) (sym (start item q)))
    low

-- so where the leaves have few rows before each time, the run is within the bound
pub over_few : (plan : Plan) (flow : Dataflow) (us : LeafUpdates) (next : ℕ) (reads : ℕ → ℕ) (rows : ℕ → Leaves) → Stands plan flow us
    → flow.output.upper ≤ next → ((item : ℕ) → IsFrom flow.output.upper (offers_of flow item)) → ((item : ℕ) → IsBefore next (offers_of flow item))
    → AreAlike (rows flow.output.upper) (weights_of us)
    → ((t item : ℕ) → flow.output.upper ≤ t → Alike (rows (t + 1) item) (contents t (us item ++ offers_of flow item)))
    → ((t item : ℕ) → flow.output.upper ≤ t → IsLight (rows t item)) → tables_read reads plan ≤ most_tables
    → ((t : ℕ) → flow.output.upper ≤ t → AreFew reads (rows t) plan) → CanRunTo flow next
over_few plan flow us next reads rows s later from before start alike light few each = record {
  plan = plan;
  us = us;
  stands = s.stands;
  listed = s.listed;
  later = later;
  from = from;
  before = before;
  rows = rows;
  start = λ item q. start item q;
  on = rows_next flow.output.upper rows us (offers_of flow) s.stands.leaves.early from start alike;
  light = light;
  made = λ t low. few_light reads (rows t) plan few (each t low);
  loads = λ t low high. plan_bears reads (rows t) (rows (t + 1)) plan few (each t low) (each (t + 1) (omega (arith, low)));
}

-- ---- few updates in all

-- a plan reads as many tables as it names leaves, where each index reads one
leaves_read : (plan : Plan) → tables_read (λ item. 1) plan ≡ length (leaves_of plan)
leaves_read (Table item) = refl
leaves_read (Index item) = refl
leaves_read (Filter' s (more_of-Plan plan end_of-Plan) cond) = leaves_read plan
leaves_read (Project' s (more_of-Plan plan end_of-Plan) places) = leaves_read plan
leaves_read (Join' s (more_of-Plan left end_of-Plan) r (more_of-Plan right end_of-Plan) pairs) =
    omega (arith, leaves_read left, leaves_read right, length-append (leaves_of left) (leaves_of right))
leaves_read (Union' s (more_of-Plan left end_of-Plan) r (more_of-Plan right end_of-Plan)) =
    omega (arith, leaves_read left, leaves_read right, length-append (leaves_of left) (leaves_of right))
leaves_read (Group' s (more_of-Plan plan end_of-Plan) places aggregates) = leaves_read plan
leaves_read (Distinct' s (more_of-Plan plan end_of-Plan)) = leaves_read plan

each_number : (P : ℕ → Type 0) (items : List ℕ) → ((item : ℕ) → P item) → Each P items
each_number P [] all = tt
each_number P (item ∷ items) all = (all item, each_number P items all)

-- leaves with no more rows than a table are few
all_few : (leaves : Leaves) (plan : Plan) → ((item : ℕ) → mass (leaves item) ≤ most_rows) → AreFew (λ item. 1) leaves plan
all_few leaves plan few =
    leaves_listed (λ item. mass (leaves item) ≤ most_rows) (λ item. (1 ≤ 1) × (mass (leaves item) ≤ most_rows ^ 1)) plan
    (each_number (λ item. mass (leaves item) ≤ most_rows) (leaves_of plan) few)
    (each_number (λ item. (1 ≤ 1) × (mass (leaves item) ≤ most_rows ^ 1)) (leaves_of plan) (λ item. (omega arith, omega (arith, few item))))

-- what updates contain weighs no more than all of them
mass_contents : (t : ℕ) (us : List Update) → mass (contents t us) ≤ mass (weights us)
mass_contents t [] = omega arith
mass_contents t (u ∷ us) = by (nat_le u.time t) (mass_contents t us)
  where
    by : (c : Bool) → mass (contents t us) ≤ mass (weights us) → mass (weights (cond c (u ∷ up_to t us) (up_to t us))) ≤ mass (weights (u ∷ us))
    by true h = omega (arith, h)
    by false h = omega (arith, h)

-- what the leaves contain before a time
abbrev rows_before : LeafUpdates → ℕ → Leaves
rows_before us zero item = []
rows_before us (suc t) item = contents t (us item)

-- which at the upper counts as all that was told
upper_alike : (upper : ℕ) (us given : LeafUpdates) (item : ℕ) → IsBefore upper (us item) → IsFrom upper (given item)
    → Alike (rows_before (λ leaf. us leaf ++ given leaf) upper item) (weights (us item))
upper_alike zero us given item early from = λ q. ap (count q) (none (us item) early)
  where
    none : (vs : List Update) → IsBefore zero vs → [] ≡ weights vs
    none [] h = refl
    none (v ∷ vs) h = absurd (omega (arith, h.each.0))
upper_alike (suc t) us given item early from = λ q.
    contents_behind t (suc t) (us item) (given item) q early (omega arith)
    ∙ ap (λ ws. count q (weights (us item)) +ℤ count q ws) (contents-from t (suc t) (given item) from (omega arith))
    ∙ omega (arith, ints)

-- and weighs little where all does
little_before : (us : LeafUpdates) (t item : ℕ) → mass (weights (us item)) ≤ most_rows → mass (rows_before us t item) ≤ most_rows
little_before us zero item h = omega arith
little_before us (suc t) item h = le_trans (mass_contents t (us item)) h

-- so where all that was ever offered weighs little, the run is within the bound
pub of_few : (plan : Plan) (flow : Dataflow) (us : LeafUpdates) (next : ℕ) → Stands plan flow us → flow.output.upper ≤ next
    → ((item : ℕ) → IsFrom flow.output.upper (offers_of flow item)) → ((item : ℕ) → IsBefore next (offers_of flow item))
    → length (leaves_of plan) ≤ most_tables → ((item : ℕ) → mass (weights (us item ++ offers_of flow item)) ≤ most_rows) → CanRunTo flow next
of_few plan flow us next s later from before few little =
    over_few plan flow us next (λ item. 1) (rows_before (λ item. us item ++ offers_of flow item)) s later from before
    (λ item. upper_alike flow.output.upper us (offers_of flow) item (s.stands.leaves.early item) (from item))
    (λ t item low q. (λ i. count q (rows_before (λ leaf. us leaf ++ offers_of flow leaf) (add-one t i) item)))
    (λ t item low. record { within = le_trans (little_before (λ leaf. us leaf ++ offers_of flow leaf) t item (little item)) (omega arith) })
    (omega (arith, few, leaves_read plan))
    (λ t low. all_few (rows_before (λ leaf. us leaf ++ offers_of flow leaf) t) plan (λ item. little_before (λ leaf. us leaf ++ offers_of flow leaf) t item (little item)))
