-- A plan over few tables, none of which is large, has loads within the bound.
use Rattle.std.proofs.Common.{ℕ, ◌+◌, ◌≤◌, ◌^◌, le_trans, arith}
use Rattle.std.proofs.Math.Nat.{pow-le-pow_right}
use Rattle.mz_bag.specs.Mass.{mass, IsLight}
use Rattle.mz_bag.proofs.MassLaws.{mass_append}
use Rattle.mz_plan.specs.Condition.{holds}
use Rattle.mz_plan.specs.Meaning.{Leaves}
use Rattle.mz_plan.specs.Operators.{filtered}
use Rattle.mz_plan.specs.Small.{most_rows, most_tables, tables_read}
use Rattle.mz_plan.specs.declared.plan.Plan.{Plan, Table, Index, Filter', Project', Join', Union', Group', Distinct', more_of-Plan, end_of-Plan}
use Rattle.mz_plan_laws.proofs.Bounds.{mass_filtered, mass_joined, mass_projected}
use Rattle.mz_plan_laws.proofs.JoinLoads.{join_load}
use Rattle.mz_plan_laws.proofs.PlanMasses.{weighs_product, weighs_sum, Weighs}
use Rattle.mz_plan_laws.proofs.SmallPlans.{mass_distinct, mass_grouped}
use Rattle.mz_reduce.specs.Grouping.{sums_ints}
use Rattle.mz_reduce.proofs.FewTables.{distinct_few, group_few}
use Rattle.mz_dataflow.specs.Built.{bears_plan, meaning_of_ints, AreFew}

-- what weighs no more weighs within the same
lighter : (m n reads : ℕ) → Weighs most_rows m reads → n ≤ m → Weighs most_rows n reads
lighter m n reads h less = record { some = h.some; within = le_trans less h.within }

-- the rows of a plan weigh within the power of the tables that it reads
ints_weigh : (reads : ℕ → ℕ) (leaves : Leaves) (plan : Plan) → AreFew reads leaves plan
    → Weighs most_rows (mass (meaning_of_ints leaves plan)) (tables_read reads plan)
ints_weigh reads leaves (Table item) h = record { some = omega arith; within = omega (arith, h) }
ints_weigh reads leaves (Index item) h = record { some = h.0; within = h.1 }
ints_weigh reads leaves (Filter' s (more_of-Plan plan end_of-Plan) cond) h =
    lighter _ _ _ (ints_weigh reads leaves plan h) (mass_filtered (holds cond) (meaning_of_ints leaves plan))
ints_weigh reads leaves (Project' s (more_of-Plan plan end_of-Plan) places) h =
    lighter _ _ _ (ints_weigh reads leaves plan h) (omega (arith, mass_projected places (meaning_of_ints leaves plan)))
ints_weigh reads leaves (Join' s (more_of-Plan left end_of-Plan) r (more_of-Plan right end_of-Plan) pairs) h =
    weighs_product _ _ _ _ _ _ (ints_weigh reads leaves left h.0) (ints_weigh reads leaves right h.1)
    (mass_joined pairs (meaning_of_ints leaves left) (meaning_of_ints leaves right))
ints_weigh reads leaves (Union' s (more_of-Plan left end_of-Plan) r (more_of-Plan right end_of-Plan)) h =
    weighs_sum _ _ _ _ _ _ (omega arith) (ints_weigh reads leaves left h.0) (ints_weigh reads leaves right h.1)
    (omega (arith, mass_append (meaning_of_ints leaves left) (meaning_of_ints leaves right)))
ints_weigh reads leaves (Group' s (more_of-Plan plan end_of-Plan) places aggregates) h =
    lighter _ _ _ (ints_weigh reads leaves plan h)
    (le_trans (mass_grouped places aggregates (filtered (sums_ints aggregates) (meaning_of_ints leaves plan)))
    (mass_filtered (sums_ints aggregates) (meaning_of_ints leaves plan)))
ints_weigh reads leaves (Distinct' s (more_of-Plan plan end_of-Plan)) h =
    lighter _ _ _ (ints_weigh reads leaves plan h) (mass_distinct (meaning_of_ints leaves plan))

-- a power of what a table may have, of few tables
power_few : (tables : ℕ) → tables ≤ most_tables → most_rows ^ tables ≤ most_rows ^ most_tables
power_few tables few = pow-le-pow_right {n = most_rows} (omega arith) {i = tables} {j = most_tables} few

-- so the rows of a plan that reads few tables are light
pub few_light : (reads : ℕ → ℕ) (leaves : Leaves) (plan : Plan) → tables_read reads plan ≤ most_tables → AreFew reads leaves plan
    → IsLight (meaning_of_ints leaves plan)
few_light reads leaves plan few h = record {
  within = omega (arith, (ints_weigh reads leaves plan h).within, power_few (tables_read reads plan) few);
}

-- a change of what reads few tables
sum_few : (tables old new : ℕ) → tables ≤ most_tables → old ≤ most_rows ^ tables → new ≤ most_rows ^ tables → old + new + 0 ≤ 2 ^ 100
sum_few tables old new few h k = omega (arith, h, k, power_few tables few)

-- and of two
both_few : (j k a b m n : ℕ) → j + k ≤ most_tables → a ≤ most_rows ^ j → b ≤ most_rows ^ j → m ≤ most_rows ^ k → n ≤ most_rows ^ k
    → (a + b) + (m + n) ≤ 2 ^ 100
both_few j k a b m n few f g h i = omega (arith, f, g, h, i, power_few j (omega (arith, few)), power_few k (omega (arith, few)))

-- so the loads of its operators are within the bound
pub plan_bears : (reads : ℕ → ℕ) (before after : Leaves) (plan : Plan) → tables_read reads plan ≤ most_tables
    → AreFew reads before plan → AreFew reads after plan → bears_plan before after plan
plan_bears reads before after (Table item) few h k = tt
plan_bears reads before after (Index item) few h k = tt
plan_bears reads before after (Filter' s (more_of-Plan plan end_of-Plan) cond) few h k = (
  sum_few (tables_read reads plan) _ _ few (ints_weigh reads before plan h).within (ints_weigh reads after plan k).within,
  plan_bears reads before after plan few h k,
)
plan_bears reads before after (Project' s (more_of-Plan plan end_of-Plan) places) few h k = (
  sum_few (tables_read reads plan) _ _ few (ints_weigh reads before plan h).within (ints_weigh reads after plan k).within,
  plan_bears reads before after plan few h k,
)
plan_bears reads before after (Join' s (more_of-Plan left end_of-Plan) r (more_of-Plan right end_of-Plan) pairs) few h k =
    let a = (ints_weigh reads before left h.0).within in
    let b = (ints_weigh reads after left k.0).within in
    let m = (ints_weigh reads before right h.1).within in
    let n = (ints_weigh reads after right k.1).within in (
      join_load (tables_read reads left) (tables_read reads right) _ _ _ _ few a m (omega (arith, a, b)) (omega (arith, m, n)),
      plan_bears reads before after left (omega (arith, few)) h.0 k.0,
      plan_bears reads before after right (omega (arith, few)) h.1 k.1,
    )
plan_bears reads before after (Union' s (more_of-Plan left end_of-Plan) r (more_of-Plan right end_of-Plan)) few h k = (
  both_few (tables_read reads left) (tables_read reads right) _ _ _ _ few (ints_weigh reads before left h.0).within
      (ints_weigh reads after left k.0).within (ints_weigh reads before right h.1).within (ints_weigh reads after right k.1).within,
  plan_bears reads before after left (omega (arith, few)) h.0 k.0,
  plan_bears reads before after right (omega (arith, few)) h.1 k.1,
)
plan_bears reads before after (Group' s (more_of-Plan plan end_of-Plan) places aggregates) few h k =
    let a = (ints_weigh reads before plan h).within in
    let b = (ints_weigh reads after plan k).within in
    (group_few (tables_read reads plan) _ _ few a (omega (arith, a, b)), plan_bears reads before after plan few h k)
plan_bears reads before after (Distinct' s (more_of-Plan plan end_of-Plan)) few h k =
    let a = (ints_weigh reads before plan h).within in
    let b = (ints_weigh reads after plan k).within in
    (distinct_few (tables_read reads plan) _ _ few a (omega (arith, a, b)), plan_bears reads before after plan few h k)
