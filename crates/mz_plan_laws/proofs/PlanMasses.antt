-- How much plans weigh at most: a join at most the product of the masses below it, a union their sum, and no other operator
-- more than what is below it. And which lists weigh least.
use Rattle.std.proofs.Common.{◌≡◌, ℕ, zero, suc, ◌+◌, ◌*◌, ◌≤◌, ◌^◌, ◌==◌, Bool, true, false, cond, ℤ, pos, negsuc, neg_ℤ, nat_abs, List, [], ◌∷◌, ◌++◌, refl, sym, ap, ◌∙◌, subst, le_trans, mul-le-mul, mul-le-mul_left, arith}
use Rattle.std.proofs.Math.Nat.{pow-le-pow_right, pow-suc, pow-zero}
use Rattle.std.proofs.lemmas.Int.{ints}
use Rattle.std.proofs.lemmas.Nat.{pow-add}
use Rattle.std.specs.List.{IsDistinct}
use Rattle.std.specs.Map.{keys_of}
use Rattle.mz_value.specs.Row.{row_eq}
use Rattle.mz_bag.proofs.BagLaws.{count-append, count-negated}
use Rattle.mz_bag.proofs.MassLaws.{mass_append}
use Rattle.mz_bag.specs.Mass.{mass}
use Rattle.mz_bag.specs.Weighted.{Weighted, negated}
use Rattle.mz_plan_laws.specs.Alike.{Alike}
use Rattle.mz_plan.specs.Condition.{holds}
use Rattle.mz_plan.specs.Masses.{AreWithin, AreWithinPowers}
use Rattle.mz_plan.specs.Meaning.{Leaves, meaning, index_rows}
use Rattle.mz_plan.specs.Small.{tables_read, index_reads}
use Rattle.mz_plan.specs.declared.plan.Plan.{Plan, Table, Index, Filter', Project', Join', Union', Group', Distinct', more_of-Plan, end_of-Plan}
use Rattle.mz_plan_laws.proofs.Bounds.{least_mass, mass_filtered, mass_joined, mass_projected}
use Rattle.mz_plan.proofs.SumRules.{mass_weighed}
use Rattle.mz_plan_laws.proofs.SmallPlans.{mass_distinct, mass_grouped}

-- ---- the lightest list

-- of two lists that count alike, the one in which no row stands twice has no greater mass
pub least_plain : (es ws : Weighted) → IsDistinct row_eq (keys_of es) → Alike es ws → mass es ≤ mass ws
least_plain es ws apart alike = omega (arith, least_mass (λ row. pos 1) es ws apart alike, mass_weighed es, mass_weighed ws)

-- a negative has the same size
size_negated : (z : ℤ) → nat_abs (neg_ℤ z) ≡ nat_abs z
size_negated (pos zero) = refl
size_negated (pos (suc n)) = refl
size_negated (negsuc n) = refl

-- and negative weights the same mass
pub mass_negated : (ws : Weighted) → mass (negated ws) ≡ mass ws
mass_negated [] = refl
mass_negated (w ∷ ws) = λ i. size_negated w.1 i + mass_negated ws i

-- a change in which no row stands twice weighs at most what was there before and after
pub change_mass : (before after change : Weighted) → IsDistinct row_eq (keys_of change) → Alike after (before ++ change)
    → mass change ≤ mass before + mass after
change_mass before after change apart alike =
    let same : Alike change (negated before ++ after) = λ q.
    omega (arith, ints, alike q, count-append q before change, count-append q (negated before) after, count-negated q before) in
    omega (arith, least_plain change (negated before ++ after) apart same, mass_append (negated before) after, mass_negated before)

-- ---- powers

-- a mass within the power of so many tables, which are one at least
pub record Weighs (most mass reads : ℕ) : Type 0 where
  pub some : 1 ≤ reads
  pub within : mass ≤ most ^ reads

-- the first power of a number is that number
first_power : (n : ℕ) → n ^ 1 ≡ n
first_power n =
    let none : n ^ 0 ≡ 1 = pow-zero n in
    pow-suc n 0 ∙ ap (λ z. z * n) none ∙ omega arith

-- one table weighs within it
weighs_table : (most m : ℕ) → m ≤ most → Weighs most m 1
weighs_table most m h = record { some = omega arith; within = subst (λ n. m ≤ n) (sym (first_power most)) h }

-- what weighs no more weighs within the same
weighs_less : (most m n reads : ℕ) → Weighs most m reads → n ≤ m → Weighs most n reads
weighs_less most m n reads h less = record { some = h.some; within = le_trans less h.within }

-- the powers of a number are at least that number
power_low : (most n : ℕ) → 2 ≤ most → 1 ≤ n → most ≤ most ^ n
power_low most n two some =
    le_trans (weighs_table most most (omega arith)).within (pow-le-pow_right {n = most} (omega (arith, two)) {i = 1} {j = n} some)

-- a sum of two numbers of 2 at least is no greater than their product
sum_product : (x y : ℕ) → 2 ≤ x → 2 ≤ y → x + y ≤ x * y
sum_product zero y h k = absurd (omega (arith, h))
sum_product (suc zero) y h k = absurd (omega (arith, h))
sum_product (suc (suc x)) y h k =
    let once : x * 1 ≤ x * y = mul-le-mul_left x (omega (arith, k)) in
    omega (arith, k, parts x y, once)
  where
    parts : (x y : ℕ) → suc (suc x) * y ≡ x * y + y + y
    parts x y = omega arith

-- a join weighs within the product
pub weighs_product : (most m n a b total : ℕ) → Weighs most m a → Weighs most n b → total ≤ m * n → Weighs most total (a + b)
weighs_product most m n a b total h k within = record {
  some = omega (arith, h.some);
  within = le_trans within (subst (λ z. m * n ≤ z) (sym (pow-add most a b)) (mul-le-mul h.within k.within));
}

-- and a union too
pub weighs_sum : (most m n a b total : ℕ) → 2 ≤ most → Weighs most m a → Weighs most n b → total ≤ m + n → Weighs most total (a + b)
weighs_sum most m n a b total two h k within =
    let first : most ≤ most ^ a = power_low most a two h.some in
    let second : most ≤ most ^ b = power_low most b two k.some in
    let both : most ^ a + most ^ b ≤ most ^ a * most ^ b =
    sum_product (most ^ a) (most ^ b) (omega (arith, two, first)) (omega (arith, two, second)) in
    record { some = omega (arith, h.some); within = omega (arith, within, h.within, k.within, both, pow-add most a b) }

-- ---- plans

-- a plan weighs within the power of the tables that it reads
pub plan_weighs : (most : ℕ) → 2 ≤ most → (tables indexes : Leaves) (by_index : ℕ → ℕ) → ((item : ℕ) → mass (tables item) ≤ most)
    → ((item : ℕ) → Weighs most (mass (indexes item)) (by_index item))
    → (plan : Plan) → Weighs most (mass (meaning tables indexes plan)) (tables_read by_index plan)
plan_weighs most two tables indexes by_index h k (Table item) = weighs_table most _ (h item)
plan_weighs most two tables indexes by_index h k (Index item) = k item
plan_weighs most two tables indexes by_index h k (Filter' s (more_of-Plan plan end_of-Plan) keeps) =
    weighs_less _ _ _ _ (plan_weighs most two tables indexes by_index h k plan) (mass_filtered (holds keeps) (meaning tables indexes plan))
plan_weighs most two tables indexes by_index h k (Project' s (more_of-Plan plan end_of-Plan) places) =
    weighs_less _ _ _ _ (plan_weighs most two tables indexes by_index h k plan)
    (omega (arith, mass_projected places (meaning tables indexes plan)))
plan_weighs most two tables indexes by_index h k (Join' s (more_of-Plan left end_of-Plan) r (more_of-Plan right end_of-Plan) pairs) =
    weighs_product _ _ _ _ _ _ (plan_weighs most two tables indexes by_index h k left)
    (plan_weighs most two tables indexes by_index h k right)
    (mass_joined pairs (meaning tables indexes left) (meaning tables indexes right))
plan_weighs most two tables indexes by_index h k (Union' s (more_of-Plan left end_of-Plan) r (more_of-Plan right end_of-Plan)) =
    weighs_sum _ _ _ _ _ _ two (plan_weighs most two tables indexes by_index h k left)
    (plan_weighs most two tables indexes by_index h k right)
    (omega (arith, mass_append (meaning tables indexes left) (meaning tables indexes right)))
plan_weighs most two tables indexes by_index h k (Group' s (more_of-Plan plan end_of-Plan) places aggregates) =
    weighs_less _ _ _ _ (plan_weighs most two tables indexes by_index h k plan)
    (mass_grouped places aggregates (meaning tables indexes plan))
plan_weighs most two tables indexes by_index h k (Distinct' s (more_of-Plan plan end_of-Plan)) =
    weighs_less _ _ _ _ (plan_weighs most two tables indexes by_index h k plan) (mass_distinct (meaning tables indexes plan))

-- and so does an index
pub index_weighs : (most : ℕ) → 2 ≤ most → (tables : Leaves) → ((item : ℕ) → mass (tables item) ≤ most) → (plans : List (ℕ × Plan))
    (item : ℕ) → Weighs most (mass (index_rows tables plans item)) (index_reads plans item)
index_weighs most two tables h [] item = weighs_table most 0 (omega (arith, two))
index_weighs most two tables h (newest ∷ older) item =
    by (newest.0 == item)
    (plan_weighs most two tables (index_rows tables older) (index_reads older) h (index_weighs most two tables h older) newest.1)
    (index_weighs most two tables h older item)
  where
    by : (c : Bool) → Weighs most (mass (meaning tables (index_rows tables older) newest.1)) (tables_read (index_reads older) newest.1)
        → Weighs most (mass (index_rows tables older item)) (index_reads older item)
        → Weighs most (mass (cond c (meaning tables (index_rows tables older) newest.1) (index_rows tables older item)))
        (cond c (tables_read (index_reads older) newest.1) (index_reads older item))
    by true g l = g
    by false g l = l

-- ---- the words of the laws

-- what each item weighs
pub weighs_each : (most : ℕ) (reads : ℕ → ℕ) (leaves : Leaves) → AreWithinPowers most reads leaves
    → (item : ℕ) → Weighs most (mass (leaves item)) (reads item)
weighs_each most reads leaves h item = record { some = h.some item; within = h.within item }

-- a plan over leaves that weigh so much
pub plan_mass : (most : ℕ) → 2 ≤ most → (tables indexes : Leaves) (by_index : ℕ → ℕ) → AreWithin most tables
    → AreWithinPowers most by_index indexes → (plan : Plan) → mass (meaning tables indexes plan) ≤ most ^ tables_read by_index plan
plan_mass most two tables indexes by_index h k plan =
    (plan_weighs most two tables indexes by_index h.within (weighs_each most by_index indexes k) plan).within

-- the indexes over tables that weigh so much
pub index_mass : (most : ℕ) → 2 ≤ most → (tables : Leaves) → AreWithin most tables → (plans : List (ℕ × Plan))
    → AreWithinPowers most (index_reads plans) (index_rows tables plans)
index_mass most two tables h plans = record {
  some = λ item. (index_weighs most two tables h.within plans item).some;
  within = λ item. (index_weighs most two tables h.within plans item).within;
}
