-- A plan counts no row below 0 where its leaves count none so.
use Rattle.std.proofs.Common.{◌≡◌, ◌∙◌, ◌==◌, ℕ, Bool, true, false, cond, ◌&&◌, ℤ, pos, negsuc, ◌+ℤ◌, ◌*ℤ◌, ◌≤ℤ◌, List, [], ◌∷◌, ◌++◌, take, length, refl, sym, ap, subst, arith}
use Rattle.std.proofs.Math.IntN.{pos-*ℤ-pos}
use Rattle.std.proofs.lemmas.Int.{ints}
use Rattle.std.specs.FinMap.{entries}
use Rattle.std.specs.List.{AllByRecursion as Each, IsDistinct}
use Rattle.std.specs.Map.{keys_of}
use Rattle.std.specs.Ordering.{int_eq}
use Rattle.mz_value.specs.Row.{row_eq}
use Rattle.mz_value.specs.RowOrder.{row_eq-Decides}
use Rattle.mz_value.specs.declared.datum.Datum.{Datum}
use Rattle.mz_bag.proofs.BagLaws.{IsDistinct-entries, count-append, count-entries, count_in-bag_of}
use Rattle.mz_bag.specs.Weighted.{Weighted, bag_of, count}
use Rattle.mz_plan.specs.Aggregate.{weigh}
use Rattle.mz_plan.specs.Condition.{holds}
use Rattle.mz_plan.specs.Leaves.{AllLeaves}
use Rattle.mz_plan.specs.Meaning.{Leaves, index_rows, meaning}
use Rattle.mz_plan.specs.Operators.{distinct, filtered, group_row, grouped, joined, joins, projected}
use Rattle.mz_plan.specs.Signs.{IsNotNegative}
use Rattle.mz_plan.specs.Value.{cells}
use Rattle.mz_plan.specs.declared.aggregate.Aggregate.{Aggregate}
use Rattle.mz_plan.specs.declared.plan.Plan.{Plan, Table, Index, Filter', Project', Join', Union', Group', Distinct', more_of-Plan, end_of-Plan}
use Rattle.mz_plan_laws.specs.Alike.{is_group, one_if}
use Rattle.mz_plan_laws.proofs.Bounds.{absent}
use Rattle.mz_plan_laws.proofs.GroupLaws.{count_grouped}
use Rattle.mz_plan_laws.proofs.OperatorLaws.{count_distinct, count_joined, count_projected, of_pair}
use Rattle.mz_plan_laws.proofs.RowTypes.{all_leaves}
use Rattle.mz_plan_laws.proofs.Weighing.{count_filtered, row_itself, weigh_alike}

-- ---- sums of what isn't negative

-- a product of two numbers that aren't negative isn't
times_not : (a b : ℤ) → pos 0 ≤ℤ a → pos 0 ≤ℤ b → pos 0 ≤ℤ (a *ℤ b)
times_not (pos m) (pos n) h k = subst (λ z. pos 0 ≤ℤ z) (sym (pos-*ℤ-pos m n)) (omega (arith, ints))
times_not (pos m) (negsuc n) h k = absurd (omega (arith, ints, k))
times_not (negsuc m) b h k = absurd (omega (arith, ints, h))

-- nor is a choice
choice_not : (c : Bool) (x : ℤ) → pos 0 ≤ℤ x → pos 0 ≤ℤ cond c x (pos 0)
choice_not true x h = h
choice_not false x h = omega (arith, ints)

-- nor is 1 or 0
one_if_not : (c : Bool) → pos 0 ≤ℤ one_if c
one_if_not c = choice_not c (pos 1) (omega (arith, ints))

-- where no row stands twice and no count is negative, no weight is
weights_not : (es : Weighted) → IsDistinct row_eq (keys_of es) → ((q : List Datum) → pos 0 ≤ℤ count q es) → Each (λ e. pos 0 ≤ℤ e.1) es
unfolding IsDistinct
weights_not [] apart h = tt
weights_not (e ∷ es) apart h =
    let none : count e.0 es ≡ pos 0 = absent e.0 es apart.0 in
    let own : count e.0 (e ∷ es) ≡ e.1 = ap (λ c. cond c e.1 (pos 0) +ℤ count e.0 es) (row_itself e.0) ∙ omega (arith, ints, none) in
    (subst (λ z. pos 0 ≤ℤ z) own (h e.0), weights_not es apart.1 (λ q. passed q (row_eq q e.0) refl (h q)))
  where
    passed : (q : List Datum) (c : Bool) → row_eq q e.0 ≡ c → pos 0 ≤ℤ count q (e ∷ es) → pos 0 ≤ℤ count q es
    passed q true is k =
        let gone : count q es ≡ pos 0 = ap (λ r. count r es) ((row_eq-Decides q e.0).0 is) ∙ absent e.0 es apart.0 in
        omega (arith, ints, gone)
    passed q false is k =
        let same : count q (e ∷ es) ≡ pos 0 +ℤ count q es = ap (λ c. cond c e.1 (pos 0) +ℤ count q es) is in
        omega (arith, ints, same, k)

-- a list of weights that aren't negative weighs nothing negative
weighs_not : (f : List Datum → ℤ) → ((row : List Datum) → pos 0 ≤ℤ f row) → (es : Weighted) → Each (λ e. pos 0 ≤ℤ e.1) es
    → pos 0 ≤ℤ weigh f es
weighs_not f g [] h = omega (arith, ints)
weighs_not f g (e ∷ es) h =
    let here : pos 0 ≤ℤ (e.1 *ℤ f e.0) = times_not e.1 (f e.0) h.0 (g e.0) in
    let rest : pos 0 ≤ℤ weigh f es = weighs_not f g es h.1 in
    omega (arith, ints, here, rest)

-- and so does a list of counts that aren't
counts_not : (f : List Datum → ℤ) → ((row : List Datum) → pos 0 ≤ℤ f row) → (ws : Weighted) → IsNotNegative ws → pos 0 ≤ℤ weigh f ws
counts_not f g ws h =
    let same : (q : List Datum) → count q (entries (bag_of ws)) ≡ count q ws = λ q. count-entries (bag_of ws) q ∙ count_in-bag_of ws q in
    subst (λ z. pos 0 ≤ℤ z) (weigh_alike f (entries (bag_of ws)) ws same)
    (weighs_not f g (entries (bag_of ws)) (weights_not (entries (bag_of ws)) (IsDistinct-entries (bag_of ws))
    (λ q. subst (λ z. pos 0 ≤ℤ z) (sym (same q)) (h.counts q))))

-- ---- plans

-- a count that is a number that isn't negative
counted : (n m : ℤ) → n ≡ m → pos 0 ≤ℤ m → pos 0 ≤ℤ n
counted n m same h = subst (λ z. pos 0 ≤ℤ z) (sym same) h

-- of a filter
filter_not : (keeps : List Datum → Bool) (ws : Weighted) → IsNotNegative ws → IsNotNegative (filtered keeps ws)
filter_not keeps ws h = record {
  counts = λ q. counted _ _ (count_filtered keeps q ws) (choice_not (keeps q) (count q ws) (h.counts q));
}

-- of a projection
project_not : (places : List ℕ) (ws : Weighted) → IsNotNegative ws → IsNotNegative (projected places ws)
project_not places ws h = record {
  counts = λ q. counted _ _ (count_projected places q ws)
      (counts_not (λ row. one_if (row_eq q (cells places row))) (λ row. one_if_not (row_eq q (cells places row))) ws h);
}

-- of a join
join_not : (pairs : List (ℕ × ℕ)) (left right : Weighted) → IsNotNegative left → IsNotNegative right
    → IsNotNegative (joined pairs left right)
join_not pairs left right h k = record {
  counts = λ q. counted _ _ (count_joined pairs q left right)
      (counts_not (λ l. weigh (of_pair (λ row. one_if (row_eq q row)) pairs l) right)
      (λ l. counts_not (of_pair (λ row. one_if (row_eq q row)) pairs l)
      (λ r. choice_not (joins pairs l r) (one_if (row_eq q (l ++ r))) (one_if_not (row_eq q (l ++ r)))) right k) left h);
}

-- of a union
union_not : (left right : Weighted) → IsNotNegative left → IsNotNegative right → IsNotNegative (left ++ right)
union_not left right h k = record {
  counts = λ q.
      let first : pos 0 ≤ℤ count q left = h.counts q in
      let second : pos 0 ≤ℤ count q right = k.counts q in
      omega (arith, ints, count-append q left right, first, second);
}

-- of a grouping, whatever it is of
group_not : (places : List ℕ) (aggregates : List Aggregate) (ws : Weighted) → IsNotNegative (grouped places aggregates ws)
group_not places aggregates ws = record {
  counts = λ q. counted _ _ (count_grouped places aggregates ws q)
      (one_if_not (is_group places ws (take (length places) q)
      && row_eq q (group_row places aggregates ws (take (length places) q))));
}

-- of DISTINCT, whatever it is of
distinct_not : (ws : Weighted) → IsNotNegative (distinct ws)
distinct_not ws = record { counts = λ q. counted _ _ (count_distinct q ws) (by (int_eq (count q ws) (pos 0))) }
  where
    by : (c : Bool) → pos 0 ≤ℤ cond c (pos 0) (pos 1)
    by true = omega (arith, ints)
    by false = omega (arith, ints)

-- of a plan
pub plan_not : (tables indexes : Leaves) (plan : Plan)
    → AllLeaves (λ item. IsNotNegative (tables item)) (λ item. IsNotNegative (indexes item)) plan
    → IsNotNegative (meaning tables indexes plan)
plan_not tables indexes (Table item) h = h
plan_not tables indexes (Index item) h = h
plan_not tables indexes (Filter' s (more_of-Plan plan end_of-Plan) keeps) h =
    filter_not (holds keeps) (meaning tables indexes plan) (plan_not tables indexes plan h)
plan_not tables indexes (Project' s (more_of-Plan plan end_of-Plan) places) h =
    project_not places (meaning tables indexes plan) (plan_not tables indexes plan h)
plan_not tables indexes (Join' s (more_of-Plan left end_of-Plan) r (more_of-Plan right end_of-Plan) pairs) h =
    join_not pairs (meaning tables indexes left) (meaning tables indexes right) (plan_not tables indexes left h.0)
    (plan_not tables indexes right h.1)
plan_not tables indexes (Union' s (more_of-Plan left end_of-Plan) r (more_of-Plan right end_of-Plan)) h =
    union_not (meaning tables indexes left) (meaning tables indexes right) (plan_not tables indexes left h.0)
    (plan_not tables indexes right h.1)
plan_not tables indexes (Group' s (more_of-Plan plan end_of-Plan) places aggregates) h =
    group_not places aggregates (meaning tables indexes plan)
plan_not tables indexes (Distinct' s (more_of-Plan plan end_of-Plan)) h = distinct_not (meaning tables indexes plan)

-- of the indexes
pub indexes_not : (tables : Leaves) → ((item : ℕ) → IsNotNegative (tables item)) → (plans : List (ℕ × Plan)) (item : ℕ)
    → IsNotNegative (index_rows tables plans item)
indexes_not tables h [] item = record { counts = λ q. omega (arith, ints) }
indexes_not tables h (newest ∷ older) item =
    by (newest.0 == item)
    (plan_not tables (index_rows tables older) newest.1 (all_leaves _ _ h (indexes_not tables h older) newest.1))
    (indexes_not tables h older item)
  where
    by : (c : Bool) → IsNotNegative (meaning tables (index_rows tables older) newest.1) → IsNotNegative (index_rows tables older item)
        → IsNotNegative (cond c (meaning tables (index_rows tables older) newest.1) (index_rows tables older item))
    by true g l = g
    by false g l = l
