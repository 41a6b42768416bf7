-- Totals go with the rows of their groups.
use Rattle.std.proofs.Common.{◌≡◌, ℕ, ◌+◌, ◌<◌, ◌≤◌, ◌^◌, Bool, true, false, cond, ◌||◌, ℤ, pos, nat_abs, ◌+ℤ◌, ◌*ℤ◌, List, [], ◌∷◌, ◌++◌, take, Option, map, length, get_or, unwrap_or, refl, sym, ap, subst, ◌∙◌, append_assoc, arith}
use Rattle.std.proofs.Math.Bool.{or-true}
use Rattle.std.proofs.lemmas.Bool.{eq-eqb}
use Rattle.std.proofs.lemmas.List.{append-nil, take_more}
use Rattle.std.proofs.lemmas.Int.{ints, int_wrap-add_left, int_wrap-add_right, int_wrap_fits, fits_signed_from_abs}
use Rattle.std.specs.FinMap.{empty, entries}
use Rattle.std.specs.Int.{w128, int_wrap}
use Rattle.std.specs.List.{AllByRecursion}
use Rattle.std.specs.Map.{lookup}
use Rattle.mz_value.specs.Row.{row_eq}
use Rattle.mz_value.specs.RowOrder.{row_eq-Decides}
use Rattle.mz_value.specs.declared.datum.Datum.{Datum}
use Rattle.mz_bag.specs.Bag.{Counts, count_in, with_count}
use Rattle.mz_bag.specs.Mass.{mass, IsLight}
use Rattle.mz_bag.specs.Weighted.{Weighted, count}
use Rattle.mz_bag.proofs.BagLaws.{count-append, count-entries, count_in-added, entries-empty}
use Rattle.mz_bag.proofs.MassLaws.{size_sum}
use Rattle.mz_value.specs.declared.datum.Datum.TheVariants.{Wide}
use Rattle.mz_plan.specs.Aggregate.{aggregate_of, weigh}
use Rattle.mz_plan.specs.Bound.{weighed, IsSummable}
use Rattle.mz_plan.specs.Value.{number_of, value_at}
use Rattle.mz_plan.specs.declared.aggregate.Aggregate.{Aggregate}
use Rattle.mz_plan.specs.declared.aggregate.Aggregate.TheVariants.{Count, Sum, Min, Max}
use Rattle.mz_plan.proofs.SumRules.{mass_weighed, weigh_append}
use Rattle.mz_plan_laws.proofs.Weighing.{row_itself, weigh_alike}
use Rattle.mz_keyed.specs.Keyed.{Keyed, rows_of, IsAdded}
use Rattle.mz_reduce.specs.Grouping.{AreBounded}
use Rattle.mz_reduce.specs.Orders.{are_ranked, order_of, ranks, IsOrder, Orders, TellsGreatest, TellsLeast}
use Rattle.mz_reduce.specs.Totals.{adds, told, totals_of, totals_over, with_row, ArePut, AreTotals, AreTotalsOf, IsTotalOf, KeyTotals, Tells, TellsAll}

-- ---- one row more

-- what a bag weighs with one row more
weigh_added : (f : List Datum → ℤ) (bag : Counts) (row : List Datum) (diff : ℤ)
    → weigh f (entries (with_count bag row (count_in bag row +ℤ diff))) ≡ weigh f (entries bag) +ℤ diff *ℤ f row
weigh_added f bag row diff =
    let one : (q : List Datum) → count q ((row, diff) ∷ []) ≡ cond (row_eq q row) diff (pos 0) = λ q. omega (arith, ints) in
    weigh_alike f (entries (with_count bag row (count_in bag row +ℤ diff))) (entries bag ++ (row, diff) ∷ [])
    (λ q. count-entries (with_count bag row (count_in bag row +ℤ diff)) q ∙ count_in-added bag row diff q
    ∙ ap (λ z. z +ℤ cond (row_eq q row) diff (pos 0)) (sym (count-entries bag q))
    ∙ ap (λ z. count q (entries bag) +ℤ z) (sym (one q))
    ∙ sym (count-append q (entries bag) ((row, diff) ∷ [])))
    ∙ weigh_append f (entries bag) ((row, diff) ∷ []) ∙ omega (arith, ints)

-- so do its totals
totals_added : (aggregates : List Aggregate) (bag : Counts) (row : List Datum) (diff : ℤ)
    → map (with_row row diff) (totals_over aggregates (entries bag))
    ≡ totals_over aggregates (entries (with_count bag row (count_in bag row +ℤ diff)))
totals_added [] bag row diff = refl
totals_added (a ∷ aggregates) bag row diff =
    λ i. (
      a,
      (int_wrap-add_left w128 (weigh (adds a) (entries bag)) (int_wrap w128 (diff *ℤ adds a row))
          ∙ int_wrap-add_right w128 (weigh (adds a) (entries bag)) (diff *ℤ adds a row)
          ∙ ap (int_wrap w128) (sym (weigh_added (adds a) bag row diff))) i,
    ) ∷ totals_added aggregates bag row diff i

-- a default passes into a choice
pub unwrap_choice : (c : Bool) (o p : Option (List (Aggregate × ℤ))) (d : List (Aggregate × ℤ))
    → unwrap_or (cond c o p) d ≡ cond c (unwrap_or o d) (unwrap_or p d)
unwrap_choice true o p d = refl
unwrap_choice false o p d = refl

-- ---- the totals of all keys

-- without a row there are none
pub none_totals : (aggregates : List Aggregate) (groups : Keyed) (totals : KeyTotals) → groups ≡ [] → totals ≡ []
    → AreTotals aggregates groups totals
none_totals aggregates groups totals none same = record {
  each = λ key.
      ap (λ ts. totals_of aggregates ts key) same
      ∙ sym (ap (λ es. totals_over aggregates (entries (rows_of es key))) none ∙ ap (totals_over aggregates) entries-empty);
}

-- a key's totals are not put back where it has no rows
pub not_put : (groups : Keyed) (key : List Datum) (numbers : List (Aggregate × ℤ)) (old : KeyTotals) → rows_of groups key ≡ empty
    → ArePut groups key numbers old old
not_put groups key numbers old none = record { put = λ aggregates gone is other. by aggregates gone is other (row_eq key other) refl }
  where
    by : (aggregates : List Aggregate) → totals_of aggregates old key ≡ totals_over aggregates []
        → numbers ≡ totals_over aggregates (entries (rows_of groups key)) → (other : List Datum) (c : Bool) → row_eq key other ≡ c
        → totals_of aggregates old other ≡ cond c numbers (totals_of aggregates old other)
    by aggregates gone is other false e = refl
    by aggregates gone is other true e =
        ap (totals_of aggregates old) (sym ((row_eq-Decides key other).0 e)) ∙ gone
        ∙ sym (is ∙ ap (λ (bag : Counts). totals_over aggregates (entries bag)) none ∙ ap (totals_over aggregates) entries-empty)

-- one row more, whose totals were taken out and put back with it
pub one_total : (aggregates : List Aggregate) (groups now : Keyed) (totals taken put : KeyTotals) (key row : List Datum) (diff : ℤ)
    (numbers : List (Aggregate × ℤ)) → AreTotals aggregates groups totals → IsAdded key row diff groups now
    → numbers ≡ map (with_row row diff) (totals_of aggregates totals key)
    → ((other : List Datum) → totals_of aggregates taken other
    ≡ cond (row_eq key other) (totals_over aggregates []) (totals_of aggregates totals other))
    → ArePut now key numbers taken put → AreTotals aggregates now put
one_total aggregates groups now totals taken put key row diff numbers h added is gone back = record {
  each = λ other. back.put aggregates nothing own other ∙ by other (row_eq key other) refl;
}
  where
    nothing : totals_of aggregates taken key ≡ totals_over aggregates []
    nothing = gone key ∙ ap (λ c. cond c (totals_over aggregates []) (totals_of aggregates totals key)) (row_itself key)

    rest : (other : List Datum) (c : Bool) → row_eq key other ≡ c
        → rows_of now other ≡ cond c (with_count (rows_of groups key) row (count_in (rows_of groups key) row +ℤ diff)) (rows_of groups other)
    rest other c e = added.rows other
        ∙ ap (λ d. cond d (with_count (rows_of groups key) row (count_in (rows_of groups key) row +ℤ diff)) (rows_of groups other)) e

    own : numbers ≡ totals_over aggregates (entries (rows_of now key))
    own = is ∙ ap (map (with_row row diff)) (h.each key) ∙ totals_added aggregates (rows_of groups key) row diff
        ∙ ap (λ (bag : Counts). totals_over aggregates (entries bag)) (sym (rest key true (row_itself key)))

    by : (other : List Datum) (c : Bool) → row_eq key other ≡ c
        → cond c numbers (totals_of aggregates taken other) ≡ totals_over aggregates (entries (rows_of now other))
    by other true e = own ∙ ap (λ k. totals_over aggregates (entries (rows_of now k))) ((row_eq-Decides key other).0 e)
    by other false e =
        gone other ∙ ap (λ c. cond c (totals_over aggregates []) (totals_of aggregates totals other)) e ∙ h.each other
        ∙ ap (λ (bag : Counts). totals_over aggregates (entries bag)) (sym (rest other false e))

-- where one key's look-up changes, its totals do
pub totals_changed : (aggregates : List Aggregate) (old new : KeyTotals) (key : List Datum) (o : Option (List (Aggregate × ℤ)))
    → ((q : List Datum) → lookup (row_eq q) new ≡ cond (row_eq key q) o (lookup (row_eq q) old))
    → (q : List Datum) → totals_of aggregates new q
    ≡ cond (row_eq key q) (unwrap_or o (totals_over aggregates [])) (totals_of aggregates old q)
totals_changed aggregates old new key o h q =
    ap (λ p. unwrap_or p (totals_over aggregates [])) (h q)
    ∙ unwrap_choice (row_eq key q) o (lookup (row_eq q) old) (totals_over aggregates [])

-- ---- what totals tell

-- what rows weigh under a function is no larger than their mass under it
size_weigh : (f : List Datum → ℤ) (ws : Weighted) → nat_abs (weigh f ws) ≤ mass (weighed f ws)
size_weigh f [] = omega arith
size_weigh f (w ∷ ws) = omega (arith, size_sum (w.1 *ℤ f w.0) (weigh f ws), size_weigh f ws)

-- 0 is a number of 128 bits
pub zero_whole : int_wrap w128 (pos 0) ≡ pos 0
zero_whole =
    let small : 0 < 2 ^ 127 = omega arith in
    int_wrap_fits w128 (pos 0) (fits_signed_from_abs w128 (pos 0) small)

-- so a total within the bound is a number of 128 bits
whole_total : (f : List Datum → ℤ) (ws : Weighted) → mass (weighed f ws) ≤ 2 ^ 100 → int_wrap w128 (weigh f ws) ≡ weigh f ws
whole_total f ws light =
    let small : nat_abs (weigh f ws) < 2 ^ 127 = omega (arith, size_weigh f ws, light) in
    int_wrap_fits w128 (weigh f ws) (fits_signed_from_abs w128 (weigh f ws) small)

-- and is what COUNT tells
pub count_total : (ws : Weighted) → IsLight ws → int_wrap w128 (weigh (λ row. pos 1) ws) ≡ weigh (λ row. pos 1) ws
count_total ws light = whole_total (λ row. pos 1) ws (omega (arith, mass_weighed ws, light.within))

-- or SUM
pub sum_total : (ws : Weighted) (place : ℕ) → IsSummable ws (Sum place)
    → int_wrap w128 (weigh (λ row. number_of (value_at row place)) ws) ≡ weigh (λ row. number_of (value_at row place)) ws
sum_total ws place light = whole_total (λ row. number_of (value_at row place)) ws light.within

-- so the total of a COUNT or a SUM is what it tells
pub count_tells : (bag : Counts) (orders : Orders) (key : List Datum) (total : Aggregate × ℤ) → IsLight (entries bag)
    → IsTotalOf bag orders key total → total.0 ≡ Count → Wide total.1 ≡ aggregate_of (entries bag) total.0
count_tells bag orders key total light h is =
    ap Wide (h.is ∙ ap (λ a. int_wrap w128 (weigh (adds a) (entries bag))) is ∙ count_total (entries bag) light)
    ∙ ap (aggregate_of (entries bag)) (sym is)

pub sum_tells : (bag : Counts) (orders : Orders) (key : List Datum) (place : ℕ) (total : Aggregate × ℤ)
    → IsTotalOf bag orders key total → total.0 ≡ Sum place → Wide total.1 ≡ aggregate_of (entries bag) total.0
sum_tells bag orders key place total h is =
    ap Wide (h.is ∙ ap (λ a. int_wrap w128 (weigh (adds a) (entries bag))) is
    ∙ sum_total (entries bag) place (subst (IsSummable (entries bag)) is h.summable))
    ∙ ap (aggregate_of (entries bag)) (sym is)

-- and the first and the last of an order are what MIN and MAX tell
pub least_tells : (orders : Orders) (key : List Datum) (place : ℕ) (total : Aggregate × ℤ) (value : Datum)
    → TellsLeast place (order_of orders (place, key)) value → total.0 ≡ Min place → Tells orders key total value
least_tells orders key place total value h is = record {
  tells = λ bag stored light own.
      h.tells bag stored (own.order place (ap (ranks place) is ∙ eq-eqb place place refl)) ∙ ap (aggregate_of (entries bag)) (sym is);
}

pub greatest_tells : (orders : Orders) (key : List Datum) (place : ℕ) (total : Aggregate × ℤ) (value : Datum)
    → TellsGreatest place (order_of orders (place, key)) value → total.0 ≡ Max place → Tells orders key total value
greatest_tells orders key place total value h is = record {
  tells = λ bag stored light own.
      h.tells bag stored (own.order place (ap (ranks place) is ∙ eq-eqb place place refl)) ∙ ap (aggregate_of (entries bag)) (sym is);
}

-- the totals over rows within the bound are of these rows, which stand in the orders that they take
each_over : (aggregates : List Aggregate) (bag : Counts) (orders : Orders) (key : List Datum)
    → AllByRecursion (IsSummable (entries bag)) aggregates
    → ((place : ℕ) → are_ranked place aggregates ≡ true → IsOrder place bag (order_of orders (place, key)))
    → AllByRecursion (IsTotalOf bag orders key) (totals_over aggregates (entries bag))
each_over [] bag orders key h ranked = tt
each_over (a ∷ aggregates) bag orders key h ranked = (
  record { is = refl; summable = h.0; order = λ place e. ranked place (ap (λ c. c || are_ranked place aggregates) e) },
  each_over aggregates bag orders key h.1 (λ place e. ranked place (ap (λ c. ranks place a || c) e ∙ or-true (ranks place a))),
)

pub totals_are_of : (aggregates : List Aggregate) (bag : Counts) (orders : Orders) (key : List Datum) (totals : List (Aggregate × ℤ))
    → AreBounded aggregates (entries bag)
    → ((place : ℕ) → are_ranked place aggregates ≡ true → IsOrder place bag (order_of orders (place, key)))
    → totals ≡ totals_over aggregates (entries bag) → AreTotalsOf bag orders key totals
totals_are_of aggregates bag orders key totals h ranked same = record {
  light = h.light;
  each = subst (AllByRecursion (IsTotalOf bag orders key)) (sym same) (each_over aggregates bag orders key h.sums ranked);
}

-- and of these aggregates
pub told_over : (aggregates : List Aggregate) (ws : Weighted) → told (totals_over aggregates ws) ≡ aggregates
told_over [] ws = refl
told_over (a ∷ aggregates) ws = ap (λ rest. a ∷ rest) (told_over aggregates ws)

-- a row of which no aggregate is told yet is its key
pub none_told : (orders : Orders) (key values : List Datum) → values ≡ key → TellsAll orders key [] values
none_told orders key values same = record { tells = λ bag is all. same ∙ sym (append-nil key) }

-- totals are those before the last, and it
all_but_last : (P : Aggregate × ℤ → Type 0) (totals : List (Aggregate × ℤ)) (last : Aggregate × ℤ)
    → AllByRecursion P (totals ++ last ∷ []) → AllByRecursion P totals × P last
all_but_last P [] last h = (tt, h.0)
all_but_last P (t ∷ totals) last h = let rest = all_but_last P totals last h.1 in ((h.0, rest.0), rest.1)

-- the aggregates of totals with one more
told_more : (f : Aggregate → Datum) (totals : List (Aggregate × ℤ)) (last : Aggregate × ℤ)
    → map f (told (totals ++ last ∷ [])) ≡ map f (told totals) ++ f last.0 ∷ []
told_more f [] last = refl
told_more f (t ∷ totals) last = ap (λ vs. f t.0 ∷ vs) (told_more f totals last)

-- and what one more tells comes behind
pub one_told : (orders : Orders) (key values more : List Datum) (totals : List (Aggregate × ℤ)) (place : ℕ) (total : Aggregate × ℤ)
    (value : Datum) → place < length totals → TellsAll orders key (take place totals) values
    → Tells orders key (get_or totals place total) value → more ≡ values ++ value ∷ [] → TellsAll orders key (take (place + 1) totals) more
one_told orders key values more totals place total value within h one pushed =
    subst (λ ts. TellsAll orders key ts more) (sym (take_more totals place total within))
    (record {
      tells = λ bag is all.
          let last = get_or totals place total in
          let parts = all_but_last (IsTotalOf bag orders key) (take place totals) last all.each in
          pushed
          ∙ (λ i. h.tells bag is (record { light = all.light; each = parts.0 }) i ++ one.tells bag is all.light parts.1 i ∷ [])
          ∙ append_assoc key (map (aggregate_of (entries bag)) (told (take place totals))) (aggregate_of (entries bag) last.0 ∷ [])
          ∙ ap (λ vs. key ++ vs) (sym (told_more (aggregate_of (entries bag)) (take place totals) last));
    })
