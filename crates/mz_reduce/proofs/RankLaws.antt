-- The first of the rows that stand in order tells MIN, and the last one MAX.
use Rattle.std.proofs.Common.{◌≡◌, ◌≢◌, ℕ, zero, suc, ◌<◌, length, Bool, true, false, cond, not, ℤ, pos, ◌+ℤ◌, List, [], ◌∷◌, Contains, None, Some, unwrap_or, refl, sym, ap, subst, ◌∙◌, true≢false, arith}
use Rattle.std.proofs.lemmas.Int.{ints}
use Rattle.std.proofs.lemmas.Map.Keys.{IsDistinct-head, IsDistinct-tail}
use Rattle.std.specs.Cmp.{signed_Decides}
use Rattle.std.specs.FinMap.{entries, find, get, get-entries}
use Rattle.std.specs.List.{AllByRecursion, IsDistinct}
use Rattle.std.specs.Map.{keys_of}
use Rattle.std.specs.Ordering.{int_eq, is_gt, is_le, is_lt, ordering_reverse, ordering_then}
use Rattle.std.specs.declared.cmp.Ordering.{Ordering}
use Rattle.std.specs.declared.cmp.Ordering.TheVariants.{Less, Equal, Greater}
use Rattle.mz_value.specs.Datum.{datum_cmp}
use Rattle.mz_value.specs.Row.{row_cmp, row_eq}
use Rattle.mz_value.specs.RowOrder.{datum_exact, datum_total, row_eq-Decides}
use Rattle.mz_value.specs.declared.datum.Datum.{Datum}
use Rattle.mz_value.specs.declared.datum.Datum.TheVariants.{Bool as Truth}
use Rattle.mz_bag.specs.Bag.{Counts, count_in, IsBag}
use Rattle.mz_bag.specs.Weighted.{Weighted, count}
use Rattle.mz_bag.proofs.BagLaws.{IsDistinct-entries, count-entries, find-absent}
use Rattle.mz_plan.specs.Aggregate.{column, greatest, least}
use Rattle.mz_plan.specs.Value.{value_at}
use Rattle.mz_plan_laws.proofs.Extremes.{greatest_is, least_is}
use Rattle.mz_plan_laws.proofs.Weighing.{row_itself}
use Rattle.mz_reduce.specs.Counting.{is_there}
use Rattle.mz_reduce.specs.Orders.{behind, fronted, is_among, IsOrder, TellsGreatest, TellsLeast}

-- ---- values of a column

-- what holds of each value holds of one of them
contained : (P : Datum → Type 0) (values : List Datum) (value : Datum) → AllByRecursion P values → Contains values value → P value
contained P [] value h (k, within, is) = absurd (omega (arith, within))
contained P (first ∷ values) value h (zero, within, is) = subst P is h.0
contained P (first ∷ values) value h (suc k, within, is) = contained P values value h.1 (k, omega (arith, within), is)

-- what holds of each value of a column holds of that of a row that is there
in_column : (P : Datum → Type 0) (place : ℕ) (es : Weighted) (row : List Datum) → count row es ≢ pos 0
    → AllByRecursion P (column place es) → P (value_at row place)
in_column P place [] row some h = absurd (some refl)
in_column P place (e ∷ es) row some h = by (row_eq row e.0) refl (λ other. in_column P place es row other h.1)
  where
    by : (c : Bool) → row_eq row e.0 ≡ c → (count row es ≢ pos 0 → P (value_at row place)) → P (value_at row place)
    by true is below = subst P (ap (λ (r : List Datum). value_at r place) (sym ((row_eq-Decides row e.0).0 is))) h.0
    by false is below =
        let rest : count row (e ∷ es) ≡ pos 0 +ℤ count row es = ap (λ c. cond c e.1 (pos 0) +ℤ count row es) is in
        below (λ none. some (rest ∙ omega (arith, ints, none)))

-- two values of which each is at or before the other are one
both_ways : (x y : Datum) → is_le (datum_cmp x y) ≡ true → is_le (datum_cmp y x) ≡ true → x ≡ y
both_ways x y h k = by (datum_cmp x y) refl h
  where
    by : (r : Ordering) → datum_cmp x y ≡ r → is_le r ≡ true → x ≡ y
    by Less e before = absurd (true≢false (sym k ∙ ap is_le (datum_total.antisymm y x ∙ ap ordering_reverse e)))
    by Equal e before = datum_exact x y e
    by Greater e before = absurd (true≢false (sym before))

-- a value of the column that is at or before all is the least
least_entry : (place : ℕ) (es : Weighted) (row : List Datum) → count row es ≢ pos 0
    → AllByRecursion (λ other. is_le (datum_cmp (value_at row place) other) ≡ true) (column place es)
    → value_at row place ≡ least (column place es)
least_entry place [] row some before = absurd (some refl)
least_entry place (e ∷ es) row some before =
    let first = least_is (value_at e.0 place) (column place es) in
    both_ways (value_at row place) (least (column place (e ∷ es)))
    (contained (λ other. is_le (datum_cmp (value_at row place) other) ≡ true) (column place (e ∷ es)) _ before first.0)
    (in_column (λ other. is_le (datum_cmp (least (column place (e ∷ es))) other) ≡ true) place (e ∷ es) row some first.1)

-- and one that is at or behind all the greatest
greatest_entry : (place : ℕ) (es : Weighted) (row : List Datum) → count row es ≢ pos 0
    → AllByRecursion (λ other. is_le (datum_cmp other (value_at row place)) ≡ true) (column place es)
    → value_at row place ≡ greatest (column place es)
greatest_entry place [] row some after = absurd (some refl)
greatest_entry place (e ∷ es) row some after =
    let last = greatest_is (value_at e.0 place) (column place es) in
    both_ways (value_at row place) (greatest (column place (e ∷ es)))
    (in_column (λ other. is_le (datum_cmp other (greatest (column place (e ∷ es)))) ≡ true) place (e ∷ es) row some last.1)
    (contained (λ other. is_le (datum_cmp other (value_at row place)) ≡ true) (column place (e ∷ es)) _ after last.0)

-- ---- the rows of a bag

-- where no row stands twice, what holds of each that is found holds of each
each_found : (P : List Datum → Type 0) (es : Weighted) → IsDistinct row_eq (keys_of es)
    → ((q : List Datum) (n : ℤ) → find row_cmp q es ≡ Some n → P q) → AllByRecursion (λ w. P w.0) es
each_found P [] once h = tt
each_found P (e ∷ es) once h = (
  h e.0 e.1 (ap (λ c. cond c (Some e.1) (find row_cmp e.0 es)) (row_itself e.0)),
  each_found P es (IsDistinct-tail row_eq e.0 (keys_of es) once) (λ q n found. by q n (row_eq q e.0) refl found),
)
  where
    by : (q : List Datum) (n : ℤ) (c : Bool) → row_eq q e.0 ≡ c → find row_cmp q es ≡ Some n → P q
    by q n true is found =
        let none : find row_cmp q es ≡ None =
        subst (λ r. find row_cmp r es ≡ None) (sym ((row_eq-Decides q e.0).0 is))
        (find-absent e.0 es (IsDistinct-head row_eq e.0 (keys_of es) once)) in
        absurd cc
    by q n false is found = h q n (ap (λ c. cond c (Some e.1) (find row_cmp q es)) is ∙ found)

-- what isn't 0 is there
there_unless : (n : ℤ) → n ≢ pos 0 → is_there n ≡ true
there_unless n some = by (int_eq n (pos 0)) refl
  where
    by : (c : Bool) → int_eq n (pos 0) ≡ c → not c ≡ true
    by true e = absurd (some ((signed_Decides n (pos 0)).0 e))
    by false e = refl

-- each entry of a bag is there
each_there : (bag : Counts) → IsBag bag → AllByRecursion (λ w. is_there (count_in bag w.0) ≡ true) (entries bag)
each_there bag is = each_found (λ q. is_there (count_in bag q) ≡ true) (entries bag) (IsDistinct-entries bag) (λ q n found.
    let has : get bag q ≡ Some n = get-entries bag q ∙ found in
    ap is_there (ap (λ o. unwrap_or o (pos 0)) has) ∙ there_unless n (λ none. is.no_zero q (has ∙ ap Some none)))

-- so what holds of the value of each row that is there holds of the column
each_value : (P : Datum → Type 0) (place : ℕ) (bag : Counts) → IsBag bag
    → ((q : List Datum) → is_there (count_in bag q) ≡ true → P (value_at q place)) → AllByRecursion P (column place (entries bag))
each_value P place bag is h = by (entries bag) (each_there bag is)
  where
    by : (es : Weighted) → AllByRecursion (λ w. is_there (count_in bag w.0) ≡ true) es → AllByRecursion P (column place es)
    by [] k = tt
    by (e ∷ es) k = (h e.0 k.0, by es k.1)

-- and a row that is there is counted
counted : (bag : Counts) (row : List Datum) → is_there (count_in bag row) ≡ true → count row (entries bag) ≢ pos 0
counted bag row there none = true≢false (sym there ∙ ap is_there (sym (count-entries bag row) ∙ none))

-- ---- the ends of an order

-- a row that isn't behind another begins with a value at or before the other's
head_first : (x y : Datum) (r s : List Datum) → is_gt (row_cmp (x ∷ r) (y ∷ s)) ≡ false → is_le (datum_cmp x y) ≡ true
head_first x y r s h = by (datum_cmp x y) h
  where
    by : (o : Ordering) → is_gt (ordering_then o (row_cmp r s)) ≡ false → is_le o ≡ true
    by Less h = refl
    by Equal h = refl
    by Greater h = absurd (true≢false h)

-- and one that isn't before another with one at or behind it
head_last : (x y : Datum) (r s : List Datum) → is_lt (row_cmp (x ∷ r) (y ∷ s)) ≡ false → is_le (datum_cmp y x) ≡ true
head_last x y r s h = by (datum_cmp x y) refl h
  where
    by : (o : Ordering) → datum_cmp x y ≡ o → is_lt (ordering_then o (row_cmp r s)) ≡ false → is_le (datum_cmp y x) ≡ true
    by Less e h = absurd (true≢false h)
    by Equal e h = ap is_le (datum_total.antisymm y x ∙ ap ordering_reverse e)
    by Greater e h = ap is_le (datum_total.antisymm y x ∙ ap ordering_reverse e)

-- a row that stands in an order is there
stands_there : (place : ℕ) (front : List Datum) (rows : List (List Datum)) (bag : Counts) → IsOrder place bag rows
    → is_among front rows ≡ true → is_there (count_in bag (behind front)) ≡ true
stands_there place front rows bag h member =
    sym (h.each (behind front)) ∙ ap (λ r. is_among r rows) (sym (h.front front member)) ∙ member

-- the value of the first row is what MIN tells
pub first_tells : (place : ℕ) (front : List Datum) (rows : List (List Datum)) → is_among front rows ≡ true
    → ((q : List Datum) → is_among q rows ≡ true → is_gt (row_cmp front q) ≡ false) → TellsLeast place rows (value_at front 0)
first_tells place front rows member first = record {
  tells = λ bag is h.
      ap (λ (r : List Datum). value_at r 0) (h.front front member)
      ∙ least_entry place (entries bag) (behind front) (counted bag (behind front) (stands_there place front rows bag h member))
      (each_value (λ other. is_le (datum_cmp (value_at (behind front) place) other) ≡ true) place bag is
      (λ q there. head_first (value_at (behind front) place) (value_at q place) (behind front) q
      (subst (λ r. is_gt (row_cmp r (fronted place q)) ≡ false) (h.front front member) (first (fronted place q) (h.each q ∙ there)))));
}

-- and that of the last one what MAX does
pub last_tells : (place : ℕ) (front : List Datum) (rows : List (List Datum)) → is_among front rows ≡ true
    → ((q : List Datum) → is_among q rows ≡ true → is_lt (row_cmp front q) ≡ false) → TellsGreatest place rows (value_at front 0)
last_tells place front rows member last = record {
  tells = λ bag is h.
      ap (λ (r : List Datum). value_at r 0) (h.front front member)
      ∙ greatest_entry place (entries bag) (behind front) (counted bag (behind front) (stands_there place front rows bag h member))
      (each_value (λ other. is_le (datum_cmp other (value_at (behind front) place)) ≡ true) place bag is
      (λ q there. head_last (value_at (behind front) place) (value_at q place) (behind front) q
      (subst (λ r. is_lt (row_cmp r (fronted place q)) ≡ false) (h.front front member) (last (fronted place q) (h.each q ∙ there)))));
}

-- rows under another name tell the same
pub least_same : (place : ℕ) (rows others : List (List Datum)) (value : Datum) → rows ≡ others → TellsLeast place rows value
    → TellsLeast place others value
least_same place rows others value same h = subst (λ rs. TellsLeast place rs value) same h

pub greatest_same : (place : ℕ) (rows others : List (List Datum)) (value : Datum) → rows ≡ others → TellsGreatest place rows value
    → TellsGreatest place others value
greatest_same place rows others value same h = subst (λ rs. TellsGreatest place rs value) same h

-- rows without an end are none
pub no_rows : (rows : List (List Datum)) → (0 < length rows → false ≡ true) → rows ≡ []
no_rows [] h = refl
no_rows (row ∷ rows) h = absurd (true≢false (sym (h (omega arith))))

-- where no row stands, the bag has none
nothing_there : (place : ℕ) (rows : List (List Datum)) (bag : Counts) → rows ≡ [] → IsBag bag → IsOrder place bag rows → entries bag ≡ []
nothing_there place rows bag none is h = by (entries bag) (each_there bag is)
  where
    by : (es : Weighted) → AllByRecursion (λ w. is_there (count_in bag w.0) ≡ true) es → es ≡ []
    by [] k = refl
    by (e ∷ es) k = absurd (true≢false (sym k.0 ∙ sym (h.each e.0) ∙ ap (is_among (fronted place e.0)) none))

-- so FALSE is what both tell
pub none_least : (place : ℕ) (rows : List (List Datum)) → rows ≡ [] → TellsLeast place rows (Truth false)
none_least place rows none = record {
  tells = λ bag is h. sym (ap (λ (es : Weighted). least (column place es)) (nothing_there place rows bag none is h));
}

pub none_greatest : (place : ℕ) (rows : List (List Datum)) → rows ≡ [] → TellsGreatest place rows (Truth false)
none_greatest place rows none = record {
  tells = λ bag is h. sym (ap (λ (es : Weighted). greatest (column place es)) (nothing_there place rows bag none is h));
}
