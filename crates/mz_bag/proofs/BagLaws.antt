-- What holds of bags and of weighted lists.
use Rattle.std.proofs.Common.{◌≡◌, ◌≢◌, Bool, true, false, cond, ◌&&◌, T, ℤ, pos, neg_ℤ, ◌+ℤ◌, ◌≤ℤ◌, List, [], ◌∷◌, ◌++◌, length, Option, None, Some, unwrap_or, if◌then◌else◌, refl, sym, ap, subst, ◌∙◌, true≢false, arith}
use Rattle.std.proofs.lemmas.Int.{ints}
use Rattle.std.specs.Ordering.{int_eq, is_lt, is_eq}
use Rattle.std.specs.declared.cmp.Ordering.{Ordering}
use Rattle.std.specs.declared.cmp.Ordering.TheVariants.{Less, Equal, Greater}
use Rattle.std.specs.Cmp.{signed_Decides}
use Rattle.std.specs.List.{AllByRecursion, IsDistinct}
use Rattle.std.specs.Map.{keys_of}
use Rattle.std.specs.FinMap.{empty, entries, get, insert, remove, find, is_sorted, same_map, get-empty, get-insert, get-remove, get-from_entries, get-entries, entries_sorted, len-entries, len-empty}
use Rattle.std.specs.FinMap.Entries.{below_all}
use Rattle.std.proofs.lemmas.Map.Keys.{IsDistinct-head, IsDistinct-tail}
use Rattle.mz_value.specs.declared.datum.Datum.{Datum}
use Rattle.mz_value.specs.Row.{row_cmp, row_eq}
use Rattle.mz_value.specs.RowOrder.{row_total, row_exact, row_eq-Decides}
use Rattle.mz_bag.specs.Bag.{Counts, count_in, with_count, map_of, IsBag}
use Rattle.mz_bag.specs.Weighted.{Weighted, count, bag_of, each_once, negated, sum_of, negation_of}

-- ---- bags

-- a default passes into a choice
unwrap_choice : (c : Bool) (o p : Option ℤ) → unwrap_or (cond c o p) (pos 0) ≡ cond c (unwrap_or o (pos 0)) (unwrap_or p (pos 0))
unwrap_choice true o p = refl
unwrap_choice false o p = refl

-- a number that passes the test against 0 is 0
is_zero : (n : ℤ) → int_eq n (pos 0) ≡ true → n ≡ pos 0
is_zero n e = (signed_Decides n (pos 0)).0 e

-- and one that fails it is not
not_zero : (n : ℤ) → int_eq n (pos 0) ≡ false → n ≢ pos 0
not_zero n e z = true≢false (sym ((signed_Decides n (pos 0)).1 z) ∙ e)

-- what a bag has after one count is set: that count at its row, and all others as before
pub count_in-with_count : (bag : Counts) (row : List Datum) (n : ℤ) (q : List Datum) → count_in (with_count bag row n) q ≡ (if row_eq q row then n else count_in bag q)
count_in-with_count bag row n q = by (int_eq n (pos 0)) refl
  where
    by : (b : Bool) → int_eq n (pos 0) ≡ b → unwrap_or (get (cond b (remove bag row) (insert bag row n)) q) (pos 0) ≡ cond (row_eq q row) n (count_in bag q)
    by true e = ap (λ o. unwrap_or o (pos 0)) (get-remove row_total bag row q) ∙ unwrap_choice (row_eq q row) None (get bag q) ∙ ap (λ z. cond (row_eq q row) z (count_in bag q)) (sym (is_zero n e))
    by false e = ap (λ o. unwrap_or o (pos 0)) (get-insert row_total bag row n q) ∙ unwrap_choice (row_eq q row) (Some n) (get bag q)

-- a choice between what is not Some 0 is not Some 0
neither_zero : (c : Bool) (o p : Option ℤ) → o ≢ Some (pos 0) → p ≢ Some (pos 0) → cond c o p ≢ Some (pos 0)
neither_zero true o p h k = h
neither_zero false o p h k = k

-- no zero comes in by setting a count
pub IsBag-with_count : (bag : Counts) (row : List Datum) (n : ℤ) → IsBag bag → IsBag (with_count bag row n)
IsBag-with_count bag row n is = record { no_zero = λ q. by q (int_eq n (pos 0)) refl }
  where
    by : (q : List Datum) (b : Bool) → int_eq n (pos 0) ≡ b → get (cond b (remove bag row) (insert bag row n)) q ≢ Some (pos 0)
    by q true e = subst (λ (o : Option ℤ). o ≢ Some (pos 0)) (sym (get-remove row_total bag row q)) (neither_zero (row_eq q row) None (get bag q) (λ h. cc) (is.no_zero q))
    by q false e = subst (λ (o : Option ℤ). o ≢ Some (pos 0)) (sym (get-insert row_total bag row n q)) (neither_zero (row_eq q row) (Some n) (get bag q) (λ h. not_zero n e (cc)) (is.no_zero q))

-- the bag without a row has no zero
pub IsBag-empty : IsBag empty
IsBag-empty = record { no_zero = λ q h. let none : get (empty {X = ℤ} {R = row_cmp}) q ≡ None = get-empty row_cmp q in cc }

-- the bag without a row counts nothing
pub count_in-empty : (q : List Datum) → count_in empty q ≡ pos 0
count_in-empty q = ap (λ o. unwrap_or o (pos 0)) (get-empty row_cmp q)

-- a list of length 0 has nothing in it
nothing : (es : Weighted) → length es ≡ 0 → es ≡ []
nothing [] h = refl
nothing (e ∷ es) h = cc

-- nor has it an entry
pub entries-empty : entries (empty {X = ℤ} {R = row_cmp}) ≡ []
entries-empty = nothing _ (sym (len-entries empty) ∙ len-empty row_cmp ℤ)

-- what is not Some 0 is told by its number
told : (o p : Option ℤ) → o ≢ Some (pos 0) → p ≢ Some (pos 0) → unwrap_or o (pos 0) ≡ unwrap_or p (pos 0) → o ≡ p
told None None h k e = refl
told None (Some y) h k e = absurd (k (ap Some (sym e)))
told (Some x) None h k e = absurd (h (ap Some e))
told (Some x) (Some y) h k e = ap Some e

-- bags that count each row alike are one
pub same_counts : (a b : Counts) → IsBag a → IsBag b → ((row : List Datum) → count_in a row ≡ count_in b row) → a ≡ b
same_counts a b h k alike = same_map row_total row_exact a b (λ q. told (get a q) (get b q) (h.no_zero q) (k.no_zero q) (alike q))

-- a row that is another has the other's count
count_of_same : (bag : Counts) (q row : List Datum) → row_eq q row ≡ true → count_in bag row ≡ count_in bag q
count_of_same bag q row e = ap (count_in bag) (sym ((row_eq-Decides q row).0 e))

-- a count that is added comes to its row's count, and to no other
pub count_in-added : (bag : Counts) (row : List Datum) (n : ℤ) (q : List Datum) → count_in (with_count bag row (count_in bag row +ℤ n)) q ≡ count_in bag q +ℤ (if row_eq q row then n else pos 0)
count_in-added bag row n q = count_in-with_count bag row (count_in bag row +ℤ n) q ∙ by (row_eq q row) refl
  where
    by : (c : Bool) → row_eq q row ≡ c → cond c (count_in bag row +ℤ n) (count_in bag q) ≡ count_in bag q +ℤ cond c n (pos 0)
    by true e = ap (λ z. z +ℤ n) (count_of_same bag q row e)
    by false e = omega (arith, ints)

-- ---- weighted lists

-- lists one after another count as both together
pub count-append : (row : List Datum) (vs ws : Weighted) → count row (vs ++ ws) ≡ count row vs +ℤ count row ws
count-append row [] ws = omega (arith, ints)
count-append row (v ∷ vs) ws = omega (arith, ints, count-append row vs ws)

-- negative weights count to the negative
pub count-negated : (row : List Datum) (ws : Weighted) → count row (negated ws) ≡ neg_ℤ (count row ws)
count-negated row [] = refl
count-negated row (w ∷ ws) = by (row_eq row w.0) (count-negated row ws)
  where
    by : (c : Bool) → count row (negated ws) ≡ neg_ℤ (count row ws) → cond c (neg_ℤ w.1) (pos 0) +ℤ count row (negated ws) ≡ neg_ℤ (cond c w.1 (pos 0) +ℤ count row ws)
    by true rest = omega (arith, ints)
    by false rest = omega (arith, ints)

-- the bag of a weighted list has no zero
pub IsBag-bag_of : (ws : Weighted) → IsBag (bag_of ws)
IsBag-bag_of [] = IsBag-empty
IsBag-bag_of (w ∷ ws) = IsBag-with_count (bag_of ws) w.0 (count_in (bag_of ws) w.0 +ℤ w.1) (IsBag-bag_of ws)

-- and counts as the list does
pub count_in-bag_of : (ws : Weighted) (row : List Datum) → count_in (bag_of ws) row ≡ count row ws
count_in-bag_of [] row = count_in-empty row
count_in-bag_of (w ∷ ws) row = count_in-added (bag_of ws) w.0 w.1 row ∙ omega (arith, ints, count_in-bag_of ws row)

-- lists that count alike have one bag
pub bag_of-same : (vs ws : Weighted) → ((row : List Datum) → count row vs ≡ count row ws) → bag_of vs ≡ bag_of ws
bag_of-same vs ws alike = same_counts (bag_of vs) (bag_of ws) (IsBag-bag_of vs) (IsBag-bag_of ws) (λ q. count_in-bag_of vs q ∙ alike q ∙ sym (count_in-bag_of ws q))

-- one weight more at the end is one count added
pub bag_of-push : (ws : Weighted) (row : List Datum) (n : ℤ) → bag_of (ws ++ (row, n) ∷ []) ≡ with_count (bag_of ws) row (count_in (bag_of ws) row +ℤ n)
bag_of-push ws row n =
    same_counts _ _ (IsBag-bag_of (ws ++ (row, n) ∷ [])) (IsBag-with_count (bag_of ws) row (count_in (bag_of ws) row +ℤ n) (IsBag-bag_of ws)) (λ q.
    count_in-bag_of (ws ++ (row, n) ∷ []) q ∙ count-append q ws ((row, n) ∷ [])
    ∙ (let here : count_in (bag_of ws) q ≡ count q ws = count_in-bag_of ws q in omega (arith, ints))
    ∙ sym (count_in-added (bag_of ws) row n q))

-- a list of weights 1 counts a row at least 0 times
pub count-not_negative : (row : List Datum) (ws : Weighted) → AllByRecursion (λ w. w.1 ≡ pos 1) ws → pos 0 ≤ℤ count row ws
count-not_negative row [] h = omega (arith, ints)
count-not_negative row (w ∷ ws) h = by (row_eq row w.0) h.0 (count-not_negative row ws h.1)
  where
    by : (c : Bool) → w.1 ≡ pos 1 → pos 0 ≤ℤ count row ws → pos 0 ≤ℤ (cond c w.1 (pos 0) +ℤ count row ws)
    by true one rest = omega (arith, ints)
    by false one rest = omega (arith, ints)

-- and at most as often as it is long
pub count-at_most_length : (row : List Datum) (ws : Weighted) → AllByRecursion (λ w. w.1 ≡ pos 1) ws → count row ws ≤ℤ pos (length ws)
count-at_most_length row [] h = omega (arith, ints)
count-at_most_length row (w ∷ ws) h = by (row_eq row w.0) h.0 (count-at_most_length row ws h.1)
  where
    by : (c : Bool) → w.1 ≡ pos 1 → count row ws ≤ℤ pos (length ws) → (cond c w.1 (pos 0) +ℤ count row ws) ≤ℤ pos (length (w ∷ ws))
    by true one rest = omega (arith, ints)
    by false one rest = omega (arith, ints)

-- each row of a list has the weight 1
pub each_once-weights : (rows : List (List Datum)) → AllByRecursion (λ w. w.1 ≡ pos 1) (each_once rows)
each_once-weights [] = tt
each_once-weights (row ∷ rows) = (refl, each_once-weights rows)

-- ---- entries with a key each

-- a row among none of the keys is not found
pub find-absent : (q : List Datum) (es : Weighted) → AllByRecursion (λ k. row_eq q k ≡ false) (keys_of es) → find row_cmp q es ≡ None
find-absent q [] h = refl
find-absent q (e ∷ es) h = ap (λ b. cond b (Some e.1) (find row_cmp q es)) h.0 ∙ find-absent q es h.1

-- where no row stands twice, the count of a row is the number that is found
pub count-distinct : (q : List Datum) (es : Weighted) → IsDistinct row_eq (keys_of es) → count q es ≡ unwrap_or (find row_cmp q es) (pos 0)
count-distinct q [] h = refl
count-distinct q (e ∷ es) h = by (row_eq q e.0) refl (count-distinct q es (IsDistinct-tail row_eq e.0 (keys_of es) h))
  where
    by : (c : Bool) → row_eq q e.0 ≡ c → count q es ≡ unwrap_or (find row_cmp q es) (pos 0) → cond c e.1 (pos 0) +ℤ count q es ≡ unwrap_or (cond c (Some e.1) (find row_cmp q es)) (pos 0)
    by true is rest =
        let absent : find row_cmp e.0 es ≡ None = find-absent e.0 es (IsDistinct-head row_eq e.0 (keys_of es) h) in
        let none : count q es ≡ pos 0 = rest ∙ ap (λ r. unwrap_or (find row_cmp r es) (pos 0)) ((row_eq-Decides q e.0).0 is) ∙ ap (λ o. unwrap_or o (pos 0)) absent in
        omega (arith, ints)
    by false is rest = omega (arith, ints)

-- so the map of such a list counts as the list does
pub count_in-map_of : (q : List Datum) (es : Weighted) → IsDistinct row_eq (keys_of es) → count_in (map_of es) q ≡ count q es
count_in-map_of q es h = ap (λ o. unwrap_or o (pos 0)) (get-from_entries row_total es q) ∙ sym (count-distinct q es h)

-- ---- sums and negatives of bags

-- both sides of a test that holds
both_hold : (a b : Bool) → T (a && b) → T a × T b
both_hold true b h = (tt, h)
both_hold false b h = absurd h

-- what is less is not equal
less_apart : (r : Ordering) → T (is_lt r) → is_eq r ≡ false
less_apart Less h = refl
less_apart Equal h = absurd h
less_apart Greater h = absurd h

-- a row below all keys is none of them
below_apart : (row : List Datum) (es : Weighted) → T (below_all row_cmp row es) → AllByRecursion (λ k. row_eq row k ≡ false) (keys_of es)
below_apart row [] h = tt
below_apart row (e ∷ es) h = let sides = both_hold _ _ h in (less_apart _ sides.0, below_apart row es sides.1)

-- in a list in order no row stands twice
sorted_distinct : (es : Weighted) → T (is_sorted row_cmp es) → IsDistinct row_eq (keys_of es)
unfolding IsDistinct
sorted_distinct [] h = tt
sorted_distinct (e ∷ es) h = let sides = both_hold _ _ h in (below_apart e.0 es sides.0, sorted_distinct es sides.1)

-- so none among the entries of a bag
pub IsDistinct-entries : (bag : Counts) → IsDistinct row_eq (keys_of (entries bag))
IsDistinct-entries bag = sorted_distinct (entries bag) (entries_sorted bag)

-- the entries of a bag count as the bag does
pub count-entries : (bag : Counts) (row : List Datum) → count row (entries bag) ≡ count_in bag row
count-entries bag row = count-distinct row (entries bag) (IsDistinct-entries bag) ∙ ap (λ o. unwrap_or o (pos 0)) (sym (get-entries bag row))

-- a bag is made again of its entries
pub bag_of-entries : (bag : Counts) → IsBag bag → bag_of (entries bag) ≡ bag
bag_of-entries bag is = same_counts _ bag (IsBag-bag_of (entries bag)) is (λ q. count_in-bag_of (entries bag) q ∙ count-entries bag q)

-- a sum counts each row as often as both bags
pub count_in-sum_of : (a b : Counts) (row : List Datum) → count_in (sum_of a b) row ≡ count_in a row +ℤ count_in b row
count_in-sum_of a b row = count_in-bag_of (entries a ++ entries b) row ∙ count-append row (entries a) (entries b) ∙ (λ i. count-entries a row i +ℤ count-entries b row i)

-- a negation counts each row to the negative
pub count_in-negation_of : (bag : Counts) (row : List Datum) → count_in (negation_of bag) row ≡ neg_ℤ (count_in bag row)
count_in-negation_of bag row = count_in-bag_of (negated (entries bag)) row ∙ count-negated row (entries bag) ∙ ap neg_ℤ (count-entries bag row)

-- a sum has no zero
pub IsBag-sum_of : (a b : Counts) → IsBag (sum_of a b)
IsBag-sum_of a b = IsBag-bag_of (entries a ++ entries b)

-- nor has a negation
pub IsBag-negation_of : (bag : Counts) → IsBag (negation_of bag)
IsBag-negation_of bag = IsBag-bag_of (negated (entries bag))

-- the sum of two lists' bags is the bag of both lists
pub sum_of-bag_of : (vs ws : Weighted) → sum_of (bag_of vs) (bag_of ws) ≡ bag_of (vs ++ ws)
sum_of-bag_of vs ws = same_counts _ _ (IsBag-sum_of (bag_of vs) (bag_of ws)) (IsBag-bag_of (vs ++ ws)) (λ q.
    count_in-sum_of (bag_of vs) (bag_of ws) q ∙ (λ i. count_in-bag_of vs q i +ℤ count_in-bag_of ws q i)
    ∙ sym (count_in-bag_of (vs ++ ws) q ∙ count-append q vs ws))

-- the negation of a list's bag is the bag of the negative weights
pub negation_of-bag_of : (ws : Weighted) → negation_of (bag_of ws) ≡ bag_of (negated ws)
negation_of-bag_of ws = same_counts _ _ (IsBag-negation_of (bag_of ws)) (IsBag-bag_of (negated ws)) (λ q.
    count_in-negation_of (bag_of ws) q ∙ ap neg_ℤ (count_in-bag_of ws q) ∙ sym (count_in-bag_of (negated ws) q ∙ count-negated q ws))
