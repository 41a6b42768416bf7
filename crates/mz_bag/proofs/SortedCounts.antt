-- Entries that are sorted by their rows are those of the map.
use Rattle.std.proofs.Common.{◌≡◌, ◌+◌, ◌<◌, Bool, true, false, ◌&&◌, T, ℤ, List, [], ◌∷◌, length, get_or, slice_get, pos, Option, None, Some, Contains, IsPermutation, IsSorted, refl, sym, ap, subst, ◌∙◌, true≢false, arith}
use Rattle.std.specs.Ordering.{int_cmp, ordering_then, ordering_reverse, is_lt, is_eq}
use Rattle.std.specs.declared.cmp.Ordering.{Ordering}
use Rattle.std.specs.declared.cmp.Ordering.TheVariants.{Less, Equal, Greater}
use Rattle.std.specs.List.{AllByRecursion, IsDistinct}
use Rattle.std.specs.List.Sorted.{IsStrictlySortedBy}
use Rattle.std.specs.Map.{keys_of, lookup}
use Rattle.std.specs.FinMap.{entries, is_sorted, get-entries, entries_sorted}
use Rattle.std.specs.FinMap.Entries.{below_all, same_entries}
use Rattle.std.proofs.lemmas.Map.Keys.{IsDistinct-IsPermutation, apart_from_distinct, sorted_from_all_adjacent}
use Rattle.std.proofs.lemmas.Map.Entries.{place_from_lookup, lookup_from_place}
use Rattle.std.proofs.lemmas.List.Sorted.{IsPermutation-map, IsPermutation-sym, Contains-permutation}
use Rattle.std.proofs.lemmas.List.{get_or-map}
use Rattle.std.proofs.lemmas.Map.Entries.{length-keys_of}
use Rattle.std.proofs.lemmas.Option.{slice_get_within, get_or_from_slice_get, slice_get-get_or}
use Rattle.mz_value.specs.declared.datum.Datum.{Datum}
use Rattle.mz_value.specs.Row.{row_cmp, row_eq}
use Rattle.mz_value.specs.RowOrder.{row_total, row_exact, row_equiv, row_eq-Decides}
use Rattle.mz_bag.specs.Bag.{map_of}
use Rattle.mz_bag.specs.Weighted.{Weighted}
use Rattle.mz_bag.proofs.StoredCounts.{find-lookup, get-map_of}

-- the order of pairs: by the row, and then by the count
abbrev pair_cmp : List Datum × ℤ → List Datum × ℤ → Ordering
pair_cmp p q = ordering_then (row_cmp p.0 q.0) (int_cmp p.1 q.1)

-- a row after another that is not it, in the order of pairs, is greater
rises : (r s : Ordering) → is_lt (ordering_then r s) ≡ false → is_eq r ≡ false → ordering_reverse r ≡ Less
rises Less s h apart = absurd (true≢false h)
rises Equal s h apart = absurd (true≢false apart)
rises Greater s h apart = refl

-- a test of two parts that hold
both : (a b : Bool) → T a → T b → T (a && b)
both true b p q = q
both false b p q = p

-- a row before each key passes the map's test
all_below : (row : List Datum) (es : Weighted) → AllByRecursion (λ k. row_cmp row k ≡ Less) (keys_of es) → T (below_all row_cmp row es)
all_below row [] h = tt
all_below row (e ∷ es) h = both _ _ (subst (λ r. T (is_lt r)) (sym h.0) tt) (all_below row es h.1)

-- and so do keys that are strictly in order
in_order : (es : Weighted) → IsStrictlySortedBy row_cmp (keys_of es) → T (is_sorted row_cmp es)
unfolding IsStrictlySortedBy
in_order [] h = tt
in_order (e ∷ es) h = both _ _ (all_below e.0 es h.0) (in_order es h.1)

-- pairs in order whose rows differ have their rows strictly in order
strict : (es : Weighted) → IsSorted pair_cmp es → IsDistinct row_eq (keys_of es) → IsStrictlySortedBy row_cmp (keys_of es)
strict es sorted once = sorted_from_all_adjacent row_total (keys_of es) [] (λ k h.
    let p : List Datum × ℤ = ([], pos 0) in
    let within : k + 1 < length es = omega (arith, h, length-keys_of es) in
    let before : k < length es = omega (arith, within) in
    let here : get_or (keys_of es) k [] ≡ (get_or es k p).0 = get_or-map (λ e. e.0) es k p [] before in
    let next : get_or (keys_of es) (k + 1) [] ≡ (get_or es (k + 1) p).0 = get_or-map (λ e. e.0) es (k + 1) p [] within in
    let apart : row_eq (get_or (keys_of es) k []) (get_or (keys_of es) (k + 1) []) ≡ false = apart_from_distinct row_eq (keys_of es) k (k + 1) [] once (omega arith) h in
    let turned : row_eq (get_or es (k + 1) p).0 (get_or es k p).0 ≡ false = row_equiv.symm (get_or es (k + 1) p).0 (get_or es k p).0 ∙ (λ i. row_eq (sym here i) (sym next i)) ∙ apart in
    (λ i. row_cmp (here i) (next i)) ∙ row_total.antisymm (get_or es k p).0 (get_or es (k + 1) p).0
    ∙ rises (row_cmp (get_or es (k + 1) p).0 (get_or es k p).0) _ (sorted k p (omega arith) within) turned)

-- what one list has at a row, the other has, where they are the same pairs and no row stands twice
found : (es fs : Weighted) → IsPermutation es fs → IsDistinct row_eq (keys_of fs) → (q : List Datum) (n : ℤ) → lookup (row_eq q) es ≡ Some n → lookup (row_eq q) fs ≡ Some n
found es fs moved once q n at =
    let place = place_from_lookup (row_eq q) es n at in
    let there : Contains es (place.1, n) = (place.0, slice_get_within es place.0 (place.1, n) place.2, get_or_from_slice_get es place.0 (place.1, n) (place.1, n) place.2) in
    let now = Contains-permutation es fs (place.1, n) moved there in
    let at_now : slice_get fs now.0 ≡ Some (place.1, n) = slice_get-get_or fs now.0 (place.1, n) now.1 ∙ ap Some now.2 in
    subst (λ k. lookup (row_eq k) fs ≡ Some n) (sym ((row_eq-Decides q place.1).0 place.3)) (lookup_from_place row_equiv fs now.0 place.1 n once at_now)

-- so both answer alike
alike : (es fs : Weighted) → IsPermutation es fs → IsDistinct row_eq (keys_of es) → IsDistinct row_eq (keys_of fs) → (q : List Datum) → lookup (row_eq q) es ≡ lookup (row_eq q) fs
alike es fs moved once now q = by (lookup (row_eq q) es) (lookup (row_eq q) fs) refl refl
  where
    by : (o p : Option ℤ) → lookup (row_eq q) es ≡ o → lookup (row_eq q) fs ≡ p → lookup (row_eq q) es ≡ lookup (row_eq q) fs
    by None None e f = e ∙ sym f
    by o (Some n) e f = found fs es (IsPermutation-sym es fs moved) once q n f ∙ sym f
    by (Some n) None e f = e ∙ sym (found es fs moved now q n e)

-- the pairs in order are the map's entries
pub sorted_entries : (es fs : Weighted) → IsPermutation es fs → IsSorted pair_cmp fs → IsDistinct row_eq (keys_of es) → fs ≡ entries (map_of es)
sorted_entries es fs moved sorted once =
    let now : IsDistinct row_eq (keys_of fs) = IsDistinct-IsPermutation row_eq row_equiv.symm (keys_of es) (keys_of fs) (IsPermutation-map (λ e. e.0) es fs moved) once in
    same_entries row_cmp row_total row_exact fs (entries (map_of es)) (in_order fs (strict fs sorted now)) (entries_sorted (map_of es)) (λ q.
    find-lookup fs q ∙ sym (alike es fs moved once now q) ∙ sym (get-map_of es q) ∙ get-entries (map_of es) q)
