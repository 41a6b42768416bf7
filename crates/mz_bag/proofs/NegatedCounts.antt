-- Entries whose counts are turned to their negatives.
use Rattle.std.proofs.Common.{◌≡◌, ◌≢◌, ℕ, zero, suc, ◌+◌, Bool, true, false, cond, ℤ, pos, neg_ℤ, List, [], ◌∷◌, length, slice_get, Option, None, Some, unwrap_or, refl, sym, ap, subst, ◌∙◌, add-one, arith}
use Rattle.std.proofs.lemmas.Int.{ints}
use Rattle.std.specs.Option.{option_map}
use Rattle.std.specs.List.{IsDistinct}
use Rattle.std.specs.Map.{keys_of, values_of, lookup}
use Rattle.std.proofs.lemmas.Map.Entries.{lookup_from_place}
use Rattle.indexmap.specs.IndexMap.{set_value_at}
use Rattle.mz_value.specs.declared.datum.Datum.{Datum}
use Rattle.mz_value.specs.Row.{row_eq}
use Rattle.mz_value.specs.RowOrder.{row_equiv}
use Rattle.mz_bag.specs.Bag.{count_in, map_of, Fits, IsStored}
use Rattle.mz_bag.specs.Weighted.{Weighted, negated, negation_of}
use Rattle.mz_bag.proofs.BagLaws.{same_counts, IsBag-negation_of, count_in-negation_of}
use Rattle.mz_bag.proofs.StoredCounts.{get-map_of, count_in-lookup}

-- ---- one after another

-- the entries with the counts before a place turned
abbrev pub negated_to : ℕ → Weighted → Weighted
negated_to zero es = es
negated_to (suc n) [] = []
negated_to (suc n) (e ∷ es) = (e.0, neg_ℤ e.1) ∷ negated_to n es

-- with all of them turned
pub negated_to-all : (es : Weighted) → negated_to (length es) es ≡ negated es
negated_to-all [] = refl
negated_to-all (e ∷ es) = ap (λ ws. (e.0, neg_ℤ e.1) ∷ ws) (negated_to-all es)

-- one more count is turned by a write at the place
more : (es : Weighted) (n : ℕ) (v : ℤ) → slice_get (values_of (negated_to n es)) n ≡ Some v → set_value_at (negated_to n es) n (neg_ℤ v) ≡ negated_to (suc n) es
more [] zero v at = cc
more [] (suc n) v at = cc
more (e ∷ es) zero v at = let same : e.1 ≡ v = cc in ap (λ z. (e.0, neg_ℤ z) ∷ es) (sym same)
more (e ∷ es) (suc n) v at = ap (λ ws. (e.0, neg_ℤ e.1) ∷ ws) (more es n v at)

-- the same, of the entries as they are then
pub turned_more : (es now : Weighted) (n : ℕ) (v w : ℤ) → now ≡ negated_to n es → slice_get (values_of now) n ≡ Some v → w ≡ neg_ℤ v → set_value_at now n w ≡ negated_to (n + 1) es
turned_more es now n v w is at negative =
    (λ i. set_value_at (is i) n (negative i)) ∙ more es n v (subst (λ ws. slice_get (values_of ws) n ≡ Some v) is at) ∙ ap (λ k. negated_to k es) (sym (add-one n))

-- the count at the place is still the one that was there
before : (es : Weighted) (n : ℕ) (v : ℤ) → slice_get (values_of (negated_to n es)) n ≡ Some v → (k : List Datum) × (slice_get es n ≡ Some (k, v))
before [] zero v at = cc
before [] (suc n) v at = cc
before (e ∷ es) zero v at = let same : e.1 ≡ v = cc in (e.0, ap (λ z. Some (e.0, z)) same)
before (e ∷ es) (suc n) v at = before es n v at

-- so it is within the bound
pub turned_fits : (es now : Weighted) (n : ℕ) (v : ℤ) → IsDistinct row_eq (keys_of es) → IsStored (map_of es) → now ≡ negated_to n es → slice_get (values_of now) n ≡ Some v → Fits v
turned_fits es now n v once stored is at =
    let place = before es n v (subst (λ ws. slice_get (values_of ws) n ≡ Some v) is at) in
    subst Fits (count_in-lookup es place.0 ∙ ap (λ o. unwrap_or o (pos 0)) (lookup_from_place row_equiv es n place.0 v once place.1)) (stored.fits place.0)

-- ---- all of them

-- what is found is the negative
lookup-negated : (q : List Datum) (es : Weighted) → lookup (row_eq q) (negated es) ≡ option_map neg_ℤ (lookup (row_eq q) es)
lookup-negated q [] = refl
lookup-negated q (e ∷ es) = by (row_eq q e.0) (lookup-negated q es)
  where
    by : (c : Bool) → lookup (row_eq q) (negated es) ≡ option_map neg_ℤ (lookup (row_eq q) es) → cond c (Some (neg_ℤ e.1)) (lookup (row_eq q) (negated es)) ≡ option_map neg_ℤ (cond c (Some e.1) (lookup (row_eq q) es))
    by true rest = refl
    by false rest = rest

-- so the count is
count_in-negated : (q : List Datum) (es : Weighted) → count_in (map_of (negated es)) q ≡ neg_ℤ (count_in (map_of es) q)
count_in-negated q es = count_in-lookup (negated es) q ∙ ap (λ o. unwrap_or o (pos 0)) (lookup-negated q es) ∙ by (lookup (row_eq q) es) ∙ ap neg_ℤ (sym (count_in-lookup es q))
  where
    by : (o : Option ℤ) → unwrap_or (option_map neg_ℤ o) (pos 0) ≡ neg_ℤ (unwrap_or o (pos 0))
    by None = refl
    by (Some n) = refl

-- the negative of what is not 0 is not 0
not_zero : (o : Option ℤ) → o ≢ Some (pos 0) → option_map neg_ℤ o ≢ Some (pos 0)
not_zero None h e = cc
not_zero (Some n) h e = let none : neg_ℤ n ≡ pos 0 = cc in h (ap Some (omega (arith, ints)))

-- the bound is the same on both sides
fits_negative : (n : ℤ) → Fits n → Fits (neg_ℤ n)
fits_negative n fits = record { low = omega (arith, ints, fits.low, fits.high); high = omega (arith, ints, fits.low, fits.high) }

-- the map that is left is that of a stored bag
pub IsStored-negated : (es : Weighted) → IsStored (map_of es) → IsStored (map_of (negated es))
IsStored-negated es is = record {
  no_zero = record { no_zero = λ q. subst (λ (o : Option ℤ). o ≢ Some (pos 0)) (sym (get-map_of (negated es) q ∙ lookup-negated q es)) (not_zero (lookup (row_eq q) es) (subst (λ (o : Option ℤ). o ≢ Some (pos 0)) (get-map_of es q) (is.no_zero.no_zero q))) };
  fits = λ q. subst Fits (sym (count_in-negated q es)) (fits_negative (count_in (map_of es) q) (is.fits q));
}

-- and the negation of the one before
pub map_of-negated : (es : Weighted) → IsStored (map_of es) → map_of (negated es) ≡ negation_of (map_of es)
map_of-negated es is = same_counts _ _ (IsStored-negated es is).no_zero (IsBag-negation_of (map_of es)) (λ q. count_in-negated q es ∙ sym (count_in-negation_of (map_of es) q))
