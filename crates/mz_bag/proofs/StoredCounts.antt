-- The map that stored entries make, and how it follows them.
use Rattle.std.proofs.Common.{◌≡◌, ◌≢◌, ◌+◌, Bool, true, false, cond, ℤ, pos, ◌+ℤ◌, List, [], ◌∷◌, length, None, Some, Result, Ok, Err, OnOk, OnErr, unwrap_or, is_some, refl, sym, ap, subst, ◌∙◌, arith}
use Rattle.std.proofs.lemmas.Int.{ints}
use Rattle.std.proofs.lemmas.Map.Keys.{IsDistinct-head, IsDistinct-tail}
use Rattle.std.specs.List.{IsDistinct}
use Rattle.std.specs.Ordering.{int_eq}
use Rattle.std.specs.Cmp.{signed_Decides}
use Rattle.std.specs.Map.{keys_of, lookup}
use Rattle.std.specs.FinMap.{empty, find, get, insert, remove, len, same_map, get-insert, get-remove, get-from_entries, len-empty, len-insert}
use Rattle.mz_value.specs.declared.datum.Datum.{Datum}
use Rattle.mz_value.specs.Row.{row_cmp, row_eq}
use Rattle.mz_value.specs.RowOrder.{row_total, row_exact, row_equiv}
use Rattle.mz_bag.specs.Bag.{Counts, count_in, with_count, map_of, Fits, IsStored}
use Rattle.mz_bag.specs.Weighted.{Weighted, count}
use Rattle.mz_bag.proofs.BagLaws.{count_in-with_count, count_in-added, count_in-empty, count-distinct, count_in-map_of, find-absent, IsBag-with_count, IsBag-empty}

-- the map's look-up is the list's
pub find-lookup : (es : Weighted) (q : List Datum) → find row_cmp q es ≡ lookup (row_eq q) es
find-lookup [] q = refl
find-lookup (e ∷ es) q = ap (cond (row_eq q e.0) (Some e.1)) (find-lookup es q)

-- what the map of the entries has at a row
pub get-map_of : (es : Weighted) (q : List Datum) → get (map_of es) q ≡ lookup (row_eq q) es
get-map_of es q = get-from_entries row_total es q ∙ find-lookup es q

-- and how often it counts it
pub count_in-lookup : (es : Weighted) (q : List Datum) → count_in (map_of es) q ≡ unwrap_or (lookup (row_eq q) es) (pos 0)
count_in-lookup es q = ap (λ o. unwrap_or o (pos 0)) (get-map_of es q)

-- entries that differ at one row make maps that differ there
pub one_given : (es fs : Weighted) (row : List Datum) (n : ℤ) → ((q : List Datum) → lookup (row_eq q) fs ≡ cond (row_eq row q) (Some n) (lookup (row_eq q) es)) → map_of fs ≡ insert (map_of es) row n
one_given es fs row n h = same_map row_total row_exact _ _ (λ q.
    get-map_of fs q ∙ h q ∙ ap (λ b. cond b (Some n) (lookup (row_eq q) es)) (row_equiv.symm row q)
    ∙ sym (get-insert row_total (map_of es) row n q ∙ ap (cond (row_eq q row) (Some n)) (get-map_of es q)))

-- and where the row is gone
pub one_removed : (es fs : Weighted) (row : List Datum) → ((q : List Datum) → lookup (row_eq q) fs ≡ cond (row_eq row q) None (lookup (row_eq q) es)) → map_of fs ≡ remove (map_of es) row
one_removed es fs row h = same_map row_total row_exact _ _ (λ q.
    get-map_of fs q ∙ h q ∙ ap (λ b. cond b None (lookup (row_eq q) es)) (row_equiv.symm row q)
    ∙ sym (get-remove row_total (map_of es) row q ∙ ap (cond (row_eq q row) None) (get-map_of es q)))

-- a count that is set to 0 takes the row out
pub with_count-zero : (bag : Counts) (row : List Datum) (n : ℤ) → n ≡ pos 0 → with_count bag row n ≡ remove bag row
with_count-zero bag row n e = ap (λ b. cond b (remove bag row) (insert bag row n)) ((signed_Decides n (pos 0)).1 e)

-- and any other stays
pub with_count-other : (bag : Counts) (row : List Datum) (n : ℤ) → n ≢ pos 0 → with_count bag row n ≡ insert bag row n
with_count-other bag row n apart = by (int_eq n (pos 0)) refl
  where
    by : (b : Bool) → int_eq n (pos 0) ≡ b → cond b (remove bag row) (insert bag row n) ≡ insert bag row n
    by true e = absurd (apart ((signed_Decides n (pos 0)).0 e))
    by false e = refl

-- ---- what a stored bag is

-- 0 is within the bound
fits_zero : Fits (pos 0)
fits_zero = record { low = omega (arith, ints); high = omega (arith, ints) }

-- the bag without a row is one
pub IsStored-empty : IsStored empty
IsStored-empty = record { no_zero = IsBag-empty; fits = λ q. subst Fits (sym (count_in-empty q)) fits_zero }

-- one that is stored stays so where a count within the bound is set
pub IsStored-with_count : (bag : Counts) (row : List Datum) (n : ℤ) → Fits n → IsStored bag → IsStored (with_count bag row n)
IsStored-with_count bag row n fits is = record { no_zero = IsBag-with_count bag row n is.no_zero; fits = λ q. subst Fits (sym (count_in-with_count bag row n q)) (by q (row_eq q row)) }
  where
    by : (q : List Datum) (c : Bool) → Fits (cond c n (count_in bag q))
    by q true = fits
    by q false = is.fits q

-- whether or not there was the memory to set it
pub IsStored-either : {E : Type 0} (r : Result (Unit {0}) E) (es fs : Weighted) (row : List Datum) (n : ℤ) → OnOk r (map_of fs ≡ with_count (map_of es) row n) → OnErr r (fs ≡ es) → Fits n → IsStored (map_of es) → IsStored (map_of fs)
IsStored-either (Ok u) es fs row n ok err fits is = subst IsStored (sym ok) (IsStored-with_count (map_of es) row n fits is)
IsStored-either (Err e) es fs row n ok err fits is = subst (λ gs. IsStored (map_of gs)) (sym err) is

-- a map of entries with a row each is as long as they are
pub len-map_of : (es : Weighted) → IsDistinct row_eq (keys_of es) → len (map_of es) ≡ length es
len-map_of [] h = len-empty row_cmp ℤ
len-map_of (e ∷ es) h =
    let absent : is_some (get (map_of es) e.0) ≡ false = ap is_some (get-from_entries row_total es e.0 ∙ find-absent e.0 es (IsDistinct-head row_eq e.0 (keys_of es) h)) in
    let rest : len (map_of es) ≡ length es = len-map_of es (IsDistinct-tail row_eq e.0 (keys_of es) h) in
    len-insert row_total (map_of es) e.0 e.1 ∙ ap (λ b. cond b (len (map_of es)) (len (map_of es) + 1)) absent ∙ omega arith

-- ---- adding up

-- a row that stands first, and not again, has its own weight
pub count-first : (row : List Datum) (n : ℤ) (es : Weighted) → IsDistinct row_eq (keys_of ((row, n) ∷ es)) → count row ((row, n) ∷ es) ≡ n
count-first row n es once =
    let none : count row es ≡ pos 0 = count-distinct row es (IsDistinct-tail row_eq row (keys_of es) once) ∙ ap (λ o. unwrap_or o (pos 0)) (find-absent row es (IsDistinct-head row_eq row (keys_of es) once)) in
    ap (λ b. cond b n (pos 0) +ℤ count row es) (row_equiv.refl row) ∙ omega (arith, ints)

-- a weight that is added is one less to come
pub count_in-next : (bag : Counts) (row : List Datum) (n : ℤ) (es : Weighted) (q : List Datum) → count_in (with_count bag row (count_in bag row +ℤ n)) q +ℤ count q es ≡ count_in bag q +ℤ count q ((row, n) ∷ es)
count_in-next bag row n es q = omega (arith, ints, count_in-added bag row n q)

-- the counts of copies are those of both maps
pub count-both : (es fs more others : Weighted) (q : List Datum) → fs ≡ es → more ≡ others → IsDistinct row_eq (keys_of others) → count_in (map_of fs) q +ℤ count q more ≡ count_in (map_of es) q +ℤ count_in (map_of others) q
count-both es fs more others q same copied once =
    (λ i. count_in (map_of (same i)) q +ℤ count q (copied i)) ∙ ap (λ z. count_in (map_of es) q +ℤ z) (sym (count_in-map_of q others once))
