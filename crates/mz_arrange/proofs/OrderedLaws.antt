-- The counts of rows that stand in order, each once.
use Rattle.std.proofs.Common.{◌≡◌, Bool, true, false, cond, ℤ, pos, ◌+ℤ◌, List, [], ◌∷◌, ◌++◌, ℕ, ◌+◌, ◌<◌, length, take, get_or, refl, sym, ap, subst, ◌∙◌, unwrap_or, true≢false, arith}
use Rattle.std.proofs.lemmas.Int.{ints}
use Rattle.std.proofs.lemmas.List.{take_more}
use Rattle.std.proofs.lemmas.Map.Keys.{IsDistinct-from_sorted}
use Rattle.std.specs.BTreeMap.{BTreeMap, get, IsOrdered}
use Rattle.std.specs.List.{AllByRecursion as Each}
use Rattle.std.specs.Map.{keys_of}
use Rattle.std.specs.Option.{is_some, IsSome}
use Rattle.std.specs.declared.option.Option.{Option}
use Rattle.std.specs.declared.option.Option.TheVariants.{None, Some}
use Rattle.std.specs.declared.result.Result.{Result}
use Rattle.std.specs.declared.result.Result.TheVariants.{Ok, Err}
use Rattle.std.specs.Result.{IsOk, OnErr}
use Rattle.mz_value.specs.declared.datum.Datum.{Datum}
use Rattle.mz_value.specs.Row.{row_cmp, row_eq}
use Rattle.mz_value.specs.RowOrder.{row_eq-Decides, row_equiv}
use Rattle.mz_bag.specs.Weighted.{Weighted, count}
use Rattle.mz_bag.proofs.BagLaws.{count-distinct}
use Rattle.mz_bag.proofs.StoredCounts.{find-lookup}
use Rattle.mz_arrange.specs.Kept.{SameRows}

-- rows in order, each with a count
abbrev pub Rows : Type 0
Rows = BTreeMap (List Datum) ℤ

-- a row's count is the one that stands with it
pub count-get : (q : List Datum) (m : Rows) → IsOrdered row_cmp m → count q m.entries ≡ unwrap_or (get row_cmp m q) (pos 0)
count-get q m h = count-distinct q m.entries (IsDistinct-from_sorted row_cmp (keys_of m.entries) h) ∙ ap (λ o. unwrap_or o (pos 0)) (find-lookup m.entries q)

-- where one row is given another count, all others keep theirs
pub count-given : (old new : Rows) (row q : List Datum) (w : Option ℤ) (n : ℤ) → IsOrdered row_cmp old → IsOrdered row_cmp new → unwrap_or w (pos 0) ≡ n
    → get row_cmp new q ≡ cond (row_eq row q) w (get row_cmp old q) → count q new.entries ≡ cond (row_eq row q) n (count q old.entries)
count-given old new row q w n first second is h = count-get q new second ∙ ap (λ o. unwrap_or o (pos 0)) h ∙ by (row_eq row q)
  where
    by : (c : Bool) → unwrap_or (cond c w (get row_cmp old q)) (pos 0) ≡ cond c n (count q old.entries)
    by true = is
    by false = sym (count-get q old first)

-- and they stay among the rows
pub some-given : (old new : Rows) (row q : List Datum) (w : Option ℤ) → get row_cmp new q ≡ cond (row_eq row q) w (get row_cmp old q) → row_eq row q ≡ false
    → IsSome (get row_cmp old q) → IsSome (get row_cmp new q)
some-given old new row q w h other some = subst IsSome (sym (h ∙ ap (λ b. cond b w (get row_cmp old q)) other)) some

-- a row that comes with the count 0 changes no count
pub same_placed : (old new : Rows) (row : List Datum) → IsOrdered row_cmp old → IsOrdered row_cmp new → get row_cmp old row ≡ None
    → ((q : List Datum) → get row_cmp new q ≡ cond (row_eq row q) (Some (pos 0)) (get row_cmp old q)) → SameRows new.entries old.entries
same_placed old new row first second none h = record {
  counts = λ q. count-given old new row q (Some (pos 0)) (pos 0) first second refl (h q) ∙ by q (row_eq row q) refl;
}
  where
    by : (q : List Datum) (c : Bool) → row_eq row q ≡ c → cond c (pos 0) (count q old.entries) ≡ count q old.entries
    by q true e = sym (count-get q old first ∙ ap (λ r. unwrap_or (get row_cmp old r) (pos 0)) (sym ((row_eq-Decides row q).0 e)) ∙ ap (λ o. unwrap_or o (pos 0)) none)
    by q false e = refl

-- what isn't some is none
pub none_from : {T : Type 0} (o : Option T) (c : Bool) → c ≡ is_some o → c ≡ false → o ≡ None
none_from None c e h = refl
none_from (Some x) c e h = absurd (true≢false (sym e ∙ h))

-- where only what is new fails, what is there doesn't
pub is_given : {T E : Type 0} (r : Result T E) (o : Option ℤ) → OnErr r (o ≡ None) → IsSome o → IsOk r
is_given (Ok x) o h some = refl
is_given (Err e) o h some = subst IsSome h some

-- a new count is the old one with a diff
count-added : (row q : List Datum) (ws : Weighted) (diff : ℤ) → cond (row_eq row q) (count row ws +ℤ diff) (count q ws) ≡ count q ((row, diff) ∷ ws)
count-added row q ws diff = by (row_eq row q) refl ∙ ap (λ b. cond b diff (pos 0) +ℤ count q ws) (row_equiv.symm row q)
  where
    by : (c : Bool) → row_eq row q ≡ c → cond c (count row ws +ℤ diff) (count q ws) ≡ cond c diff (pos 0) +ℤ count q ws
    by true e = ap (λ r. count r ws +ℤ diff) ((row_eq-Decides row q).0 e) ∙ omega (arith, ints)
    by false e = omega (arith, ints)

pub same_added : (old new : Rows) (row : List Datum) (diff number : ℤ) → number ≡ count row old.entries +ℤ diff
    → ((q : List Datum) → count q new.entries ≡ cond (row_eq row q) number (count q old.entries)) → SameRows new.entries ((row, diff) ∷ old.entries)
same_added old new row diff number is h = record {
  counts = λ q. h q ∙ ap (λ z. cond (row_eq row q) z (count q old.entries)) is ∙ count-added row q old.entries diff;
}

-- the places of the others stay
pub places_kept : (old new : Rows) (row : List Datum) (rest : Weighted) → ((q : List Datum) → row_eq row q ≡ false → IsSome (get row_cmp old q) → IsSome (get row_cmp new q))
    → Each (λ k. row_eq row k ≡ false) (keys_of rest) → Each (λ w. IsSome (get row_cmp old w.0)) rest → Each (λ w. IsSome (get row_cmp new w.0)) rest
places_kept old new row [] h apart places = tt
places_kept old new row (w ∷ rest) h apart places = (h w.0 apart.0 places.0, places_kept old new row rest h apart.1 places.1)

-- and of all, where none goes
places_same : (old new : Rows) (ws : Weighted) → ((q : List Datum) → IsSome (get row_cmp old q) → IsSome (get row_cmp new q))
    → Each (λ w. IsSome (get row_cmp old w.0)) ws → Each (λ w. IsSome (get row_cmp new w.0)) ws
places_same old new [] h places = tt
places_same old new (w ∷ ws) h places = (h w.0 places.0, places_same old new ws h places.1)

-- and one more is there
places_more : (m : Rows) (ws : Weighted) (w : List Datum × ℤ) → Each (λ v. IsSome (get row_cmp m v.0)) ws → IsSome (get row_cmp m w.0) → Each (λ v. IsSome (get row_cmp m v.0)) (ws ++ w ∷ [])
places_more m [] w places place = (place, tt)
places_more m (v ∷ ws) w places place = (places.0, places_more m ws w places.1 place)

-- so that of the next of a list is there too
pub places_next : (old new : Rows) (all : Weighted) (i : ℕ) (w : List Datum × ℤ) → i < length all → w ≡ get_or all i w
    → ((q : List Datum) → IsSome (get row_cmp old q) → IsSome (get row_cmp new q)) → IsSome (get row_cmp new w.0)
    → Each (λ v. IsSome (get row_cmp old v.0)) (take i all) → Each (λ v. IsSome (get row_cmp new v.0)) (take (i + 1) all)
places_next old new all i w within is h place places =
    subst (λ (ws : Weighted). Each (λ v. IsSome (get row_cmp new v.0)) ws) (ap (λ v. take i all ++ v ∷ []) is ∙ sym (take_more all i w within))
    (places_more new (take i all) w (places_same old new (take i all) h places) place)

-- a weight that goes from what is to come among the rows leaves the sum
pub summed_next : (q : List Datum) (old new : Weighted) (row : List Datum) (diff : ℤ) (rest : Weighted) → SameRows new ((row, diff) ∷ old)
    → count q new +ℤ count q rest ≡ count q old +ℤ count q ((row, diff) ∷ rest)
summed_next q old new row diff rest same = ap (λ z. z +ℤ count q rest) (same.counts q) ∙ by (row_eq q row)
  where
    by : (c : Bool) → (cond c diff (pos 0) +ℤ count q old) +ℤ count q rest ≡ count q old +ℤ (cond c diff (pos 0) +ℤ count q rest)
    by true = omega (arith, ints)
    by false = omega (arith, ints)

-- rows of which none is left are none
pub no_row : (ws : Weighted) → length ws ≡ 0 → ws ≡ []
no_row [] h = refl
no_row (w ∷ ws) h = cc
