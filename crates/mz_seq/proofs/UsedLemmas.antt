-- Places that are used: what is stored is there, or something came to it since the mark.
use Rattle.std.proofs.Common.{◌≡◌, Bool, true, false, cond, ℤ, pos, neg_ℤ, ◌+ℤ◌, List, [], ◌∷◌, None, Some, Result, Ok, Err, OnOk, OnErr, is_some, refl, sym, ap, subst, ◌∙◌, true≢false, arith}
use Rattle.std.proofs.lemmas.Int.{ints}
use Rattle.std.specs.FinMap.{empty, get}
use Rattle.std.specs.Map.{lookup}
use Rattle.mz_value.specs.Row.{row_eq}
use Rattle.mz_value.specs.RowOrder.{row_equiv, row_eq-Decides}
use Rattle.mz_value.specs.declared.datum.Datum.{Datum}
use Rattle.mz_bag.specs.Bag.{Counts, count_in, map_of}
use Rattle.mz_bag.specs.Weighted.{Weighted, negation_of, sum_of}
use Rattle.mz_bag.proofs.BagLaws.{count_in-empty, count_in-negation_of, count_in-sum_of}
use Rattle.mz_bag.proofs.StoredCounts.{count_in-lookup, get-map_of}
use Rattle.mz_seq.specs.Stored.{count_at, has_row, AreUsed, IsUsed}
use Rattle.mz_seq.proofs.StoredLemmas.{none_counts}

-- a row that isn't stored is neither the first nor behind it
pub lacks_both : (row q : List Datum) (n : ℤ) (es : Weighted) → has_row ((row, n) ∷ es) q ≡ false → (row_eq q row ≡ false) × (has_row es q ≡ false)
lacks_both row q n es none = by (row_eq q row) refl none
  where
    by : (c : Bool) → row_eq q row ≡ c → is_some (cond c (Some n) (lookup (row_eq q) es)) ≡ false → (row_eq q row ≡ false) × (has_row es q ≡ false)
    by true is h = absurd (true≢false h)
    by false is h = (is, h)

-- a row that comes makes no place for another
pub no_other : (es fs : Weighted) (row : List Datum) (n : ℤ)
    → ((q : List Datum) → lookup (row_eq q) fs ≡ cond (row_eq row q) (Some n) (lookup (row_eq q) es))
    → (q : List Datum) → row_eq q row ≡ false → has_row fs q ≡ true → has_row es q ≡ true
no_other es fs row n given q other has =
    ap (λ c. is_some (cond c (Some n) (lookup (row_eq q) es))) (sym (row_equiv.symm row q ∙ other)) ∙ sym (ap is_some (given q)) ∙ has

-- and one that goes makes none
pub none_comes : (es fs : Weighted) (row : List Datum)
    → ((q : List Datum) → lookup (row_eq q) fs ≡ cond (row_eq row q) None (lookup (row_eq q) es))
    → (q : List Datum) → has_row fs q ≡ true → has_row es q ≡ true
none_comes es fs row given q has = by (row_eq row q) (sym (ap is_some (given q)) ∙ has)
  where
    by : (c : Bool) → is_some (cond c None (lookup (row_eq q) es)) ≡ true → has_row es q ≡ true
    by true h = absurd (true≢false (sym h))
    by false h = h

-- it isn't stored then
pub gone_used : (es fs : Weighted) (row : List Datum) (changes : Counts)
    → ((q : List Datum) → lookup (row_eq q) fs ≡ cond (row_eq row q) None (lookup (row_eq q) es)) → IsUsed fs changes row
gone_used es fs row changes given has =
    absurd (true≢false (sym has ∙ ap is_some (given row) ∙ ap (λ c. is_some (cond c None (lookup (row_eq row) es))) (row_equiv.refl row)))

-- a row behind the first is used, and so is the first
pub used_next : (fs gs : Weighted) (changes : Counts) (row q : List Datum) (n : ℤ) (rest : Weighted)
    → IsUsed gs changes row → (has_row ((row, n) ∷ rest) q ≡ false → IsUsed fs changes q) → (has_row gs q ≡ true → has_row fs q ≡ true)
    → count_at gs q ≡ count_at fs q → has_row rest q ≡ false → IsUsed gs changes q
used_next fs gs changes row q n rest own before stays same none = by (row_eq q row) refl
  where
    by : (c : Bool) → row_eq q row ≡ c → IsUsed gs changes q
    by true is = subst (IsUsed gs changes) (sym ((row_eq-Decides q row).0 is)) own
    by false is = λ has zero.
        before (ap (λ c. is_some (cond c (Some n) (lookup (row_eq q) rest))) is ∙ none) (stays has) (sym same ∙ zero)

-- rows that aren't among those that are swept are used where they were
pub swept_used : (es fs gs rows : Weighted) (before after : Counts) → AreUsed es before
    → ((q : List Datum) → has_row rows q ≡ false → has_row fs q ≡ true → has_row es q ≡ true)
    → ((q : List Datum) → has_row rows q ≡ false → count_at fs q ≡ count_at es q)
    → ((q : List Datum) → has_row rows q ≡ false → count_in after q ≡ count_in before q)
    → ((q : List Datum) → has_row gs q ≡ true → has_row fs q ≡ true) → ((q : List Datum) → count_at gs q ≡ count_at fs q)
    → ((q : List Datum) → has_row rows q ≡ true → IsUsed gs after q) → AreUsed gs after
swept_used es fs gs rows before after is only counts same stays kept gone = record { used = λ q. by q (has_row rows q) refl }
  where
    by : (q : List Datum) (c : Bool) → has_row rows q ≡ c → IsUsed gs after q
    by q true among = gone q among
    by q false among = λ has zero none.
        is.used q (only q among (stays q has)) (sym (counts q among) ∙ sym (kept q) ∙ zero) (sym (same q among) ∙ none)

-- a row that a bag doesn't have isn't among those that make it
pub no_place : (rows : Weighted) (bag : Counts) (q : List Datum) → map_of rows ≡ bag → is_some (get bag q) ≡ false → has_row rows q ≡ false
no_place rows bag q whole none = ap is_some (sym (get-map_of rows q)) ∙ ap (λ (b : Counts). is_some (get b q)) whole ∙ none

-- and one that isn't among them counts 0 in the bag
lacks_count : (rows : Weighted) (bag : Counts) (q : List Datum) → map_of rows ≡ bag → has_row rows q ≡ false → count_in bag q ≡ pos 0
lacks_count rows bag q whole lacks = ap (λ (b : Counts). count_in b q) (sym whole) ∙ count_in-lookup rows q ∙ none_counts (lookup (row_eq q) rows) lacks

-- a change is swept once it has come, or hasn't
pub put_used : {E : Type 0} (result : Result (Unit {0}) E) (es fs gs rows : Weighted) (before change after : Counts) → map_of rows ≡ change
    → OnOk result ((q : List Datum) → count_at fs q ≡ count_at es q +ℤ count_in change q) → OnOk result (after ≡ sum_of before change)
    → OnErr result ((q : List Datum) → count_at fs q ≡ count_at es q) → OnErr result (after ≡ before)
    → ((q : List Datum) → is_some (get change q) ≡ false → has_row fs q ≡ true → has_row es q ≡ true)
    → ((q : List Datum) → has_row gs q ≡ true → has_row fs q ≡ true) → ((q : List Datum) → count_at gs q ≡ count_at fs q)
    → ((q : List Datum) → has_row rows q ≡ true → IsUsed gs after q) → AreUsed es before → AreUsed gs after
put_used {E} result es fs gs rows before change after whole counts sum same kept only stays swept gone is = by result counts sum same kept
  where
    none : (q : List Datum) → has_row rows q ≡ false → count_in change q ≡ pos 0
    none q lacks = lacks_count rows change q whole lacks

    only_these : (q : List Datum) → has_row rows q ≡ false → has_row fs q ≡ true → has_row es q ≡ true
    only_these q lacks = only q (ap (λ (b : Counts). is_some (get b q)) (sym whole) ∙ ap is_some (get-map_of rows q) ∙ lacks)

    by : (r : Result (Unit {0}) E) → OnOk r ((q : List Datum) → count_at fs q ≡ count_at es q +ℤ count_in change q) → OnOk r (after ≡ sum_of before change)
        → OnErr r ((q : List Datum) → count_at fs q ≡ count_at es q) → OnErr r (after ≡ before) → AreUsed gs after
    by (Ok u) moved total a b = swept_used es fs gs rows before after is only_these
        (λ q lacks. let zero : count_in change q ≡ pos 0 = none q lacks in omega (arith, ints, moved q, zero))
        (λ q lacks.
        let zero : count_in change q ≡ pos 0 = none q lacks in
        let all : count_in after q ≡ count_in before q +ℤ count_in change q = ap (λ (b : Counts). count_in b q) total ∙ count_in-sum_of before change q in
        omega (arith, ints, all, zero))
        stays swept gone
    by (Err e) a b alike last = swept_used es fs gs rows before after is only_these (λ q lacks. alike q) (λ q lacks. ap (λ (b : Counts). count_in b q) last) stays swept gone

-- at a mark the rows to which something came are swept
pub marked_used : (es gs rows : Weighted) (before none : Counts) → none ≡ empty → map_of rows ≡ before → AreUsed es before
    → ((q : List Datum) → has_row gs q ≡ true → has_row es q ≡ true) → ((q : List Datum) → count_at gs q ≡ count_at es q)
    → ((q : List Datum) → has_row rows q ≡ true → IsUsed gs none q) → AreUsed gs none
marked_used es gs rows before none is_empty whole is stays same gone =
    swept_used es es gs rows before none is (λ q lacks has. has) (λ q lacks. refl)
    (λ q lacks. ap (λ (b : Counts). count_in b q) is_empty ∙ count_in-empty q ∙ sym (lacks_count rows before q whole lacks)) stays same gone

-- and so they are on the way back
pub back_used : (es fs gs rows : Weighted) (changes none : Counts) → none ≡ empty → map_of rows ≡ negation_of changes → AreUsed es changes
    → ((q : List Datum) → has_row fs q ≡ has_row es q) → ((q : List Datum) → count_at fs q ≡ count_at es q +ℤ count_in (map_of rows) q)
    → ((q : List Datum) → has_row gs q ≡ true → has_row fs q ≡ true) → ((q : List Datum) → count_at gs q ≡ count_at fs q)
    → ((q : List Datum) → has_row rows q ≡ true → IsUsed gs none q) → AreUsed gs none
back_used es fs gs rows changes none is_empty negative is places moved stays same gone =
    swept_used es fs gs rows changes none is (λ q lacks has. sym (places q) ∙ has)
    (λ q lacks. let zero : count_in (map_of rows) q ≡ pos 0 = lacks_count rows (map_of rows) q refl lacks in omega (arith, ints, moved q, zero))
    (λ q lacks.
    let zero : count_in (map_of rows) q ≡ pos 0 = lacks_count rows (map_of rows) q refl lacks in
    let own : count_in (map_of rows) q ≡ neg_ℤ (count_in changes q) = ap (λ (b : Counts). count_in b q) negative ∙ count_in-negation_of changes q in
    let nothing : count_in none q ≡ pos 0 = ap (λ (b : Counts). count_in b q) is_empty ∙ count_in-empty q in
    omega (arith, ints, zero, own, nothing))
    stays same gone

-- where no row is stored, all that are are used
pub none_used : (es : Weighted) (changes : Counts) → es ≡ [] → AreUsed es changes
none_used es changes is = record { used = λ q has. absurd (true≢false (sym has ∙ ap (λ (ws : Weighted). has_row ws q) is)) }
