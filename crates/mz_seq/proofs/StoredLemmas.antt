-- How stored counts follow what is done to them.
use Rattle.std.proofs.Common.{◌≡◌, Bool, true, false, cond, ℕ, ◌+◌, ◌<◌, suc, not, length, nat_lt, ℤ, pos, ◌+ℤ◌, List, [], ◌∷◌, Option, None, Some, unwrap_or, is_some, if◌then◌else◌, refl, sym, ap, subst, ◌∙◌, true≢false, arith}
use Rattle.std.proofs.lemmas.Int.{ints}
use Rattle.std.proofs.lemmas.Bool.{ltb-true}
use Rattle.std.specs.List.{IsDistinct, position, position_or_len}
use Rattle.std.specs.Map.{keys_of, lookup}
use Rattle.std.proofs.lemmas.Map.Entries.{length-keys_of}
use Rattle.std.proofs.lemmas.Map.Keys.{IsDistinct-head}
use Rattle.indexmap.specs.IndexMap.{set_value_at}
use Rattle.mz_value.specs.Row.{row_eq}
use Rattle.mz_value.specs.RowOrder.{row_equiv, row_eq-Decides}
use Rattle.mz_value.specs.declared.datum.Datum.{Datum}
use Rattle.mz_bag.specs.Bag.{Counts, count_in}
use Rattle.mz_bag.specs.Weighted.{Weighted, count, sum_of}
use Rattle.mz_bag.proofs.BagLaws.{count_in-sum_of}
use Rattle.mz_bag.proofs.StoredCounts.{count-first}
use Rattle.mz_plan_laws.proofs.Bounds.{absent}
use Rattle.mz_seq.specs.Stored.{count_at, has_row, Covers}

-- a default passes into a choice
unwrap_choice : (c : Bool) (o p : Option ℤ) → unwrap_or (cond c o p) (pos 0) ≡ cond c (unwrap_or o (pos 0)) (unwrap_or p (pos 0))
unwrap_choice true o p = refl
unwrap_choice false o p = refl

-- what isn't there counts 0
pub none_counts : (o : Option ℤ) → is_some o ≡ false → unwrap_or o (pos 0) ≡ pos 0
none_counts None h = refl
none_counts (Some z) h = cc

-- an equal row has the same look-up
same_row : (es : Weighted) (row q : List Datum) → row_eq row q ≡ true → lookup (row_eq q) es ≡ lookup (row_eq row) es
same_row es row q is = ap (λ r. lookup (row_eq r) es) (sym ((row_eq-Decides row q).0 is))

-- ---- a place more

-- a row that gets a place with the count 0 counts as before, as does each other
pub zero_placed : (es fs : Weighted) (row : List Datum) (n : ℤ) → n ≡ pos 0
    → ((q : List Datum) → lookup (row_eq q) fs ≡ cond (row_eq row q) (Some n) (lookup (row_eq q) es))
    → is_some (lookup (row_eq row) es) ≡ false → (q : List Datum) → count_at fs q ≡ count_at es q
zero_placed es fs row n zero given none q = ap (λ o. unwrap_or o (pos 0)) (given q) ∙ by (row_eq row q) refl
  where
    by : (c : Bool) → row_eq row q ≡ c → unwrap_or (cond c (Some n) (lookup (row_eq q) es)) (pos 0) ≡ count_at es q
    by true is = zero ∙ sym (none_counts _ (ap is_some (same_row es row q is) ∙ none))
    by false is = refl

-- ---- a count changed

-- a choice that is made twice
chosen_twice : (b c : Bool) (o p r : Option ℤ) → b ≡ c → cond b o p ≡ cond c o (cond b r p)
chosen_twice true true o p r h = refl
chosen_twice true false o p r h = absurd (true≢false h)
chosen_twice false true o p r h = absurd (true≢false (sym h))
chosen_twice false false o p r h = refl

-- two choices of which not both are made
apart_choices : (b c : Bool) (o p r : Option ℤ) → (b ≡ true → c ≡ true → ⊥) → cond b o (cond c p r) ≡ cond c p (cond b o r)
apart_choices true true o p r h = absurd (h refl refl)
apart_choices true false o p r h = refl
apart_choices false true o p r h = refl
apart_choices false false o p r h = refl

-- what is found once a count is written where a row stands first
written_first : (es : Weighted) (row : List Datum) (w : ℤ) → position_or_len (row_eq row) (keys_of es) < length es
    → (q : List Datum) → lookup (row_eq q) (set_value_at es (position_or_len (row_eq row) (keys_of es)) w) ≡ cond (row_eq row q) (Some w) (lookup (row_eq q) es)
written_first [] row w within q = absurd (omega (arith, within))
written_first (e ∷ es) row w within q = by (row_eq row e.0) refl within (λ h. written_first es row w h q)
  where
    place : Bool → ℕ
    place c = cond (not c) (1 + position_or_len (row_eq row) (keys_of es)) 0

    Written : Type 0
    Written = lookup (row_eq q) (set_value_at es (position_or_len (row_eq row) (keys_of es)) w) ≡ cond (row_eq row q) (Some w) (lookup (row_eq q) es)

    by : (c : Bool) → row_eq row e.0 ≡ c → place c < length (e ∷ es) → (position_or_len (row_eq row) (keys_of es) < length es → Written)
        → lookup (row_eq q) (set_value_at (e ∷ es) (place c) w) ≡ cond (row_eq row q) (Some w) (lookup (row_eq q) (e ∷ es))
    by true is h rest =
        let same : row_eq q e.0 ≡ row_eq row q = ap (row_eq q) (sym ((row_eq-Decides row e.0).0 is)) ∙ row_equiv.symm q row in
        chosen_twice (row_eq q e.0) (row_eq row q) (Some w) (lookup (row_eq q) es) (Some e.1) same
    by false is h rest =
        (let later : 1 + position_or_len (row_eq row) (keys_of es) ≡ suc (position_or_len (row_eq row) (keys_of es)) = omega arith in
        ap (λ k. lookup (row_eq q) (set_value_at (e ∷ es) k w)) later)
        ∙ ap (cond (row_eq q e.0) (Some e.1)) (rest (omega (arith, h)))
        ∙ apart_choices (row_eq q e.0) (row_eq row q) (Some e.1) (Some w) (lookup (row_eq q) es)
        (λ a b. true≢false (sym ((row_eq-Decides row e.0).1 ((row_eq-Decides row q).0 b ∙ (row_eq-Decides q e.0).0 a)) ∙ is))

-- the same of the place that is found
pub written : (es : Weighted) (row : List Datum) (i : ℕ) (w : ℤ) → position (row_eq row) (keys_of es) ≡ Some i
    → (q : List Datum) → lookup (row_eq q) (set_value_at es i w) ≡ cond (row_eq row q) (Some w) (lookup (row_eq q) es)
written es row i w at q = by (nat_lt first (length (keys_of es))) refl at
  where
    first : ℕ
    first = position_or_len (row_eq row) (keys_of es)

    by : (c : Bool) → nat_lt first (length (keys_of es)) ≡ c → cond c (Some first) None ≡ Some i
        → lookup (row_eq q) (set_value_at es i w) ≡ cond (row_eq row q) (Some w) (lookup (row_eq q) es)
    by true is h =
        let here : first ≡ i = ap (λ (o : Option ℕ). unwrap_or o first) h in
        ap (λ k. lookup (row_eq q) (set_value_at es k w)) (sym here)
        ∙ written_first es row w (omega (arith, ltb-true first (length (keys_of es)) is, length-keys_of es)) q
    by false is h = cc

-- a count that is written in place of a row's own changes that count alone
pub count_changed : (es : Weighted) (row : List Datum) (i : ℕ) (v n diff : ℤ) → position (row_eq row) (keys_of es) ≡ Some i
    → Some v ≡ lookup (row_eq row) es → n ≡ v +ℤ diff
    → (q : List Datum) → count_at (set_value_at es i n) q ≡ count_at es q +ℤ (if row_eq q row then diff else pos 0)
count_changed es row i v n diff at own sum q =
    ap (λ o. unwrap_or o (pos 0)) (written es row i n at q) ∙ by (row_eq row q) (row_eq q row) refl (row_equiv.symm q row)
  where
    by : (c d : Bool) → row_eq row q ≡ c → d ≡ row_eq row q
        → unwrap_or (cond c (Some n) (lookup (row_eq q) es)) (pos 0) ≡ count_at es q +ℤ cond d diff (pos 0)
    by true true is same =
        let before : count_at es q ≡ v = ap (λ o. unwrap_or o (pos 0)) (same_row es row q is ∙ sym own) in
        omega (arith, ints, before, sum)
    by true false is same = absurd (true≢false (sym is ∙ sym same))
    by false true is same = absurd (true≢false (same ∙ is))
    by false false is same = omega (arith, ints)

-- and the same rows have a count
pub places_stay : (es : Weighted) (row : List Datum) (i : ℕ) (v n : ℤ) → position (row_eq row) (keys_of es) ≡ Some i
    → Some v ≡ lookup (row_eq row) es → (q : List Datum) → has_row (set_value_at es i n) q ≡ has_row es q
places_stay es row i v n at own q = ap is_some (written es row i n at q) ∙ by (row_eq row q) refl
  where
    by : (c : Bool) → row_eq row q ≡ c → is_some (cond c (Some n) (lookup (row_eq q) es)) ≡ has_row es q
    by true is = ap is_some (own ∙ sym (same_row es row q is))
    by false is = refl

-- ---- what is still to come

-- where nothing comes to a row, nothing comes to it behind the first
pub rest_none : (row : List Datum) (n : ℤ) (es : Weighted) (q : List Datum) → IsDistinct row_eq (keys_of ((row, n) ∷ es))
    → count q ((row, n) ∷ es) ≡ pos 0 → count q es ≡ pos 0
rest_none row n es q once none = by (row_eq q row) refl none
  where
    by : (c : Bool) → row_eq q row ≡ c → cond c n (pos 0) +ℤ count q es ≡ pos 0 → count q es ≡ pos 0
    by true is h =
        ap (λ r. count r es) ((row_eq-Decides q row).0 is) ∙ absent row es (IsDistinct-head row_eq row (keys_of es) once)
    by false is h = omega (arith, ints, h)

-- a row with a place is none without one
pub not_that : (es : Weighted) (row q : List Datum) → has_row es row ≡ true → has_row es q ≡ false → row_eq q row ≡ false
not_that es row q there none = by (row_eq q row) refl
  where
    by : (c : Bool) → row_eq q row ≡ c → c ≡ false
    by true is = absurd (true≢false (sym there ∙ sym (ap (has_row es) ((row_eq-Decides q row).0 is)) ∙ none))
    by false is = refl

-- what comes to another row comes behind
pub comes_behind : (row : List Datum) (n : ℤ) (es : Weighted) (q : List Datum) (all : ℤ) → row_eq q row ≡ false
    → count q ((row, n) ∷ es) ≡ all → count q es ≡ all
comes_behind row n es q all other h =
    let here : cond (row_eq q row) n (pos 0) ≡ pos 0 = ap (λ c. cond c n (pos 0)) other in
    omega (arith, ints, here, h)

-- what comes to the first row is its own
pub comes_first : (row : List Datum) (n : ℤ) (es ws : Weighted) → IsDistinct row_eq (keys_of ws) → ws ≡ (row, n) ∷ es → count row ws ≡ n
comes_first row n es ws once next =
    ap (count row) next ∙ count-first row n es (subst (λ (vs : Weighted). IsDistinct row_eq (keys_of vs)) next once)

-- ---- two bags together

-- rows without a place have no count in the sum of two bags that cover none of them
pub covers_sum : (es : Weighted) (a b sum : Counts) → Covers es a → Covers es b → sum ≡ sum_of a b → Covers es sum
covers_sum es a b sum first second is = record {
  covers = λ q none. ap (λ (bag : Counts). count_in bag q) is ∙ count_in-sum_of a b q
      ∙ (let one : count_in a q ≡ pos 0 = first.covers q none in
      let other : count_in b q ≡ pos 0 = second.covers q none in omega (arith, ints, one, other));
}

-- what is covered stays so where no place goes
pub covers_kept : (es fs : Weighted) (bag : Counts) → ((q : List Datum) → has_row fs q ≡ false → has_row es q ≡ false) → Covers es bag → Covers fs bag
covers_kept es fs bag kept is = record { covers = λ q none. is.covers q (kept q none) }

-- ---- a place less

-- a row that is taken out with the count 0 counts as before, as does each other
pub zero_taken : (es fs : Weighted) (row : List Datum)
    → ((q : List Datum) → lookup (row_eq q) fs ≡ cond (row_eq row q) None (lookup (row_eq q) es))
    → count_at es row ≡ pos 0 → (q : List Datum) → count_at fs q ≡ count_at es q
zero_taken es fs row given zero q = ap (λ o. unwrap_or o (pos 0)) (given q) ∙ by (row_eq row q) refl
  where
    by : (c : Bool) → row_eq row q ≡ c → unwrap_or (cond c None (lookup (row_eq q) es)) (pos 0) ≡ count_at es q
    by true is = sym (ap (λ o. unwrap_or o (pos 0)) (same_row es row q is) ∙ zero)
    by false is = refl

-- and what is covered stays so where the row that goes isn't counted
pub covers_taken : (es fs : Weighted) (row : List Datum) (bag : Counts)
    → ((q : List Datum) → lookup (row_eq q) fs ≡ cond (row_eq row q) None (lookup (row_eq q) es))
    → count_in bag row ≡ pos 0 → Covers es bag → Covers fs bag
covers_taken es fs row bag given zero before = record {
  covers = λ q none. by q (row_eq row q) refl (sym (ap is_some (given q)) ∙ none);
}
  where
    by : (q : List Datum) (c : Bool) → row_eq row q ≡ c → is_some (cond c None (lookup (row_eq q) es)) ≡ false → count_in bag q ≡ pos 0
    by q true is none = ap (count_in bag) (sym ((row_eq-Decides row q).0 is)) ∙ zero
    by q false is none = before.covers q none
