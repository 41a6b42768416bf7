-- A bag that is made of a weighted list, one row after another.
use Rattle.std.proofs.Common.{◌≡◌, ◌≤◌, ◌<◌, ℕ, zero, suc, length, get_or, drop, ℤ, pos, negsuc, neg_ℤ, nat_abs, ◌+◌, ◌+ℤ◌, ◌≤ℤ◌, Bool, true, cond, List, [], ◌∷◌, refl, sym, ap, subst, ◌∙◌, le_trans, arith}
use Rattle.std.proofs.lemmas.Int.{ints}
use Rattle.std.proofs.lemmas.List.{at_drop_more}
use Rattle.std.specs.FinMap.{empty}
use Rattle.mz_value.specs.declared.datum.Datum.{Datum}
use Rattle.mz_bag.specs.Bag.{Counts, count_in, with_count, Fits, IsBag}
use Rattle.mz_bag.specs.Mass.{mass}
use Rattle.mz_bag.specs.Weighted.{Weighted, count, bag_of, each_once, negated}
use Rattle.mz_bag.proofs.BagLaws.{same_counts, count_in-empty, count_in-bag_of, IsBag-empty, IsBag-bag_of, IsBag-with_count}
use Rattle.mz_bag.proofs.MassLaws.{size_count, size_fits}
use Rattle.mz_bag.proofs.StoredCounts.{count_in-next}
use Rattle.mz_plan.specs.Operators.{filtered}
use Rattle.mz_plan.specs.Small.{most_rows}
use Rattle.mz_plan_laws.proofs.Weighing.{row_itself}

-- a bag and what is still to come count as all does, and there are no more rows than a table may have
pub record Makes (bag : Counts) (rest all : Weighted) : Type 0 where
  pub counts : (q : List Datum) → count_in bag q +ℤ count q rest ≡ count q all
  pub no_zero : IsBag bag
  pub left : mass rest ≤ most_rows
  pub few : mass all ≤ most_rows

-- at first all is still to come
pub makes_none : (all : Weighted) → mass all ≤ most_rows → Makes empty all all
makes_none all few = record {
  counts = λ q. omega (arith, ints, count_in-empty q);
  no_zero = IsBag-empty;
  left = few;
  few = few;
}

-- a number of at most this size is between its negative and it
bounds : (z : ℤ) (n : ℕ) → nat_abs z ≤ n → (neg_ℤ (pos n) ≤ℤ z) × (z ≤ℤ pos n)
bounds (pos m) n h = (omega (arith, ints, h), omega (arith, ints, h))
bounds (negsuc m) n h = (omega (arith, ints, h), omega (arith, ints, h))

-- and one between is of at most this size
size_between : (z : ℤ) (n : ℕ) → neg_ℤ (pos n) ≤ℤ z → z ≤ℤ pos n → nat_abs z ≤ n
size_between (pos m) n low high = omega (arith, ints, low, high)
size_between (negsuc m) n low high = omega (arith, ints, low, high)

-- a difference of two numbers that a table may count fits
pub difference_fits : (z a b : ℤ) → z +ℤ b ≡ a → nat_abs a ≤ most_rows → nat_abs b ≤ most_rows → Fits z
difference_fits z a b is small_a small_b =
    let of_a = bounds a most_rows small_a in
    let of_b = bounds b most_rows small_b in
    let small : nat_abs z ≤ 131072 = size_between z 131072 (omega (arith, ints, is, of_a.0, of_b.1)) (omega (arith, ints, is, of_a.1, of_b.0)) in
    size_fits z (le_trans small (omega arith))

-- what comes to a row next fits
pub makes_fits : (bag : Counts) (row : List Datum) (n : ℤ) (rest all : Weighted) → Makes bag ((row, n) ∷ rest) all → Fits (count_in bag row +ℤ n)
makes_fits bag row n rest all m =
    let own : cond _ n (pos 0) ≡ n = ap (λ c. cond c n (pos 0)) (row_itself row) in
    let both : count_in bag row +ℤ (n +ℤ count row rest) ≡ count row all =
    ap (λ z. count_in bag row +ℤ (z +ℤ count row rest)) (sym own) ∙ m.counts row in
    difference_fits (count_in bag row +ℤ n) (count row all) (count row rest) (omega (arith, ints, both))
    (le_trans (size_count row all) m.few) (le_trans (size_count row rest) (omega (arith, m.left)))

-- and it makes the bag with it
pub makes_next : (bag : Counts) (row : List Datum) (n : ℤ) (rest all : Weighted) → Makes bag ((row, n) ∷ rest) all
    → Makes (with_count bag row (count_in bag row +ℤ n)) rest all
makes_next bag row n rest all m = record {
  counts = λ q. count_in-next bag row n rest q ∙ m.counts q;
  no_zero = IsBag-with_count bag row (count_in bag row +ℤ n) m.no_zero;
  left = omega (arith, m.left);
  few = m.few;
}

-- in the end it is the bag of all
pub makes_all : (bag : Counts) (all : Weighted) → Makes bag [] all → bag ≡ bag_of all
makes_all bag all m = same_counts bag (bag_of all) m.no_zero (IsBag-bag_of all) (λ q. omega (arith, ints, m.counts q, count_in-bag_of all q))

-- the next of a list of rows
pub once_taken : (rows : List (List Datum)) (i : ℕ) (row copy : List Datum) (bag : Counts) (all : Weighted) → i < length rows
    → row ≡ get_or rows i row → copy ≡ row → Makes bag (each_once (drop i rows)) all → Makes bag ((copy, pos 1) ∷ each_once (drop (i + 1) rows)) all
once_taken rows i row copy bag all within is same m =
    let next : each_once (drop i rows) ≡ (copy, pos 1) ∷ each_once (drop (i + 1) rows) =
    at_drop_more each_once rows i row within ∙ ap (λ r. (r, pos 1) ∷ each_once (drop (i + 1) rows)) (sym is ∙ sym same) in
    subst (λ ws. Makes bag ws all) next m

-- a list is all left behind
drop_all : {A : Type 0} (xs : List A) → drop (length xs) xs ≡ []
drop_all [] = refl
drop_all (x ∷ xs) = drop_all xs

-- once all of a list are taken, it is the bag of them
pub once_all : (rows : List (List Datum)) (i : ℕ) (bag : Counts) → i ≡ length rows → Makes bag (each_once (drop i rows)) (each_once rows)
    → bag ≡ bag_of (each_once rows)
once_all rows i bag end m =
    makes_all bag (each_once rows) (subst (λ ws. Makes bag ws (each_once rows)) (ap (λ k. each_once (drop k rows)) end ∙ ap each_once (drop_all rows)) m)

-- ---- rows that go

-- a negative has the same size
size_negative : (z : ℤ) → nat_abs (neg_ℤ z) ≡ nat_abs z
size_negative (pos zero) = refl
size_negative (pos (suc n)) = refl
size_negative (negsuc n) = refl

-- the next row that meets the test
pub met_next : (p : List Datum → Bool) (es rest : Weighted) (row copy : List Datum) (n : ℤ) (bag : Counts) (all : Weighted)
    → es ≡ (row, n) ∷ rest → p row ≡ true → copy ≡ row → Makes bag (negated (filtered p es)) all → Makes bag ((copy, neg_ℤ n) ∷ negated (filtered p rest)) all
met_next p es rest row copy n bag all next passes same m =
    let first : negated (filtered p es) ≡ (copy, neg_ℤ n) ∷ negated (filtered p rest) =
    ap (λ (ws : Weighted). negated (filtered p ws)) next ∙ ap (λ c. negated (cond c ((row, n) ∷ filtered p rest) (filtered p rest))) passes
    ∙ ap (λ r. (r, neg_ℤ n) ∷ negated (filtered p rest)) (sym same) in
    subst (λ (ws : Weighted). Makes bag ws all) first m

-- its count is of no greater size than a table may have
pub met_small : (row : List Datum) (n : ℤ) (bag : Counts) (rest all : Weighted) → Makes bag ((row, neg_ℤ n) ∷ rest) all → nat_abs n ≤ most_rows
met_small row n bag rest all m = omega (arith, size_negative n, m.left)

-- and fits
pub met_fits : (n : ℤ) → nat_abs n ≤ most_rows → Fits n
met_fits n small = size_fits n (le_trans small (omega arith))
