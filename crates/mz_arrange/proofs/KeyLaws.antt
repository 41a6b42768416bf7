-- What a key finds among updates is what it finds among the rows that they contain.
use Rattle.std.proofs.Common.{◌≡◌, ℕ, nat_le, Bool, true, false, cond, ℤ, pos, ◌+ℤ◌, List, [], ◌∷◌, ◌++◌, refl, sym, ap, subst, ◌∙◌, true≢false, arith}
use Rattle.std.proofs.lemmas.Int.{ints}
use Rattle.std.specs.FinMap.{entries}
use Rattle.mz_value.specs.declared.datum.Datum.{Datum}
use Rattle.mz_value.specs.Row.{row_eq}
use Rattle.mz_value.specs.RowOrder.{row_eq-Decides}
use Rattle.mz_bag.specs.Bag.{Fits}
use Rattle.mz_bag.specs.Weighted.{Weighted, count, bag_of}
use Rattle.mz_bag.proofs.BagLaws.{bag_of-same, count-entries, count_in-bag_of}
use Rattle.mz_updates.specs.declared.update.Update.{Update}
use Rattle.mz_updates.specs.Contents.{weights, up_to, contents, stamped, FitsAt}
use Rattle.mz_arrange.specs.Arranged.{begins_with, of_key, rows_of_key}
use Rattle.mz_arrange.specs.Kept.{behind, found}
use Rattle.mz_arrange.proofs.ArrangedLaws.{contents-behind}

-- ---- the counts of what is of a key

-- the count in a choice
count_choice : (q : List Datum) (c : Bool) (vs ws : Weighted) → count q (cond c vs ws) ≡ cond c (count q vs) (count q ws)
count_choice q true vs ws = refl
count_choice q false vs ws = refl

-- one row more, of the key or not
of_key_or_not : (keeps is kept : Bool) (n x y : ℤ) → (is ≡ true → keeps ≡ kept) → x ≡ cond kept y (pos 0)
    → cond keeps (cond is n (pos 0) +ℤ x) x ≡ cond kept (cond is n (pos 0) +ℤ y) (pos 0)
of_key_or_not true true true n x y same h = omega (arith, ints, h)
of_key_or_not true true false n x y same h = absurd (true≢false (same refl))
of_key_or_not true false true n x y same h = omega (arith, ints, h)
of_key_or_not true false false n x y same h = omega (arith, ints, h)
of_key_or_not false true true n x y same h = absurd (true≢false (sym (same refl)))
of_key_or_not false true false n x y same h = h
of_key_or_not false false true n x y same h = omega (arith, ints, h)
of_key_or_not false false false n x y same h = h

-- what is of the key has its count, and nothing else has one
count-of_key : (key q : List Datum) (ws : Weighted) → count q (of_key key ws) ≡ cond (begins_with key q) (count q ws) (pos 0)
count-of_key key q [] = by (begins_with key q)
  where
    by : (c : Bool) → pos 0 ≡ cond c (pos 0) (pos 0)
    by true = refl
    by false = refl
count-of_key key q (w ∷ ws) =
    count_choice q (begins_with key w.0) (w ∷ of_key key ws) (of_key key ws)
    ∙ of_key_or_not (begins_with key w.0) (row_eq q w.0) (begins_with key q) w.1 (count q (of_key key ws)) (count q ws)
    (λ is. ap (begins_with key) (sym ((row_eq-Decides q w.0).0 is))) (count-of_key key q ws)

-- ---- what is found

-- the updates of a key contain what the rows of the key are
contents-found : (t : ℕ) (key : List Datum) (us : List Update) → contents t (found key us) ≡ of_key key (contents t us)
contents-found t key [] = refl
contents-found t key (u ∷ us) = by (begins_with key u.row) (nat_le u.time t) refl refl (contents-found t key us)
  where
    by : (c d : Bool) → begins_with key u.row ≡ c → nat_le u.time t ≡ d → contents t (found key us) ≡ of_key key (contents t us)
        → contents t (cond c (u ∷ found key us) (found key us)) ≡ of_key key (weights (cond d (u ∷ up_to t us) (up_to t us)))
    by true true e f rest =
        ap (λ b. weights (cond b (u ∷ up_to t (found key us)) (up_to t (found key us)))) f
        ∙ ap (λ ws. (u.row, u.diff) ∷ ws) rest
        ∙ sym (ap (λ b. cond b ((u.row, u.diff) ∷ of_key key (contents t us)) (of_key key (contents t us))) e)
    by true false e f rest =
        ap (λ b. weights (cond b (u ∷ up_to t (found key us)) (up_to t (found key us)))) f ∙ rest
    by false true e f rest =
        rest ∙ sym (ap (λ b. cond b ((u.row, u.diff) ∷ of_key key (contents t us)) (of_key key (contents t us))) e)
    by false false e f rest = rest

-- what is of the key in two lists is what is of it in each
of_key-append : (key : List Datum) (vs ws : Weighted) → of_key key (vs ++ ws) ≡ of_key key vs ++ of_key key ws
of_key-append key [] ws = refl
of_key-append key (v ∷ vs) ws = by (begins_with key v.0) (of_key-append key vs ws)
  where
    by : (c : Bool) → of_key key (vs ++ ws) ≡ of_key key vs ++ of_key key ws
        → cond c (v ∷ of_key key (vs ++ ws)) (of_key key (vs ++ ws)) ≡ cond c (v ∷ of_key key vs) (of_key key vs) ++ of_key key ws
    by true rest = ap (λ us. v ∷ us) rest
    by false rest = rest

-- ---- rows and updates behind them

-- what the key finds among the rows and among the updates is what it finds in both
contents-sought : (t : ℕ) (key : List Datum) (rows : Weighted) (later : List Update)
    → contents t (stamped 0 (of_key key rows) ++ found key later) ≡ of_key key (contents t (behind rows later))
contents-sought t key rows later =
    contents-behind t (of_key key rows) (found key later)
    ∙ ap (λ ws. of_key key rows ++ ws) (contents-found t key later)
    ∙ sym (ap (of_key key) (contents-behind t rows later) ∙ of_key-append key rows (contents t later))

pub fits_sought : (t : ℕ) (key : List Datum) (rows : Weighted) (later : List Update) → FitsAt t (behind rows later)
    → FitsAt t (stamped 0 (of_key key rows) ++ found key later)
fits_sought t key rows later fits = record {
  fits = λ row.
      subst Fits (sym (ap (count row) (contents-sought t key rows later) ∙ count-of_key key row (contents t (behind rows later))))
      (by (begins_with key row) (count row (contents t (behind rows later))) (fits.fits row));
}
  where
    by : (c : Bool) (z : ℤ) → Fits z → Fits (cond c z (pos 0))
    by true z h = h
    by false z h = record { low = omega (arith, ints); high = omega (arith, ints) }

pub bag_sought : (t : ℕ) (key : List Datum) (rows : Weighted) (later : List Update)
    → bag_of (contents t (stamped 0 (of_key key rows) ++ found key later)) ≡ rows_of_key key (bag_of (contents t (behind rows later)))
bag_sought t key rows later =
    let all = contents t (behind rows later) in
    ap bag_of (contents-sought t key rows later)
    ∙ bag_of-same (of_key key all) (of_key key (entries (bag_of all))) (λ q.
    count-of_key key q all
    ∙ sym (count-of_key key q (entries (bag_of all)) ∙ ap (λ z. cond (begins_with key q) z (pos 0)) (count-entries (bag_of all) q ∙ count_in-bag_of all q)))
