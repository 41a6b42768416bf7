-- Where the table of a number stands, however it was found.
use Rattle.std.proofs.Common.{◌≡◌, ℕ, zero, suc, ◌+◌, ◌==◌, ◌<◌, Bool, true, false, ◌&&◌, ◌||◌, cond, not, ltb, List, [], ◌∷◌, map, filter, length, position, slice_index_or, None, Some, refl, sym, ap, subst, ◌∙◌, true≢false, arith}
use Rattle.std.proofs.lemmas.Bool.{eqb-true, lt-ltb}
use Rattle.std.specs.List.{list_any, position_or_len}
use Rattle.mz_seq.specs.Tables.{bags_now, has_bag, AreApart}
use Rattle.mz_seq.specs.declared.tables.Table.{Table}
use Rattle.mz_seq.proofs.FoundLemmas.{any_now, is_at, now_one, one_more}

-- what passes at some place passes
any_at : (p : Table → Bool) (ts : List Table) (place : ℕ) (t : Table) → place < length ts → t ≡ slice_index_or ts place t → p t ≡ true → list_any p ts ≡ true
any_at p [] place t within is passes = absurd (omega (arith, within))
any_at p (x ∷ xs) zero t within is passes = ap (λ b. b || list_any p xs) (ap p (sym is) ∙ passes)
any_at p (x ∷ xs) (suc k) t within is passes = by (p x) (any_at p xs k t (omega (arith, within)) is passes)
  where
    by : (b : Bool) → list_any p xs ≡ true → (b || list_any p xs) ≡ true
    by true rest = refl
    by false rest = rest

-- the bags of the tables behind the first are apart
apart_rest : (x : Table) (xs : List Table) → AreApart (bags_now (x ∷ xs)) → AreApart (bags_now xs)
apart_rest x xs apart = by x.is apart
  where
    by : (b : Bool) → AreApart (map (λ table. (table.number, table.rows.present)) (cond b (x ∷ filter (λ table. table.is) xs) (filter (λ table. table.is) xs)))
        → AreApart (bags_now xs)
    by true all = all.1
    by false all = all

-- where a table behind has the number, the first doesn't have it
first_isn't : (n : ℕ) (x : Table) (xs : List Table) → AreApart (bags_now (x ∷ xs)) → list_any (is_at n) xs ≡ true → is_at n x ≡ false
first_isn't n x xs apart more = by x.is refl (x.number == n) refl
  where
    by : (b : Bool) → x.is ≡ b → (c : Bool) → x.number == n ≡ c → (b && c) ≡ false
    by false is c here = refl
    by true is false here = refl
    by true is true here =
        absurd (true≢false (sym more ∙ sym (any_now n xs)
        ∙ subst (λ k. has_bag k (bags_now xs) ≡ false) (eqb-true x.number n here) (subst AreApart (now_one x xs is) apart).0))

-- so it stands where the first of its number does
stands_first : (n : ℕ) (ts : List Table) (place : ℕ) (t : Table) → AreApart (bags_now ts) → place < length ts → t ≡ slice_index_or ts place t
    → is_at n t ≡ true → position_or_len (is_at n) ts ≡ place
stands_first n [] place t apart within is passes = absurd (omega (arith, within))
stands_first n (x ∷ xs) zero t apart within is passes =
    ap (λ b. cond (not b) (1 + position_or_len (is_at n) xs) 0) (ap (is_at n) (sym is) ∙ passes)
stands_first n (x ∷ xs) (suc k) t apart within is passes =
    ap (λ b. cond (not b) (1 + position_or_len (is_at n) xs) 0)
    (first_isn't n x xs apart (any_at (is_at n) xs k t (omega (arith, within)) is passes))
    ∙ ap (λ m. 1 + m) (stands_first n xs k t (apart_rest x xs apart) (omega (arith, within)) is passes) ∙ sym (one_more k)

-- and that is found there
pub stands_at : (n : ℕ) (ts : List Table) (place : ℕ) (t : Table) → AreApart (bags_now ts) → place < length ts → t ≡ slice_index_or ts place t
    → is_at n t ≡ true → position (is_at n) ts ≡ Some place
stands_at n ts place t apart within is passes =
    ap (λ k. cond (ltb k (length ts)) (Some k) None) (stands_first n ts place t apart within is passes)
    ∙ ap (λ b. cond b (Some place) None) (lt-ltb place (length ts) within)
