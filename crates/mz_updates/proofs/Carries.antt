-- The loop that carries each diff to the next of its row and time.
use Rattle.std.proofs.Common.{◌≡◌, ℕ, zero, suc, ◌+◌, ◌<◌, ◌≤◌, add-one, Bool, true, false, cond, List, [], ◌∷◌, length, get_or, refl, sym, ap, ◌∙◌, arith}
use Rattle.std.proofs.Math.ListN.{set}
use Rattle.mz_updates.specs.declared.update.Update.{Update}
use Rattle.mz_updates.specs.Carrying.{is_twin, emptied, joined, carried_on, carried_at, carried_from}

-- what is read twice at a place is the same
pub read_twice : (us : List Update) (n : ℕ) (x y : Update) → n < length us → x ≡ get_or us n x → y ≡ get_or us n y → x ≡ y
read_twice [] n x y h a b = absurd (omega arith)
read_twice (u ∷ us) zero x y h a b = a ∙ sym b
read_twice (u ∷ us) (suc n) x y h a b = read_twice us n x y (omega arith) a b

-- twins at a place and the next: the first is emptied, the second has both diffs
both_set : (us : List Update) (n : ℕ) (u v w x y : Update) → suc n < length us → u ≡ get_or us n u → v ≡ get_or us (suc n) v
    → is_twin u v ≡ true → x ≡ emptied u → w ≡ get_or (set us n x) (suc n) w → y ≡ joined u w → set (set us n x) (suc n) y ≡ carried_at n us
both_set [] n u v w x y h a b twins c d e = absurd (omega arith)
both_set (p ∷ []) n u v w x y h a b twins c d e = absurd (omega arith)
both_set (p ∷ q ∷ us) zero u v w x y h a b twins c d e =
    let same : is_twin p q ≡ true = (λ i. is_twin (sym a i) (sym b i)) ∙ twins in
    (λ i. (c ∙ ap emptied a) i ∷ (e ∙ (λ j. joined (a j) (d j))) i ∷ us)
    ∙ sym (ap (λ t. cond t (emptied p ∷ joined p q ∷ us) (p ∷ q ∷ us)) same)
both_set (p ∷ q ∷ us) (suc n) u v w x y h a b twins c d e = ap (λ vs. p ∷ vs) (both_set (q ∷ us) n u v w x y (omega arith) a b twins c d e)

pub carried_both : (us : List Update) (n : ℕ) (u v w x y : Update) → n + 1 < length us → u ≡ get_or us n u → v ≡ get_or us (n + 1) v
    → is_twin u v ≡ true → x ≡ emptied u → w ≡ get_or (set us n x) (n + 1) w → y ≡ joined u w → set (set us n x) (n + 1) y ≡ carried_at n us
carried_both us n u v w x y h a b twins c d e =
    ap (λ m. set (set us n x) m y) (add-one n)
    ∙ both_set us n u v w x y (omega arith) a (b ∙ ap (λ m. get_or us m v) (add-one n)) twins c (d ∙ ap (λ m. get_or (set us n x) m w) (add-one n)) e

-- where they are no twins nothing is carried
none_set : (us : List Update) (n : ℕ) (u v : Update) → suc n < length us → u ≡ get_or us n u → v ≡ get_or us (suc n) v → is_twin u v ≡ false → us ≡ carried_at n us
none_set [] n u v h a b apart = absurd (omega arith)
none_set (p ∷ []) n u v h a b apart = absurd (omega arith)
none_set (p ∷ q ∷ us) zero u v h a b apart =
    let same : is_twin p q ≡ false = (λ i. is_twin (sym a i) (sym b i)) ∙ apart in
    sym (ap (λ t. cond t (emptied p ∷ joined p q ∷ us) (p ∷ q ∷ us)) same)
none_set (p ∷ q ∷ us) (suc n) u v h a b apart = ap (λ vs. p ∷ vs) (none_set (q ∷ us) n u v (omega arith) a b apart)

pub carried_none : (us : List Update) (n : ℕ) (u v : Update) → n + 1 < length us → u ≡ get_or us n u → v ≡ get_or us (n + 1) v → is_twin u v ≡ false → us ≡ carried_at n us
carried_none us n u v h a b apart = none_set us n u v (omega arith) a (b ∙ ap (λ m. get_or us m v) (add-one n)) apart

-- a carried list is as long as before
pub length-carried_at : (n : ℕ) (us : List Update) → length (carried_at n us) ≡ length us
length-carried_at zero [] = refl
length-carried_at (suc n) [] = refl
length-carried_at zero (u ∷ []) = refl
length-carried_at zero (u ∷ v ∷ us) = by (is_twin u v)
  where
    by : (c : Bool) → length (cond c (emptied u ∷ joined u v ∷ us) (u ∷ v ∷ us)) ≡ length (u ∷ v ∷ us)
    by true = refl
    by false = refl
length-carried_at (suc n) (u ∷ us) = ap suc (length-carried_at n us)

-- to carry at a place, and all from the next on, is to carry all from that place on
next : (n : ℕ) (us : List Update) → suc n < length us → carried_from (suc n) (carried_at n us) ≡ carried_from n us
next n [] h = absurd (omega arith)
next n (u ∷ []) h = absurd (omega arith)
next zero (u ∷ v ∷ us) h = by (is_twin u v) refl
  where
    by : (c : Bool) → is_twin u v ≡ c → carried_from 1 (cond c (emptied u ∷ joined u v ∷ us) (u ∷ v ∷ us)) ≡ cond c (emptied u ∷ carried_on (joined u v) us) (u ∷ carried_on v us)
    by true e = refl
    by false e = refl
next (suc n) (u ∷ v ∷ us) h = ap (λ vs. u ∷ vs) (next n (v ∷ us) (omega arith))

pub carried_next : (n : ℕ) (us : List Update) → n + 1 < length us → carried_from (n + 1) (carried_at n us) ≡ carried_from n us
carried_next n us h = ap (λ m. carried_from m (carried_at n us)) (add-one n) ∙ next n us (omega arith)

-- from the last place on there is nothing to carry
pub carried_end : (n : ℕ) (us : List Update) → length us ≤ n + 1 → carried_from n us ≡ us
carried_end zero [] h = refl
carried_end zero (u ∷ []) h = refl
carried_end zero (u ∷ v ∷ us) h = absurd (omega arith)
carried_end (suc n) [] h = refl
carried_end (suc n) (u ∷ us) h = ap (λ vs. u ∷ vs) (carried_end n us (omega arith))
