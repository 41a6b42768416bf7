-- The counted times of each collection, as one of them changes.
use Rattle.std.proofs.Common.{◌≡◌, ℕ, zero, suc, ◌<◌, ◌==◌, Bool, true, false, cond, List, [], ◌∷◌, ◌++◌, length, get_or, set, refl, sym, ap, ◌∙◌, arith}
use Rattle.std.proofs.lemmas.Bool.Decides.{nat_tests}
use Rattle.mz_counted.specs.Counted.{CountedTimes, count}
use Rattle.mz_holds.specs.Kept.{times_at, spare_at, changed_at}

-- a place more, where nothing is counted
pub place_more : (c : ℕ) (xs : List CountedTimes) (x : CountedTimes) → x.times ≡ [] → times_at c (xs ++ x ∷ []) ≡ times_at c xs
place_more zero [] x e = e
place_more (suc c) [] x e = refl
place_more zero (y ∷ xs) x e = refl
place_more (suc c) (y ∷ xs) x e = place_more c xs x e

-- what stands at a place, by its index
pub times_there : (k : ℕ) (xs : List CountedTimes) (x : CountedTimes) → k < length xs → x ≡ get_or xs k x → times_at k xs ≡ x.times
times_there k [] x h e = absurd (omega (arith, h))
times_there zero (y ∷ xs) x h e = ap (λ z. z.times) (sym e)
times_there (suc k) (y ∷ xs) x h e = times_there k xs x (omega (arith, h)) e

pub spare_there : (k : ℕ) (xs : List CountedTimes) (x : CountedTimes) → k < length xs → x ≡ get_or xs k x → spare_at k xs ≡ x.spare
spare_there k [] x h e = absurd (omega (arith, h))
spare_there zero (y ∷ xs) x h e = ap (λ z. z.spare) (sym e)
spare_there (suc k) (y ∷ xs) x h e = spare_there k xs x (omega (arith, h)) e

-- where there is room, or something counted, there is a place
pub place_of_spare : (k : ℕ) (xs : List CountedTimes) → 0 < spare_at k xs → k < length xs
place_of_spare k [] h = absurd (omega (arith, h))
place_of_spare zero (y ∷ xs) h = omega arith
place_of_spare (suc k) (y ∷ xs) h = omega (arith, place_of_spare k xs h)

pub place_of_time : (k t : ℕ) (xs : List CountedTimes) → 0 < count t (times_at k xs) → k < length xs
place_of_time k t [] h = absurd (omega (arith, h))
place_of_time zero t (y ∷ xs) h = omega arith
place_of_time (suc k) t (y ∷ xs) h = omega (arith, place_of_time k t xs h)

pub changed_here : (f : List ℕ → List ℕ) (k c : ℕ) (ts : List ℕ) → (c == k) ≡ true → changed_at k f c ts ≡ f ts
changed_here f k c ts e = ap (λ b. cond b (f ts) ts) e

pub changed_elsewhere : (f : List ℕ → List ℕ) (k c : ℕ) (ts : List ℕ) → (c == k) ≡ false → changed_at k f c ts ≡ ts
changed_elsewhere f k c ts e = ap (λ b. cond b (f ts) ts) e

-- a place of its own, and any other
set_here : (k : ℕ) (xs : List CountedTimes) (y : CountedTimes) → k < length xs → times_at k (set xs k y) ≡ y.times
set_here k [] y h = absurd (omega (arith, h))
set_here zero (x ∷ xs) y h = refl
set_here (suc k) (x ∷ xs) y h = set_here k xs y (omega (arith, h))

set_elsewhere : (k c : ℕ) (xs : List CountedTimes) (y : CountedTimes) → (c == k) ≡ false → times_at c (set xs k y) ≡ times_at c xs
set_elsewhere k c [] y e = refl
set_elsewhere zero zero (x ∷ xs) y e = absurd (grind (arith, nat_tests, e))
set_elsewhere zero (suc c) (x ∷ xs) y e = refl
set_elsewhere (suc k) zero (x ∷ xs) y e = refl
set_elsewhere (suc k) (suc c) (x ∷ xs) y e = set_elsewhere k c xs y (grind (arith, nat_tests, e))

-- the times at one place changed
pub changes : (f : List ℕ → List ℕ) (k c : ℕ) (xs : List CountedTimes) (x y : CountedTimes) → k < length xs → x ≡ get_or xs k x → y.times ≡ f x.times
    → times_at c (set xs k y) ≡ changed_at k f c (times_at c xs)
changes f k c xs x y h e q = by (c == k) refl
  where
    by : (b : Bool) → (c == k) ≡ b → times_at c (set xs k y) ≡ changed_at k f c (times_at c xs)
    by true i =
        let same : c ≡ k = grind (arith, nat_tests, i) in
        ap (λ j. times_at j (set xs k y)) same ∙ set_here k xs y h ∙ q ∙ ap f (sym (times_there k xs x h e)) ∙ ap (λ j. f (times_at j xs)) (sym same)
        ∙ sym (changed_here f k c (times_at c xs) i)
    by false i = set_elsewhere k c xs y i ∙ sym (changed_elsewhere f k c (times_at c xs) i)

-- and none, where they stay
pub stays : (k c : ℕ) (xs : List CountedTimes) (x y : CountedTimes) → k < length xs → x ≡ get_or xs k x → y.times ≡ x.times → times_at c (set xs k y) ≡ times_at c xs
stays k c xs x y h e q = changes (λ ts. ts) k c xs x y h e q ∙ by (c == k)
  where
    by : (b : Bool) → cond b (times_at c xs) (times_at c xs) ≡ times_at c xs
    by true = refl
    by false = refl
