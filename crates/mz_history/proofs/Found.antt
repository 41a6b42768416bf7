-- Where one of a list stands, as a search finds it.
use Rattle.std.proofs.Common.{◌≡◌, ℕ, zero, suc, ◌+◌, ◌<◌, ◌≤◌, ltb, Bool, true, false, cond, not, Option, Some, None, is_some, true≢false, List, [], ◌∷◌, length, get_or, slice_get, refl, sym, ap, ◌∙◌, arith}
use Rattle.std.proofs.lemmas.Bool.{ltb-true, ltb-false}
use Rattle.std.proofs.lemmas.Bool.Decides.{nat_tests}
use Rattle.std.proofs.lemmas.List.Folds.{find_at}
use Rattle.std.specs.List.{find, position, position_or_len}

-- ---- what a search says

-- one stands at the place
pub record IsAt {A : Type 0} (p : A → Bool) (xs : List A) (k : ℕ) : Type 0 where
  pub within : k < length xs
  pub first : k ≡ position_or_len p xs

unfoldable pub is_at : {A : Type 0} (p : A → Bool) (xs : List A) (k : ℕ) → Some k ≡ position p xs → IsAt p xs k
is_at p xs k e = by (ltb (position_or_len p xs) (length xs)) refl e
  where
    by : (b : Bool) → ltb (position_or_len p xs) (length xs) ≡ b → Some k ≡ cond b (Some (position_or_len p xs)) None → IsAt p xs k
    by true t s =
        let same : k ≡ position_or_len p xs = cc in
        record { within = (let less = ltb-true (position_or_len p xs) (length xs) t in omega (arith, same, less)); first = same }
    by false t s = absurd (cc)

pub read_at : {A : Type 0} (k : ℕ) (xs : List A) (x : A) → k < length xs → x ≡ get_or xs k x → slice_get xs k ≡ Some x
read_at k [] x h e = absurd (omega (arith, h))
read_at zero (y ∷ xs) x h e = ap Some (sym e)
read_at (suc k) (y ∷ xs) x h e = read_at k xs x (omega (arith, h)) e

past_end : {A : Type 0} (k : ℕ) (xs : List A) → length xs ≡ k → slice_get xs k ≡ None
past_end zero [] e = refl
past_end (suc k) [] e = refl
past_end zero (x ∷ xs) e = absurd (omega (arith, e))
past_end (suc k) (x ∷ xs) e = past_end k xs (omega (arith, e))

-- what stands there is the first that passes
pub found_at : {A : Type 0} (p : A → Bool) (xs : List A) (k : ℕ) (x : A) → Some k ≡ position p xs → x ≡ get_or xs k x → find p xs ≡ Some x
found_at p xs k x e i =
    let at = is_at p xs k e in
    find_at p xs ∙ ap (slice_get xs) (sym at.first) ∙ read_at k xs x at.within i

-- and it passes
pub passes_at : {A : Type 0} (p : A → Bool) (xs : List A) (x : A) → find p xs ≡ Some x → p x ≡ true
passes_at p [] x e = absurd (cc)
passes_at p (y ∷ xs) x e = by (p y) refl (passes_at p xs x)
  where
    by : (b : Bool) → p y ≡ b → (find p xs ≡ Some x → p x ≡ true) → p x ≡ true
    by true t ih = let same : y ≡ x = cc in ap p (sym same) ∙ t
    by false t ih = ih (sym (ap (λ b. cond b (Some y) (find p xs)) t) ∙ e)

-- what isn't less
not_less : (a b : ℕ) → b ≤ a → ltb a b ≡ false
not_less a b h = grind (arith, nat_tests, h)

-- none passes before the end
none_before : {A : Type 0} (p : A → Bool) (xs : List A) → ltb (position_or_len p xs) (length xs) ≡ false → find p xs ≡ None
none_before p [] e = refl
none_before p (x ∷ xs) e = by (p x) refl e (none_before p xs)
  where
    by : (b : Bool) → p x ≡ b → ltb (cond (not b) (1 + position_or_len p xs) 0) (length (x ∷ xs)) ≡ false
        → (ltb (position_or_len p xs) (length xs) ≡ false → find p xs ≡ None) → cond (p x) (Some x) (find p xs) ≡ None
    by true k h ih = let more = ltb-false 0 (length (x ∷ xs)) h in absurd (omega (arith, more))
    by false k h ih =
        let more = ltb-false (1 + position_or_len p xs) (length (x ∷ xs)) h in
        ap (λ b. cond b (Some x) (find p xs)) k ∙ ih (not_less (position_or_len p xs) (length xs) (omega (arith, more)))

-- a search that finds no place finds nothing
pub missed : {A : Type 0} (p : A → Bool) (xs : List A) → None ≡ position p xs → find p xs ≡ None
missed p xs e = by (ltb (position_or_len p xs) (length xs)) refl e
  where
    by : (b : Bool) → ltb (position_or_len p xs) (length xs) ≡ b → None ≡ cond b (Some (position_or_len p xs)) None → find p xs ≡ None
    by true t s = absurd (cc)
    by false t s = none_before p xs t

-- where there isn't one, there is none
pub none_if : {A : Type 0} (o : Option A) → is_some o ≡ false → o ≡ None
none_if None e = refl
none_if (Some x) e = absurd (true≢false e)
