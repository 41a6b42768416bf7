-- What holds of each member of a list, from what holds at places.
use Rattle.std.proofs.Common.{ℕ, zero, suc, ◌<◌, ◌≤◌, List, [], ◌∷◌, take, drop, length, get_or, arith}
use Rattle.std.specs.List.{AllByRecursion as Each}

-- what holds of each holds at each place
pub at_place : {A : Type 0} (P : A → Type 0) (us : List A) → Each P us → (k : ℕ) (d : A) → k < length us → P (get_or us k d)
at_place P [] h k d l = absurd (omega arith)
at_place P (u ∷ us) h zero d l = h.0
at_place P (u ∷ us) h (suc k) d l = at_place P us h.1 k d (omega arith)

-- what holds at each place below one holds of the list up to it
pub each_taken : {A : Type 0} (P : A → Type 0) (n : ℕ) (us : List A) → ((k : ℕ) (d : A) → k < n → k < length us → P (get_or us k d)) → Each P (take n us)
each_taken P zero us h = tt
each_taken P (suc n) [] h = tt
each_taken P (suc n) (u ∷ us) h = (h 0 u (omega arith) (omega arith), each_taken P n us (λ k d a b. h (suc k) d (omega arith) (omega arith)))

-- and what holds at each place from one on of the rest
pub each_dropped : {A : Type 0} (P : A → Type 0) (n : ℕ) (us : List A) → ((k : ℕ) (d : A) → n ≤ k → k < length us → P (get_or us k d)) → Each P (drop n us)
each_dropped P zero [] h = tt
each_dropped P zero (u ∷ us) h = (h 0 u (omega arith) (omega arith), each_dropped P zero us (λ k d a b. h (suc k) d (omega arith) (omega arith)))
each_dropped P (suc n) [] h = tt
each_dropped P (suc n) (u ∷ us) h = each_dropped P n us (λ k d a b. h (suc k) d (omega arith) (omega arith))
