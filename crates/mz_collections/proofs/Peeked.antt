-- Peeks, kept as holds of a table of their own.
use Rattle.std.proofs.Common.{◌≡◌, ℕ, ◌<◌, ◌==◌, ◌&&◌, ◌||◌, Bool, true, false, cond, IsSome, is_some, true≢false, List, [], ◌∷◌, ◌++◌, map, filter, not, refl, sym, ap, subst, ◌∙◌, arith}
use Rattle.std.proofs.lemmas.Bool.Decides.{nat_tests}
use Rattle.std.specs.List.{AllByRecursion as Each}
use Rattle.mz_rules.specs.declared.capability.Hold.{Hold}
use Rattle.mz_rules.specs.Capabilities.{of_hold}
use Rattle.mz_holds.specs.HoldBook.{hold_of}
use Rattle.mz_holds.specs.Kept.{IsRising}
use Rattle.mz_holds.proofs.Found.{is_it, is_other, is_left_out, is_kept, all_kept}
use Rattle.mz_collections.specs.CollectionBook.{is_peeked, without_first}
use Rattle.mz_collections.specs.Kept.{number_on}

-- the first that is on a collection at a time
pub first_here : (c t : ℕ) (x : Hold) (xs : List Hold) → (x.collection == c && x.time == t) ≡ true → number_on c t (x ∷ xs) ≡ x.number
first_here c t x xs e = ap (λ b. cond b x.number (number_on c t xs)) e

pub first_later : (c t : ℕ) (x : Hold) (xs : List Hold) → (x.collection == c && x.time == t) ≡ false → number_on c t (x ∷ xs) ≡ number_on c t xs
first_later c t x xs e = ap (λ b. cond b x.number (number_on c t xs)) e

any_later : (c t : ℕ) (x : Hold) (xs : List Hold) → (x.collection == c && x.time == t) ≡ false → is_peeked c t (map of_hold (x ∷ xs)) ≡ true → is_peeked c t (map of_hold xs) ≡ true
any_later c t x xs e p = sym (ap (λ b. b || is_peeked c t (map of_hold xs)) e) ∙ p

-- it is among those behind a number that all are greater than
above : (m c t : ℕ) (xs : List Hold) → Each (λ x. m < x.number) xs → is_peeked c t (map of_hold xs) ≡ true → m < number_on c t xs
above m c t [] p e = absurd (true≢false (sym e))
above m c t (x ∷ xs) p e = by (x.collection == c && x.time == t) refl (above m c t xs p.1)
  where
    by : (b : Bool) → (x.collection == c && x.time == t) ≡ b → (is_peeked c t (map of_hold xs) ≡ true → m < number_on c t xs) → m < number_on c t (x ∷ xs)
    by true k ih = subst (λ n. m < n) (sym (first_here c t x xs k)) p.0
    by false k ih = subst (λ n. m < n) (sym (first_later c t x xs k)) (ih (any_later c t x xs k e))

-- it is live
pub first_live : (c t : ℕ) (xs : List Hold) → IsRising xs → is_peeked c t (map of_hold xs) ≡ true → IsSome (hold_of (number_on c t xs) xs)
first_live c t [] f e = absurd (true≢false (sym e))
first_live c t (x ∷ xs) f e = by (x.collection == c && x.time == t) refl (first_live c t xs f.1)
  where
    by : (b : Bool) → (x.collection == c && x.time == t) ≡ b → (is_peeked c t (map of_hold xs) ≡ true → IsSome (hold_of (number_on c t xs) xs))
        → IsSome (hold_of (number_on c t (x ∷ xs)) (x ∷ xs))
    by true k ih =
        let same : (x.number == x.number) ≡ true = grind (arith, nat_tests) in
        ap (λ n. is_some (hold_of n (x ∷ xs))) (first_here c t x xs k) ∙ ap is_some (is_it x.number x xs same)
    by false k ih =
        let more = above x.number c t xs f.0 (any_later c t x xs k e) in
        let other : (x.number == number_on c t xs) ≡ false = grind (arith, nat_tests, more) in
        ap (λ n. is_some (hold_of n (x ∷ xs))) (first_later c t x xs k) ∙ ap is_some (is_other (number_on c t xs) x xs other) ∙ ih (any_later c t x xs k e)

-- and without its hold the peeks are those without the first
pub first_goes : (c t : ℕ) (xs : List Hold) → IsRising xs → is_peeked c t (map of_hold xs) ≡ true
    → map of_hold (filter (λ hold. not (hold.number == number_on c t xs)) xs) ≡ without_first c t (map of_hold xs)
first_goes c t [] f e = refl
first_goes c t (x ∷ xs) f e = by (x.collection == c && x.time == t) refl (first_goes c t xs f.1)
  where
    by : (b : Bool) → (x.collection == c && x.time == t) ≡ b
        → (is_peeked c t (map of_hold xs) ≡ true → map of_hold (filter (λ hold. not (hold.number == number_on c t xs)) xs) ≡ without_first c t (map of_hold xs))
        → map of_hold (filter (λ hold. not (hold.number == number_on c t (x ∷ xs))) (x ∷ xs)) ≡ without_first c t (map of_hold (x ∷ xs))
    by true k ih =
        let same : (x.number == x.number) ≡ true = grind (arith, nat_tests) in
        ap (λ n. map of_hold (filter (λ hold. not (hold.number == n)) (x ∷ xs))) (first_here c t x xs k)
        ∙ ap (map of_hold) (is_left_out x.number x xs same ∙ all_kept x.number xs f.0)
        ∙ sym (ap (λ b. cond b (map of_hold xs) (of_hold x ∷ without_first c t (map of_hold xs))) k)
    by false k ih =
        let more = above x.number c t xs f.0 (any_later c t x xs k e) in
        let other : (x.number == number_on c t xs) ≡ false = grind (arith, nat_tests, more) in
        ap (λ n. map of_hold (filter (λ hold. not (hold.number == n)) (x ∷ xs))) (first_later c t x xs k)
        ∙ ap (map of_hold) (is_kept (number_on c t xs) x xs other) ∙ ap (λ ys. of_hold x ∷ ys) (ih (any_later c t x xs k e))
        ∙ sym (ap (λ b. cond b (map of_hold xs) (of_hold x ∷ without_first c t (map of_hold xs))) k)

pub peek_more : (x : Hold) (xs : List Hold) → map of_hold (xs ++ x ∷ []) ≡ map of_hold xs ++ of_hold x ∷ []
peek_more x [] = refl
peek_more x (y ∷ xs) = ap (λ ys. of_hold y ∷ ys) (peek_more x xs)
