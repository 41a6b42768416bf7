-- Lists whose members have rising numbers: each is found by its own, and is the only one of it.
use Rattle.std.proofs.Common.{◌≡◌, ℕ, ◌<◌, ◌==◌, Bool, true, false, not, List, [], ◌∷◌, map, filter, refl, sym, ap, ◌∙◌, inl, inr, arith}
use Rattle.std.specs.List.{AllByRecursion as Each, list_any}
use Rattle.std.proofs.lemmas.Bool.{cond_both, eqb-true, eq-eqb, false≢true, ne_eqb, not_from_false, or_cases, or_left, or_right}
use Rattle.mz_call_laws.specs.Members.{Pairwise}
use Rattle.mz_call_laws.proofs.Lists.{each_from, either_order}
use Rattle.mz_rules.proofs.Each.{each_filter, each_map, each_of}

-- the numbers rise
abbrev pub Rises : {A : Type 0} → (A → ℕ) → List A → Type 0
Rises number xs = Pairwise (λ x y. number x < number y) xs

-- so do those of the members that pass a test
pub rises_filter : {A : Type 0} (number : A → ℕ) (test : A → Bool) (xs : List A) → Rises number xs → Rises number (filter test xs)
rises_filter number test [] p = tt
rises_filter number test (x ∷ xs) p =
    cond_both (test x) (x ∷ filter test xs) (filter test xs) (Rises number)
    (λ _. (each_filter (λ y. number x < number y) test xs p.0, rises_filter number test xs p.1))
    (λ _. rises_filter number test xs p.1)

-- and of what a function makes of them that keeps their numbers
pub rises_map : {A : Type 0} (number : A → ℕ) (f : A → A) → ((x : A) → number (f x) ≡ number x) → (xs : List A) → Rises number xs
    → Rises number (map f xs)
rises_map number f same [] p = tt
rises_map number f same (x ∷ xs) p = (
  each_map (λ y. number x < number y) (λ y. number (f x) < number y) f (λ y less. omega (arith, less, same x, same y)) xs p.0,
  rises_map number f same xs p.1,
)

-- each member is found by its number
pub found_each : {A : Type 0} (number : A → ℕ) (xs : List A) → Each (λ x. list_any (λ y. number y == number x) xs ≡ true) xs
found_each number [] = tt
found_each number (x ∷ xs) = (
  or_left (number x == number x) (list_any (λ y. number y == number x) xs) (eq-eqb (number x) (number x) refl),
  each_of (λ z. list_any (λ y. number y == number z) xs ≡ true) (λ z. list_any (λ y. number y == number z) (x ∷ xs) ≡ true)
      (λ z q. or_right (number x == number z) (list_any (λ y. number y == number z) xs) q) xs (found_each number xs),
)

-- and is the only one of it
pub only_each : {A : Type 0} (number : A → ℕ) (xs : List A) → Rises number xs
    → Each (λ x. Each (λ y. number y ≡ number x → y ≡ x) xs) xs
only_each number xs p =
    each_from (λ x. Each (λ y. number y ≡ number x → y ≡ x) xs) xs
    (λ x here. each_from (λ y. number y ≡ number x → y ≡ x) xs
    (λ y there same. elim (either_order (λ a b. number a < number b) xs y x p there here) [
      | inl is ↦ is
      | inr (inl less) ↦ absurd (omega (arith, less, same))
      | inr (inr less) ↦ absurd (omega (arith, less, same))
    ]))

-- later members have other numbers
pub others : {A : Type 0} (number : A → ℕ) (x : A) (xs : List A) → Each (λ y. number x < number y) xs
    → Each (λ y. (number y == number x) ≡ false) xs
others number x xs p =
    each_of (λ y. number x < number y) (λ y. (number y == number x) ≡ false)
    (λ y less. ne_eqb (number y) (number x) (λ same. omega (arith, less, same))) xs p

-- what a test finds, it finds among those that pass another, where it finds only such
pub any_left : {A : Type 0} (find test : A → Bool) → ((x : A) → find x ≡ true → test x ≡ true) → (xs : List A)
    → list_any find xs ≡ true → list_any find (filter test xs) ≡ true
any_left find test keep [] e = e
any_left find test keep (x ∷ xs) e =
    cond_both (test x) (x ∷ filter test xs) (filter test xs) (λ ys. list_any find ys ≡ true)
    (λ _. elim (or_cases (find x) (list_any find xs) e) [
      | inl own ↦ or_left (find x) (list_any find (filter test xs)) own
      | inr later ↦ or_right (find x) (list_any find (filter test xs)) (any_left find test keep xs later)
    ])
    (λ h. elim (or_cases (find x) (list_any find xs) e) [
      | inl own ↦ absurd (false≢true (sym h ∙ keep x own))
      | inr later ↦ any_left find test keep xs later
    ])

-- what has one number doesn't have another
pub other_number : (one other own : ℕ) → (other == one) ≡ false → (own == other) ≡ true → not (own == one) ≡ true
other_number one other own apart is = not_from_false (own == one) (ap (λ n. n == one) (eqb-true own other is) ∙ apart)
