-- Holds in order of their numbers: where one stands, and what becomes of them where it moves or goes.
use Rattle.std.proofs.Common.{◌≡◌, ℕ, zero, suc, ◌<◌, ◌≤◌, ◌==◌, ltb, Bool, true, false, cond, Some, None, IsSome, List, [], ◌∷◌, take, drop, length, map, filter, not, get_or, set, slice_get, is_some, true≢false, refl, sym, ap, subst, ◌∙◌, arith}
use Rattle.std.proofs.lemmas.Bool.Decides.{nat_tests}
use Rattle.std.specs.List.{remove, AllByRecursion as Each}
use Rattle.std.specs.List.Sorted.{IsPartitionedBy}
use Rattle.mz_counted.proofs.Each.{at_place}
use Rattle.mz_rules.specs.declared.capability.Hold.{Hold}
use Rattle.mz_holds.specs.HoldBook.{at_time, hold_of}
use Rattle.mz_holds.specs.Kept.{IsRising}

-- ---- a step of each definition, by its test

pub is_it : (n : ℕ) (x : Hold) (xs : List Hold) → (x.number == n) ≡ true → hold_of n (x ∷ xs) ≡ Some x
is_it n x xs e = ap (λ c. cond c (Some x) (hold_of n xs)) e

pub is_other : (n : ℕ) (x : Hold) (xs : List Hold) → (x.number == n) ≡ false → hold_of n (x ∷ xs) ≡ hold_of n xs
is_other n x xs e = ap (λ c. cond c (Some x) (hold_of n xs)) e

pub is_left_out : (n : ℕ) (x : Hold) (xs : List Hold) → (x.number == n) ≡ true → filter (λ hold. not (hold.number == n)) (x ∷ xs) ≡ filter (λ hold. not (hold.number == n)) xs
is_left_out n x xs e = ap (λ c. cond (not c) (x ∷ filter (λ hold. not (hold.number == n)) xs) (filter (λ hold. not (hold.number == n)) xs)) e

pub is_kept : (n : ℕ) (x : Hold) (xs : List Hold) → (x.number == n) ≡ false → filter (λ hold. not (hold.number == n)) (x ∷ xs) ≡ x ∷ filter (λ hold. not (hold.number == n)) xs
is_kept n x xs e = ap (λ c. cond (not c) (x ∷ filter (λ hold. not (hold.number == n)) xs) (filter (λ hold. not (hold.number == n)) xs)) e

pub is_moved : (n t : ℕ) (x : Hold) → (x.number == n) ≡ true → at_time n t x ≡ record x { time = t }
is_moved n t x e = ap (λ c. cond c (record x { time = t }) x) e

pub is_unmoved : (n t : ℕ) (x : Hold) → (x.number == n) ≡ false → at_time n t x ≡ x
is_unmoved n t x e = ap (λ c. cond c (record x { time = t }) x) e

-- ---- those with greater numbers

pub none_of : (n : ℕ) (xs : List Hold) → Each (λ x. n < x.number) xs → hold_of n xs ≡ None
none_of n [] p = refl
none_of n (x ∷ xs) p = is_other n x xs (grind (arith, nat_tests, p.0)) ∙ none_of n xs p.1

pub all_kept : (n : ℕ) (xs : List Hold) → Each (λ x. n < x.number) xs → filter (λ hold. not (hold.number == n)) xs ≡ xs
all_kept n [] p = refl
all_kept n (x ∷ xs) p = is_kept n x xs (grind (arith, nat_tests, p.0)) ∙ ap (λ ys. x ∷ ys) (all_kept n xs p.1)

pub all_unmoved : (n t : ℕ) (xs : List Hold) → Each (λ x. n < x.number) xs → map (at_time n t) xs ≡ xs
all_unmoved n t [] p = refl
all_unmoved n t (x ∷ xs) p = (λ i. is_unmoved n t x (grind (arith, nat_tests, p.0)) i ∷ all_unmoved n t xs p.1 i)

-- behind one with this number all are greater
pub greater : (n : ℕ) (x : Hold) (xs : List Hold) → (x.number == n) ≡ true → Each (λ later. x.number < later.number) xs → Each (λ later. n < later.number) xs
greater n x xs e p =
    let same : x.number ≡ n = grind (arith, nat_tests, e) in
    subst (λ m. Each (λ later. m < later.number) xs) same p

-- ---- where one stands

rises : (xs : List Hold) → IsRising xs → (i j : ℕ) (d : Hold) → i ≤ j → j < length xs → (get_or xs i d).number ≤ (get_or xs j d).number
rises [] f i j d k l = absurd (omega arith)
rises (x ∷ xs) f zero zero d k l = omega arith
rises (x ∷ xs) f zero (suc j) d k l = by (at_place (λ later. x.number < later.number) xs f.0 j d (omega arith))
  where
    by : x.number < (get_or xs j d).number → x.number ≤ (get_or xs j d).number
    by h = omega (arith, h)
rises (x ∷ xs) f (suc i) zero d k l = absurd (omega arith)
rises (x ∷ xs) f (suc i) (suc j) d k l = rises xs f.1 i j d (omega arith) (omega arith)

-- lesser numbers stand first
pub parted : (n : ℕ) (xs : List Hold) → IsRising xs → IsPartitionedBy (λ x. ltb x.number n) xs
parted n xs f i j d k l e = grind (arith, nat_tests, rises xs f i j d k l, e)

past : (n : ℕ) (x : Hold) (xs : List Hold) → n < x.number → Each (λ later. x.number < later.number) xs → Each (λ later. n < later.number) xs
past n x [] h p = tt
past n x (y ∷ xs) h p = (omega (arith, h, p.0), past n x xs h p.1)

-- behind the lesser ones stands the hold itself
pub stands : (n p : ℕ) (xs : List Hold) → IsRising xs → Each (λ x. x.number < n) (take p xs) → Each (λ x. n ≤ x.number) (drop p xs) → p ≤ length xs
    → IsSome (hold_of n xs) → slice_get xs p ≡ hold_of n xs
stands n p [] f a b h s = absurd (true≢false (sym s))
stands n zero (x ∷ xs) f a b h s = by (x.number == n) refl
  where
    by : (c : Bool) → (x.number == n) ≡ c → Some x ≡ hold_of n (x ∷ xs)
    by true e = sym (is_it n x xs e)
    by false e =
        let more : n < x.number = grind (arith, nat_tests, b.0, e) in
        absurd (true≢false (sym s ∙ ap is_some (is_other n x xs e ∙ none_of n xs (past n x xs more f.0))))
stands n (suc p) (x ∷ xs) f a b h s =
    let other : (x.number == n) ≡ false = grind (arith, nat_tests, a.0) in
    stands n p xs f.1 a.1 b (omega (arith, h)) (subst IsSome (is_other n x xs other) s) ∙ sym (is_other n x xs other)

-- so it stands within
pub stands_within : (p : ℕ) (xs : List Hold) → IsSome (slice_get xs p) → p < length xs
stands_within p [] s = absurd (true≢false (sym s))
stands_within zero (x ∷ xs) s = omega arith
stands_within (suc p) (x ∷ xs) s = omega (arith, stands_within p xs s)

pub read_at : {A : Type 0} (p : ℕ) (xs : List A) (x : A) → p < length xs → x ≡ get_or xs p x → slice_get xs p ≡ Some x
read_at p [] x h e = absurd (omega (arith, h))
read_at zero (y ∷ xs) x h e = ap Some (sym e)
read_at (suc p) (y ∷ xs) x h e = read_at p xs x (omega (arith, h)) e

-- ---- it moves, or goes

-- what is found has the number
pub is_numbered : (n : ℕ) (xs : List Hold) (h : Hold) → hold_of n xs ≡ Some h → (h.number == n) ≡ true
is_numbered n [] h e = absurd (cc)
is_numbered n (x ∷ xs) h e = by (x.number == n) refl (is_numbered n xs h)
  where
    by : (c : Bool) → (x.number == n) ≡ c → (hold_of n xs ≡ Some h → (h.number == n) ≡ true) → (h.number == n) ≡ true
    by true k ih =
        let same : x ≡ h = cc in
        ap (λ y. y.number == n) (sym same) ∙ k
    by false k ih = ih (sym (is_other n x xs k) ∙ e)

pub moves : (n t p : ℕ) (xs : List Hold) (y : Hold) → IsRising xs → Each (λ x. x.number < n) (take p xs) → p < length xs → slice_get xs p ≡ hold_of n xs → y ≡ get_or xs p y
    → set xs p (record y { time = t }) ≡ map (at_time n t) xs
moves n t p [] y f a h s e = absurd (omega (arith, h))
moves n t zero (x ∷ xs) y f a h s e =
    let it : (x.number == n) ≡ true = is_numbered n (x ∷ xs) x (sym s) in
    (λ i. (ap {A = Hold} (λ z. record z { time = t }) e ∙ sym (is_moved n t x it)) i ∷ sym (all_unmoved n t xs (greater n x xs it f.0)) i)
moves n t (suc p) (x ∷ xs) y f a h s e =
    let other : (x.number == n) ≡ false = grind (arith, nat_tests, a.0) in
    (λ i. sym (is_unmoved n t x other) i ∷ moves n t p xs y f.1 a.1 (omega (arith, h)) (s ∙ is_other n x xs other) e i)

pub goes : (n p : ℕ) (xs : List Hold) → IsRising xs → Each (λ x. x.number < n) (take p xs) → p < length xs → slice_get xs p ≡ hold_of n xs
    → remove xs p ≡ filter (λ hold. not (hold.number == n)) xs
goes n p [] f a h s = absurd (omega (arith, h))
goes n zero (x ∷ xs) f a h s =
    let it : (x.number == n) ≡ true = is_numbered n (x ∷ xs) x (sym s) in
    sym (is_left_out n x xs it ∙ all_kept n xs (greater n x xs it f.0))
goes n (suc p) (x ∷ xs) f a h s =
    let other : (x.number == n) ≡ false = grind (arith, nat_tests, a.0) in
    ap (λ ys. x ∷ ys) (goes n p xs f.1 a.1 (omega (arith, h)) (s ∙ is_other n x xs other)) ∙ sym (is_kept n x xs other)
