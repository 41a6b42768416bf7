-- The times and numbers of holds, as holds come, move and go.
use Rattle.std.proofs.Common.{◌≡◌, ℕ, ◌+◌, ◌<◌, ◌≤◌, ◌==◌, Bool, true, false, cond, Some, List, [], ◌∷◌, ◌++◌, map, filter, not, refl, sym, ap, subst, ◌∙◌, arith}
use Rattle.std.proofs.lemmas.Bool.Decides.{nat_tests}
use Rattle.std.specs.List.{AllByRecursion as Each}
use Rattle.mz_counted.specs.Counted.{inserted, in_order}
use Rattle.mz_counted.proofs.Multiset.{any_order}
use Rattle.mz_rules.specs.declared.capability.Hold.{Hold}
use Rattle.mz_holds.specs.HoldBook.{at_time, hold_of, times_on}
use Rattle.mz_holds.specs.Kept.{changed_at, AreNumbered, IsRising}
use Rattle.mz_holds.proofs.Counting.{changed_here, changed_elsewhere}
use Rattle.mz_holds.proofs.Found.{is_it, is_other, is_left_out, is_kept, is_moved, is_unmoved, greater, all_kept}

-- the times of the holds on a collection, in order
abbrev pub sorted_on : ℕ → List Hold → List ℕ
sorted_on c xs = in_order (times_on c xs)

pub on_it : (c : ℕ) (x : Hold) (xs : List Hold) → (x.collection == c) ≡ true → times_on c (x ∷ xs) ≡ x.time ∷ times_on c xs
on_it c x xs e = ap (λ b. cond b (x.time ∷ times_on c xs) (times_on c xs)) e

pub on_other : (c : ℕ) (x : Hold) (xs : List Hold) → (x.collection == c) ≡ false → times_on c (x ∷ xs) ≡ times_on c xs
on_other c x xs e = ap (λ b. cond b (x.time ∷ times_on c xs) (times_on c xs)) e

same_test : (m n : ℕ) (b : Bool) → (m == n) ≡ b → (n == m) ≡ b
same_test m n true e = grind (arith, nat_tests, e)
same_test m n false e = grind (arith, nat_tests, e)

-- a hold in front
pub front : (c : ℕ) (x : Hold) (xs : List Hold) → sorted_on c (x ∷ xs) ≡ changed_at x.collection (inserted x.time) c (sorted_on c xs)
front c x xs = by (x.collection == c) refl
  where
    by : (b : Bool) → (x.collection == c) ≡ b → sorted_on c (x ∷ xs) ≡ changed_at x.collection (inserted x.time) c (sorted_on c xs)
    by true e = ap in_order (on_it c x xs e) ∙ sym (changed_here (inserted x.time) x.collection c (sorted_on c xs) (same_test _ _ _ e))
    by false e = ap in_order (on_other c x xs e) ∙ sym (changed_elsewhere (inserted x.time) x.collection c (sorted_on c xs) (same_test _ _ _ e))

-- two changes by a time more may change places
either : (t u k l c : ℕ) (ts : List ℕ)
    → changed_at k (inserted t) c (changed_at l (inserted u) c ts) ≡ changed_at l (inserted u) c (changed_at k (inserted t) c ts)
either t u k l c ts = by (c == k) (c == l)
  where
    by : (a b : Bool) → cond a (inserted t (cond b (inserted u ts) ts)) (cond b (inserted u ts) ts) ≡ cond b (inserted u (cond a (inserted t ts) ts)) (cond a (inserted t ts) ts)
    by true true = any_order t u ts
    by true false = refl
    by false true = refl
    by false false = refl

-- a hold at the end
pub behind : (c : ℕ) (x : Hold) (xs : List Hold) → sorted_on c (xs ++ x ∷ []) ≡ changed_at x.collection (inserted x.time) c (sorted_on c xs)
behind c x [] = front c x []
behind c x (y ∷ xs) =
    front c y (xs ++ x ∷ []) ∙ ap (λ ts. changed_at y.collection (inserted y.time) c ts) (behind c x xs)
    ∙ either y.time x.time y.collection x.collection c (sorted_on c xs) ∙ ap (λ ts. changed_at x.collection (inserted x.time) c ts) (sym (front c y xs))

-- the others
abbrev pub others : ℕ → List Hold → List Hold
others n xs = filter (λ hold. not (hold.number == n)) xs

-- a hold and the others
pub with_others : (n c : ℕ) (xs : List Hold) (h : Hold) → IsRising xs → hold_of n xs ≡ Some h
    → sorted_on c xs ≡ changed_at h.collection (inserted h.time) c (sorted_on c (others n xs))
with_others n c [] h f e = absurd (cc)
with_others n c (x ∷ xs) h f e = by (x.number == n) refl (with_others n c xs h f.1)
  where
    by : (b : Bool) → (x.number == n) ≡ b → (hold_of n xs ≡ Some h → sorted_on c xs ≡ changed_at h.collection (inserted h.time) c (sorted_on c (others n xs)))
        → sorted_on c (x ∷ xs) ≡ changed_at h.collection (inserted h.time) c (sorted_on c (others n (x ∷ xs)))
    by true k ih =
        let it : Some x ≡ Some h = sym (is_it n x xs k) ∙ e in
        let same : x ≡ h = cc in
        front c x xs ∙ ap (λ y. changed_at y.collection (inserted y.time) c (sorted_on c xs)) same
        ∙ ap (λ ys. changed_at h.collection (inserted h.time) c (sorted_on c ys)) (sym (is_left_out n x xs k ∙ all_kept n xs (greater n x xs k f.0)))
    by false k ih =
        front c x xs ∙ ap (λ ts. changed_at x.collection (inserted x.time) c ts) (ih (sym (is_other n x xs k) ∙ e))
        ∙ either x.time h.time x.collection h.collection c (sorted_on c (others n xs))
        ∙ ap (λ ts. changed_at h.collection (inserted h.time) c ts) (sym (ap (sorted_on c) (is_kept n x xs k) ∙ front c x (others n xs)))

-- one moved, the others stay, and it is found at its time
pub others_moved : (n t : ℕ) (xs : List Hold) → others n (map (at_time n t) xs) ≡ others n xs
others_moved n t [] = refl
others_moved n t (x ∷ xs) = by (x.number == n) refl (others_moved n t xs)
  where
    by : (b : Bool) → (x.number == n) ≡ b → others n (map (at_time n t) xs) ≡ others n xs → others n (map (at_time n t) (x ∷ xs)) ≡ others n (x ∷ xs)
    by true k ih =
        ap (λ y. others n (y ∷ map (at_time n t) xs)) (is_moved n t x k)
        ∙ is_left_out n (record x { time = t }) (map (at_time n t) xs) k ∙ ih ∙ sym (is_left_out n x xs k)
    by false k ih =
        ap (λ y. others n (y ∷ map (at_time n t) xs)) (is_unmoved n t x k)
        ∙ is_kept n x (map (at_time n t) xs) k ∙ ap (λ ys. x ∷ ys) ih ∙ sym (is_kept n x xs k)

pub found_moved : (n t : ℕ) (xs : List Hold) (h : Hold) → hold_of n xs ≡ Some h → hold_of n (map (at_time n t) xs) ≡ Some (record h { time = t })
found_moved n t [] h e = absurd (cc)
found_moved n t (x ∷ xs) h e = by (x.number == n) refl (found_moved n t xs h)
  where
    by : (b : Bool) → (x.number == n) ≡ b → (hold_of n xs ≡ Some h → hold_of n (map (at_time n t) xs) ≡ Some (record h { time = t }))
        → hold_of n (map (at_time n t) (x ∷ xs)) ≡ Some (record h { time = t })
    by true k ih =
        let it : Some x ≡ Some h = sym (is_it n x xs k) ∙ e in
        let same : x ≡ h = cc in
        ap (λ y. hold_of n (y ∷ map (at_time n t) xs)) (is_moved n t x k)
        ∙ is_it n (record x { time = t }) (map (at_time n t) xs) k ∙ ap {A = Hold} (λ y. Some (record y { time = t })) same
    by false k ih =
        ap (λ y. hold_of n (y ∷ map (at_time n t) xs)) (is_unmoved n t x k)
        ∙ is_other n x (map (at_time n t) xs) k ∙ ih (sym (is_other n x xs k) ∙ e)

-- ---- numbers

each_others : (P : Hold → Type 0) (n : ℕ) (xs : List Hold) → Each P xs → Each P (others n xs)
each_others P n [] p = tt
each_others P n (x ∷ xs) p = by (x.number == n) refl (each_others P n xs p.1)
  where
    by : (b : Bool) → (x.number == n) ≡ b → Each P (others n xs) → Each P (others n (x ∷ xs))
    by true k ih = rw (is_left_out n x xs k) ih
    by false k ih = rw (is_kept n x xs k) (p.0, ih)

rising_others : (n : ℕ) (xs : List Hold) → IsRising xs → IsRising (others n xs)
rising_others n [] f = tt
rising_others n (x ∷ xs) f = by (x.number == n) refl (rising_others n xs f.1)
  where
    by : (b : Bool) → (x.number == n) ≡ b → IsRising (others n xs) → IsRising (others n (x ∷ xs))
    by true k ih = rw (is_left_out n x xs k) ih
    by false k ih = rw (is_kept n x xs k) (each_others (λ y. x.number < y.number) n xs f.0, ih)

pub numbered_others : (n taken : ℕ) (xs : List Hold) → AreNumbered xs taken → AreNumbered (others n xs) taken
numbered_others n taken xs p = record { rising = rising_others n xs p.rising; within = each_others (λ y. y.number ≤ taken) n xs p.within }

same_number : (n t : ℕ) (x : Hold) → (at_time n t x).number ≡ x.number
same_number n t x = by (x.number == n)
  where
    by : (b : Bool) → (cond b (record x { time = t }) x).number ≡ x.number
    by true = refl
    by false = refl

each_moved : (P : ℕ → Type 0) (n t : ℕ) (xs : List Hold) → Each (λ x. P x.number) xs → Each (λ x. P x.number) (map (at_time n t) xs)
each_moved P n t [] p = tt
each_moved P n t (x ∷ xs) p = (subst P (sym (same_number n t x)) p.0, each_moved P n t xs p.1)

pub rising_moved : (n t : ℕ) (xs : List Hold) → IsRising xs → IsRising (map (at_time n t) xs)
rising_moved n t [] f = tt
rising_moved n t (x ∷ xs) f =
    (subst (λ m. Each (λ y. m < y.number) (map (at_time n t) xs)) (sym (same_number n t x)) (each_moved (λ m. x.number < m) n t xs f.0), rising_moved n t xs f.1)

pub numbered_moved : (n t taken : ℕ) (xs : List Hold) → AreNumbered xs taken → AreNumbered (map (at_time n t) xs) taken
numbered_moved n t taken xs p = record { rising = rising_moved n t xs p.rising; within = each_moved (λ m. m ≤ taken) n t xs p.within }

within_more : (taken : ℕ) (xs : List Hold) (x : Hold) → Each (λ y. y.number ≤ taken) xs → x.number ≡ taken + 1 → Each (λ y. y.number ≤ taken + 1) (xs ++ x ∷ [])
within_more taken [] x p e = (omega (arith, e), tt)
within_more taken (y ∷ xs) x p e = (omega (arith, p.0), within_more taken xs x p.1 e)

before_more : (m : ℕ) (xs : List Hold) (x : Hold) → Each (λ y. m < y.number) xs → m < x.number → Each (λ y. m < y.number) (xs ++ x ∷ [])
before_more m [] x p h = (h, tt)
before_more m (y ∷ xs) x p h = (p.0, before_more m xs x p.1 h)

rising_more : (taken : ℕ) (xs : List Hold) (x : Hold) → IsRising xs → Each (λ y. y.number ≤ taken) xs → x.number ≡ taken + 1 → IsRising (xs ++ x ∷ [])
rising_more taken [] x f p e = (tt, tt)
rising_more taken (y ∷ xs) x f p e = (before_more y.number xs x f.0 (omega (arith, p.0, e)), rising_more taken xs x f.1 p.1 e)

-- one with the next number behind them
pub numbered_more : (taken : ℕ) (xs : List Hold) (x : Hold) → AreNumbered xs taken → x.number ≡ taken + 1 → AreNumbered (xs ++ x ∷ []) (taken + 1)
numbered_more taken xs x p e = record { rising = rising_more taken xs x p.rising p.within e; within = within_more taken xs x p.within e }
