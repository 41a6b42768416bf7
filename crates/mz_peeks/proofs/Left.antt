-- What a test finds in a list, and what is left of it without that.
use Rattle.std.proofs.Common.{◌≡◌, ℕ, suc, ◌<◌, Bool, true, false, cond, Some, None, List, [], ◌∷◌, length, filter, not, get_or, refl, sym, ap, ◌∙◌, arith}
use Rattle.std.specs.List.{find, AllByRecursion as Each}

-- ---- a step of each definition, by the test

pub is_it : {A : Type 0} (test : A → Bool) (x : A) (xs : List A) → test x ≡ true → find test (x ∷ xs) ≡ Some x
is_it test x xs e = ap (λ c. cond c (Some x) (find test xs)) e

pub is_other : {A : Type 0} (test : A → Bool) (x : A) (xs : List A) → test x ≡ false → find test (x ∷ xs) ≡ find test xs
is_other test x xs e = ap (λ c. cond c (Some x) (find test xs)) e

-- the members that don't pass the test
abbrev pub left : {A : Type 0} → (A → Bool) → List A → List A
left test xs = filter (λ y. not (test y)) xs

pub goes_out : {A : Type 0} (test : A → Bool) (x : A) (xs : List A) → test x ≡ true → left test (x ∷ xs) ≡ left test xs
goes_out test x xs e = ap (λ c. cond (not c) (x ∷ left test xs) (left test xs)) e

pub stays : {A : Type 0} (test : A → Bool) (x : A) (xs : List A) → test x ≡ false → left test (x ∷ xs) ≡ x ∷ left test xs
stays test x xs e = ap (λ c. cond (not c) (x ∷ left test xs) (left test xs)) e

-- ---- what is found

-- nothing, where no member passes
pub none_of : {A : Type 0} (test : A → Bool) (xs : List A)
    → ((k : ℕ) (d : A) → k < length xs → test (get_or xs k d) ≡ false) → find test xs ≡ None
none_of test [] h = refl
none_of test (x ∷ xs) h = is_other test x xs (h 0 x (omega arith)) ∙ none_of test xs (λ k d l. h (suc k) d (omega (arith, l)))

-- nothing in what is left
pub none_left : {A : Type 0} (test : A → Bool) (xs : List A) → find test (left test xs) ≡ None
none_left test [] = refl
none_left test (x ∷ xs) = by (test x) refl (none_left test xs)
  where
    by : (b : Bool) → test x ≡ b → find test (left test xs) ≡ None → find test (left test (x ∷ xs)) ≡ None
    by true e ih = ap (find test) (goes_out test x xs e) ∙ ih
    by false e ih = ap (find test) (stays test x xs e) ∙ is_other test x (left test xs) e ∙ ih

-- in what is left of one test, what another finds, where no member passes both
pub other_left : {A : Type 0} (test wanted : A → Bool) → ((x : A) → wanted x ≡ true → test x ≡ false) → (xs : List A)
    → find wanted (left test xs) ≡ find wanted xs
other_left test wanted apart [] = refl
other_left test wanted apart (x ∷ xs) = by (wanted x) (test x) refl refl (other_left test wanted apart xs)
  where
    by : (b c : Bool) → wanted x ≡ b → test x ≡ c → find wanted (left test xs) ≡ find wanted xs
        → find wanted (left test (x ∷ xs)) ≡ find wanted (x ∷ xs)
    by true c e h ih =
        ap (find wanted) (stays test x xs (apart x e)) ∙ is_it wanted x (left test xs) e ∙ sym (is_it wanted x xs e)
    by false true e h ih = ap (find wanted) (goes_out test x xs h) ∙ ih ∙ sym (is_other wanted x xs e)
    by false false e h ih =
        ap (find wanted) (stays test x xs h) ∙ is_other wanted x (left test xs) e ∙ ih ∙ sym (is_other wanted x xs e)

-- ---- what is left

-- all, where nothing is found
pub all_left : {A : Type 0} (test : A → Bool) (xs : List A) → find test xs ≡ None → left test xs ≡ xs
all_left test [] e = refl
all_left test (x ∷ xs) e = by (test x) refl (all_left test xs)
  where
    by : (b : Bool) → test x ≡ b → (find test xs ≡ None → left test xs ≡ xs) → left test (x ∷ xs) ≡ x ∷ xs
    by true k ih =
        let found : Some x ≡ None = sym (is_it test x xs k) ∙ e in
        absurd (cc)
    by false k ih = stays test x xs k ∙ ap (λ ys. x ∷ ys) (ih (sym (is_other test x xs k) ∙ e))

-- what holds of each holds of each that is left
pub each_left : {A : Type 0} (P : A → Type 0) (test : A → Bool) (xs : List A) → Each P xs → Each P (filter test xs)
each_left P test [] p = tt
each_left P test (x ∷ xs) p = by (test x) (each_left P test xs p.1)
  where
    by : (b : Bool) → Each P (filter test xs) → Each P (cond b (x ∷ filter test xs) (filter test xs))
    by true ih = (p.0, ih)
    by false ih = ih
