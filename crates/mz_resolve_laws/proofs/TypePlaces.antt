-- Places in lists: what is at a place of two lists side by side.
use Rattle.std.proofs.Common.{◌≡◌, ◌∙◌, ◌+◌, ◌<◌, refl, sym, subst, ap, ℕ, zero, suc, Bool, true, false, cond, List, [], ◌∷◌, ◌++◌, length, Option, None, Some, slice_get, filter, find, arith, ltb}
use Rattle.std.specs.List.{AllByRecursion as Each, filter_map, cons_option, position, position_or_len}
use Rattle.std.proofs.lemmas.List.Folds.{find_at}
use Rattle.std.proofs.lemmas.Bool.{ltb-true}

-- ---- each member

-- what holds of each of both
pub each_append : {X : Type 0} (P : X → Type 0) (xs ys : List X) → Each P xs → Each P ys → Each P (xs ++ ys)
each_append P [] ys h k = k
each_append P (x ∷ xs) ys h k = (h.0, each_append P xs ys h.1 k)

-- what is weaker holds of each too
pub each_weaker : {X : Type 0} (P Q : X → Type 0) → ((x : X) → P x → Q x) → (xs : List X) → Each P xs → Each Q xs
each_weaker P Q f [] h = tt
each_weaker P Q f (x ∷ xs) h = (f x h.0, each_weaker P Q f xs h.1)

-- what follows of each from two things that hold of each
pub each_from : {X : Type 0} (P Q R : X → Type 0) → ((x : X) → P x → Q x → R x) → (xs : List X) → Each P xs → Each Q xs → Each R xs
each_from P Q R f [] h k = tt
each_from P Q R f (x ∷ xs) h k = (f x h.0 k.0, each_from P Q R f xs h.1 k.1)

-- what holds of each holds of each that is kept
pub each_filter : {X : Type 0} (P : X → Type 0) (keep : X → Bool) (xs : List X) → Each P xs → Each P (filter keep xs)
each_filter P keep [] h = tt
each_filter P keep (x ∷ xs) h = by (keep x) (each_filter P keep xs h.1)
  where
    by : (c : Bool) → Each P (filter keep xs) → Each P (cond c (x ∷ filter keep xs) (filter keep xs))
    by true later = (h.0, later)
    by false later = later

-- ---- places

-- a place in the first of two lists
pub get_left : {X : Type 0} (xs ys : List X) (i : ℕ) (x : X) → slice_get xs i ≡ Some x → slice_get (xs ++ ys) i ≡ Some x
get_left [] ys i x h = absurd cc
get_left (y ∷ xs) ys zero x h = h
get_left (y ∷ xs) ys (suc i) x h = get_left xs ys i x h

-- a place in the second
pub get_right : {X : Type 0} (xs ys : List X) (i : ℕ) → slice_get (xs ++ ys) (length xs + i) ≡ slice_get ys i
get_right [] ys i = let none : 0 + i ≡ i = omega arith in ap (slice_get ys) none
get_right (x ∷ xs) ys i =
    let next : length (x ∷ xs) + i ≡ suc (length xs + i) = omega arith in
    ap (slice_get (x ∷ (xs ++ ys))) next ∙ get_right xs ys i

-- the first place of the second
pub get_here : {X : Type 0} (xs ys : List X) (y : X) → slice_get (xs ++ (y ∷ ys)) (length xs) ≡ Some y
get_here [] ys y = refl
get_here (x ∷ xs) ys y = let next : length (x ∷ xs) ≡ suc (length xs) =
    omega arith in ap (slice_get (x ∷ (xs ++ (y ∷ ys)))) next ∙ get_here xs ys y

-- there is something at each place within
pub some_there : {X : Type 0} (xs : List X) (i : ℕ) → i < length xs → (x : X) × (slice_get xs i ≡ Some x)
some_there [] i h = absurd (omega arith)
some_there (x ∷ xs) zero h = (x, refl)
some_there (x ∷ xs) (suc i) h = some_there xs i (omega arith)

-- ---- the first that passes

-- something is not nothing
some_is_not_none : {X : Type 0} (x : X) → Some x ≡ None → ⊥
some_is_not_none x h = cc

-- what a search finds passes
find_passes : {X : Type 0} (test : X → Bool) (xs : List X) (x : X) → find test xs ≡ Some x → test x ≡ true
find_passes test [] x h = absurd cc
find_passes test (y ∷ xs) x h = by (test y) refl h (find_passes test xs x)
  where
    by : (c : Bool) → test y ≡ c → cond c (Some y) (find test xs) ≡ Some x → (find test xs ≡ Some x → test x ≡ true) → test x ≡ true
    by true passes e k = let same : y ≡ x = cc in subst (λ z. test z ≡ true) same passes
    by false passes e k = k e

-- what is at the place of the first that passes
pub record PassesAt {X : Type 0} (test : X → Bool) (xs : List X) (place : ℕ) : Type 0 where
  pub member : X
  pub here : slice_get xs place ≡ Some member
  pub passes : test member ≡ true

-- the place of the first that passes
pub position_passes : {X : Type 0} (test : X → Bool) (xs : List X) (place : ℕ) → position test xs ≡ Some place → PassesAt test xs place
position_passes test xs place h = by (ltb (position_or_len test xs) (length xs)) refl h
  where
    at : (found : Option _) → find test xs ≡ found → position_or_len test xs < length xs → PassesAt test xs (position_or_len test xs)
    at (Some x) same within = record { member = x; here = sym (find_at test xs) ∙ same; passes = find_passes test xs x same }
    at None same within = let found =
        some_there xs (position_or_len test xs) within in absurd (some_is_not_none found.0 (sym found.1 ∙ (sym (find_at test xs) ∙ same)))

    by : (c : Bool) → ltb (position_or_len test xs) (length xs) ≡ c → cond c (Some (position_or_len test xs)) None ≡ Some place
        → PassesAt test xs place
    by true within e = let same : position_or_len test xs ≡ place =
        cc in subst (PassesAt test xs) same (at (find test xs) refl (ltb-true (position_or_len test xs) (length xs) within))
    by false within e = absurd cc

-- ---- the members at places

-- what is at a place among those at places
pub get_at : {X : Type 0} (xs : List X) (places : List ℕ) → Each (λ place. place < length xs) places → (i place : ℕ)
    → slice_get places i ≡ Some place
    → slice_get (filter_map (slice_get xs) places) i ≡ slice_get xs place
get_at xs [] h i place e = absurd cc
get_at xs (first ∷ places) h zero place e =
    let found = some_there xs first h.0 in
    let same : first ≡ place = cc in
    ap (λ o. slice_get (cons_option o (filter_map (slice_get xs) places)) 0) found.1 ∙ (sym found.1 ∙ ap (slice_get xs) same)
get_at xs (first ∷ places) h (suc i) place e =
    let found = some_there xs first h.0 in
    ap (λ o. slice_get (cons_option o (filter_map (slice_get xs) places)) (suc i)) found.1 ∙ get_at xs places h.1 i place e
