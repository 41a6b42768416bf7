-- Lists of what each member gives, or of what passes a test.
use Rattle.std.proofs.Common.{◌≡◌, Bool, true, false, cond, ◌||◌, List, [], ◌∷◌, ◌++◌, map, filter, find, Some, is_some, refl, sym, ap, ◌∙◌, append_assoc}
use Rattle.std.specs.Prelude.{flat_map}
use Rattle.std.specs.List.{AllByRecursion as Each, list_any}
use Rattle.std.proofs.lemmas.Bool.{or_parts}
use Rattle.std.proofs.lemmas.List.Elements.{filter-append}

-- what two lists in a row give
pub flat_append : {A B : Type 0} (f : A → List B) (xs ys : List A) → flat_map f (xs ++ ys) ≡ flat_map f xs ++ flat_map f ys
flat_append f [] ys = refl
flat_append f (x ∷ xs) ys = ap (λ l. f x ++ l) (flat_append f xs ys) ∙ sym (append_assoc (f x) (flat_map f xs) (flat_map f ys))

-- where each member, once it is changed, gives only what passes a test, so do all
pub flat_kept : {A B : Type 0} (f : A → List B) (change : A → A) (keep : B → Bool) (xs : List A)
    → Each (λ x. f (change x) ≡ filter keep (f x)) xs → flat_map f (map change xs) ≡ filter keep (flat_map f xs)
flat_kept f change keep [] e = refl
flat_kept f change keep (x ∷ xs) e =
    ap (λ l. l ++ flat_map f (map change xs)) e.0 ∙ ap (λ l. filter keep (f x) ++ l) (flat_kept f change keep xs e.1)
    ∙ sym (filter-append keep (f x) (flat_map f xs))

-- where each member, once it is changed, gives the same, so do all
pub flat_same : {A B : Type 0} (f : A → List B) (change : A → A) (xs : List A)
    → Each (λ x. f (change x) ≡ f x) xs → flat_map f (map change xs) ≡ flat_map f xs
flat_same f change [] e = refl
flat_same f change (x ∷ xs) e =
    ap (λ l. l ++ flat_map f (map change xs)) e.0 ∙ ap (λ l. f x ++ l) (flat_same f change xs e.1)

-- all of what passes a test
pub filter_all : {A : Type 0} (keep : A → Bool) (xs : List A) → Each (λ x. keep x ≡ true) xs → filter keep xs ≡ xs
filter_all keep [] e = refl
filter_all keep (x ∷ xs) e =
    ap (λ b. cond b (x ∷ filter keep xs) (filter keep xs)) e.0 ∙ ap (λ l. x ∷ l) (filter_all keep xs e.1)

-- what passes a test, once it is mapped, and what is mapped of what passes
pub filter_map : {A B : Type 0} (f : A → B) (test : B → Bool) (xs : List A)
    → map f (filter (λ x. test (f x)) xs) ≡ filter test (map f xs)
filter_map f test [] = refl
filter_map f test (x ∷ xs) =
    elim (test (f x)) as (λ b. map f (cond b (x ∷ filter (λ y. test (f y)) xs) (filter (λ y. test (f y)) xs)) ≡ cond b (f x ∷ filter test (map f xs)) (filter test (map f xs))) [
      | true ↦ ap (λ l. f x ∷ l) (filter_map f test xs)
      | false ↦ filter_map f test xs
    ]

-- none passes a test that not any passes
pub none_any : {A : Type 0} (test : A → Bool) (xs : List A) → list_any test xs ≡ false → Each (λ x. test x ≡ false) xs
none_any test [] e = tt
none_any test (x ∷ xs) e = let parts = or_parts (test x) (list_any test xs) e in (parts.0, none_any test xs parts.1)

-- one passes a test exactly where one is found
pub any_found : {A : Type 0} (test : A → Bool) (xs : List A) → list_any test xs ≡ is_some (find test xs)
any_found test [] = refl
any_found test (x ∷ xs) =
    elim (test x) as (λ b. (b || list_any test xs) ≡ is_some (cond b (Some x) (find test xs))) [
      | true ↦ refl
      | false ↦ any_found test xs
    ]
