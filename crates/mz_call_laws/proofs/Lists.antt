-- Members of lists, and pairs of them.
use Rattle.std.proofs.Common.{◌≡◌, ◌⊎◌, ℕ, zero, suc, ◌<◌, length, slice_index_or, Contains, arith, Bool, true, false, cond, List, [], ◌∷◌, ◌++◌, map, find, Some, refl, sym, ap, ◌∙◌, subst, inl, inr}
use Rattle.std.specs.Prelude.{flat_map}
use Rattle.std.specs.List.{AllByRecursion as Each}
use Rattle.mz_rules.proofs.Each.{each_append, each_both, each_left, each_map, each_one, each_unmap}
use Rattle.mz_call_laws.specs.Members.{Has, Pairwise}

-- what holds of each holds of a member
pub each_has : {A : Type 0} (P : A → Type 0) (x : A) (xs : List A) → Each P xs → Has x xs → P x
each_has P x [] e h = elim h [ ]
each_has P x (y ∷ ys) e (inl same) = subst P same e.0
each_has P x (y ∷ ys) e (inr later) = each_has P x ys e.1 later

-- what holds of each member holds of each
pub each_from : {A : Type 0} (P : A → Type 0) (xs : List A) → ((x : A) → Has x xs → P x) → Each P xs
each_from P [] f = tt
each_from P (x ∷ xs) f = (f x (inl refl), each_from P xs (λ y h. f y (inr h)))

-- a member of the first of two lists
pub has_left : {A : Type 0} (x : A) (xs ys : List A) → Has x xs → Has x (xs ++ ys)
has_left x [] ys h = elim h [ ]
has_left x (y ∷ more) ys (inl same) = inl same
has_left x (y ∷ more) ys (inr later) = inr (has_left x more ys later)

-- and of the second
pub has_right : {A : Type 0} (x : A) (xs ys : List A) → Has x ys → Has x (xs ++ ys)
has_right x [] ys h = h
has_right x (y ∷ more) ys h = inr (has_right x more ys h)

-- a member of two lists in a row
pub has_either : {A : Type 0} (x : A) (xs ys : List A) → Has x (xs ++ ys) → Has x xs ⊎ Has x ys
has_either x [] ys h = inr h
has_either x (y ∷ more) ys (inl same) = inl (inl same)
has_either x (y ∷ more) ys (inr later) = elim (has_either x more ys later) [
  | inl here ↦ inl (inr here)
  | inr there ↦ inr there
]

-- a member that is given
pub record Given {A B : Type 0} (f : A → List B) (y : B) (xs : List A) : Type 0 where
  pub giver : A
  pub there : Has giver xs
  pub gives : Has y (f giver)

-- is given by a member
pub has_given : {A B : Type 0} (f : A → List B) (y : B) (xs : List A) → Has y (flat_map f xs) → Given f y xs
has_given f y [] h = elim h [ ]
has_given f y (x ∷ xs) h = elim (has_either y (f x) (flat_map f xs) h) [
  | inl here ↦ record { giver = x; there = inl refl; gives = here }
  | inr later ↦ let g = has_given f y xs later in record { giver = g.giver; there = inr g.there; gives = g.gives }
]

-- what a member gives is given
pub gives_has : {A B : Type 0} (f : A → List B) (x : A) (y : B) (xs : List A) → Has x xs → Has y (f x) → Has y (flat_map f xs)
gives_has f x y [] h g = elim h [ ]
gives_has f x y (z ∷ zs) (inl same) g = has_left y (f z) (flat_map f zs) (subst (λ w. Has y (f w)) (sym same) g)
gives_has f x y (z ∷ zs) (inr later) g = has_right y (f z) (flat_map f zs) (gives_has f x y zs later g)

-- what is found passes, and is a member
pub found : {A : Type 0} (test : A → Bool) (xs : List A) (x : A) → find test xs ≡ Some x → (test x ≡ true) × Has x xs
found test [] x e = absurd (cc)
found test (y ∷ ys) x e =
    elim (test y) as (λ b. test y ≡ b → cond b (Some y) (find test ys) ≡ Some x → (test x ≡ true) × Has x (y ∷ ys)) [
      | true ↦ λ passes is. let same : y ≡ x = cc in (ap test (sym same) ∙ passes, inl same)
      | false ↦ λ _ is. let later = found test ys x is in (later.0, inr later.1)
    ] refl e

-- the member at a place
has_at : {A : Type 0} (x : A) (xs : List A) (k : ℕ) → k < length xs → slice_index_or xs k x ≡ x → Has x xs
has_at x [] k within same = absurd (omega arith)
has_at x (y ∷ ys) zero within same = inl same
has_at x (y ∷ ys) (suc k) within same = inr (has_at x ys k (omega arith) same)

-- from std's `Contains`
pub has_from : {A : Type 0} (x : A) (xs : List A) → Contains xs x → Has x xs
has_from x xs h = has_at x xs h.0 h.1 h.2

-- and to it
pub contains_from : {A : Type 0} (x : A) (xs : List A) → Has x xs → Contains xs x
contains_from x [] h = elim h [ ]
contains_from x (y ∷ ys) (inl same) = (0, omega arith, same)
contains_from x (y ∷ ys) (inr later) =
    let place = contains_from x ys later in (suc place.0, (let within = place.1 in omega arith), place.2)

-- pairs of members, once each is changed
pub pairwise_map : {A B : Type 0} (P : A → A → Type 0) (Q : B → B → Type 0) (R : A → Type 0) (f : A → B)
    → ((x y : A) → R x → R y → P x y → Q (f x) (f y)) → (xs : List A) → Each R xs → Pairwise P xs → Pairwise Q (map f xs)
pairwise_map P Q R f step [] r p = tt
pairwise_map P Q R f step (x ∷ xs) r p = (
  each_map (λ y. R y × P x y) (Q (f x)) f (λ y h. step x y r.0 h.0 h.1) xs (each_both R (P x) (λ y. R y × P x y) (λ y h k. (h, k)) xs r.1 p.0),
  pairwise_map P Q R f step xs r.1 p.1,
)

-- and with one member more
pub pairwise_one : {A : Type 0} (P : A → A → Type 0) (xs : List A) (y : A) → Pairwise P xs → Each (λ x. P x y) xs
    → Pairwise P (xs ++ y ∷ [])
pairwise_one P [] y p e = (tt, tt)
pairwise_one P (x ∷ xs) y p e = (each_one (P x) xs y p.0 e.0, pairwise_one P xs y p.1 e.1)

-- two members are one, or one stands before the other
pub either_order : {A : Type 0} (P : A → A → Type 0) (xs : List A) (x y : A) → Pairwise P xs → Has x xs → Has y xs
    → (x ≡ y) ⊎ (P x y ⊎ P y x)
either_order P [] x y p h k = elim h [ ]
either_order P (z ∷ zs) x y p (inl same) (inl also) = inl (sym same ∙ also)
either_order P (z ∷ zs) x y p (inl same) (inr later) = inr (inl (subst (λ w. P w y) same (each_has (P z) y zs p.0 later)))
either_order P (z ∷ zs) x y p (inr later) (inl same) = inr (inr (subst (λ w. P w x) same (each_has (P z) x zs p.0 later)))
either_order P (z ∷ zs) x y p (inr here) (inr there) = either_order P zs x y p.1 here there

-- pairs within two lists in a row
pub pairwise_append : {A : Type 0} (P : A → A → Type 0) (xs ys : List A) → Pairwise P xs → Pairwise P ys
    → ((x : A) → Has x xs → Each (P x) ys) → Pairwise P (xs ++ ys)
pairwise_append P [] ys p q f = q
pairwise_append P (x ∷ xs) ys p q f =
    (each_append (P x) xs ys p.0 (f x (inl refl)), pairwise_append P xs ys p.1 q (λ y h. f y (inr h)))

-- pairs of what the members give
pub pairwise_flat : {A B : Type 0} (P : A → A → Type 0) (Q : B → B → Type 0) (f : A → List B) → ((x : A) → Pairwise Q (f x))
    → ((x y : A) (b c : B) → P x y → Has b (f x) → Has c (f y) → Q b c) → (xs : List A) → Pairwise P xs → Pairwise Q (flat_map f xs)
pairwise_flat P Q f own step [] p = tt
pairwise_flat P Q f own step (x ∷ xs) p =
    pairwise_append Q (f x) (flat_map f xs) (own x) (pairwise_flat P Q f own step xs p.1)
    (λ b here. each_from (Q b) (flat_map f xs)
    (λ c there. let g = has_given f c xs there in step x g.giver b c (each_has (P x) g.giver xs p.0 g.there) here g.gives))

-- pairs of which a function makes such
pub pairwise_unmap : {A B : Type 0} (P : A → A → Type 0) (Q : B → B → Type 0) (f : A → B) → ((x y : A) → Q (f x) (f y) → P x y)
    → (xs : List A) → Pairwise Q (map f xs) → Pairwise P xs
pairwise_unmap P Q f g [] p = tt
pairwise_unmap P Q f g (x ∷ xs) p = (each_unmap (P x) (Q (f x)) f (g x) xs p.0, pairwise_unmap P Q f g xs p.1)

-- pairs within the first of two lists
pub pairwise_left : {A : Type 0} (P : A → A → Type 0) (xs ys : List A) → Pairwise P (xs ++ ys) → Pairwise P xs
pairwise_left P [] ys p = tt
pairwise_left P (x ∷ xs) ys p = (each_left (P x) xs ys p.0, pairwise_left P xs ys p.1)

-- a member, once it is mapped
pub has_map : {A B : Type 0} (f : A → B) (x : A) (xs : List A) → Has x xs → Has (f x) (map f xs)
has_map f x [] h = elim h [ ]
has_map f x (y ∷ ys) (inl same) = inl (ap f same)
has_map f x (y ∷ ys) (inr later) = inr (has_map f x ys later)
