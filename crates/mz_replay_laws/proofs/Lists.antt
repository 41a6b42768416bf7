-- What holds of the members of lists.
use Rattle.std.proofs.Common.{◌≡◌, Bool, true, List, [], ◌∷◌, filter, suc, inl, inr, arith}
use Rattle.std.proofs.lemmas.Bool.{cond_both}
use Rattle.std.specs.Prelude.{Contains}
use Rattle.std.specs.List.{AllByRecursion as Each}
use Rattle.mz_call_laws.specs.Members.{Has}

-- a member by recursion is one by std's word
pub contains_from : {A : Type 0} (x : A) (xs : List A) → Has x xs → Contains xs x
contains_from x [] h = absurd h
contains_from x (y ∷ ys) (inl same) = (0, omega arith, same)
contains_from x (y ∷ ys) (inr later) =
    let place = contains_from x ys later in (suc place.0, (let within = place.1 in omega arith), place.2)

-- two things hold of each
pub each_both : {A : Type 0} (P Q : A → Type 0) (xs : List A) → Each P xs → Each Q xs → Each (λ x. P x × Q x) xs
each_both P Q [] p q = tt
each_both P Q (x ∷ xs) p q = ((p.0, q.0), each_both P Q xs p.1 q.1)

-- what holds of each that passes holds of those that are kept
pub each_passed : {A : Type 0} (P : A → Type 0) (keeps : A → Bool) (xs : List A) → Each (λ x. keeps x ≡ true → P x) xs → Each P (filter keeps xs)
each_passed P keeps [] h = tt
each_passed P keeps (x ∷ xs) h =
    cond_both (keeps x) (x ∷ filter keeps xs) (filter keeps xs) (Each P) (λ test. (h.0 test, each_passed P keeps xs h.1))
    (λ _. each_passed P keeps xs h.1)
