-- Lists of which each member, or one, is changed.
use Rattle.std.proofs.Math.ListN.{set, length-set}
use Rattle.std.proofs.Math.Seq.{take-append_seam, take-length}
use Rattle.std.proofs.Common.{◌≡◌, ℕ, zero, suc, ◌+◌, ◌-◌, ◌<◌, ◌≤◌, add-one, get_or, List, [], ◌∷◌, ◌++◌, length, map, take, drop, refl, sym, ap, ◌∙◌, arith}
use Rattle.std.proofs.lemmas.List.{length-append, length-drop, length-take-le, take-append-le}
use Rattle.mz_plan.specs.declared.command.Command.{Command}
use Rattle.mz_marked.specs.Twice.{Twice}
use Rattle.mz_history.specs.Kept.{but_last, mapped_to, mapped_from, marked_now, markeds, presents, taken_back}

-- the rest of a list, as a slice has it
pub rest_is : {A : Type 0} (n : ℕ) (xs : List A) → take (length xs - n) (drop n xs) ≡ drop n xs
rest_is n xs = ap (λ k. take k (drop n xs)) (sym (length-drop n xs)) ∙ take-length (drop n xs)

-- after all no more are left
pub none_left : {A : Type 0} (n : ℕ) (xs : List A) → length xs ≤ n → [] ≡ drop n xs
none_left zero [] h = refl
none_left (suc n) [] h = refl
none_left zero (x ∷ xs) h = absurd (omega arith)
none_left (suc n) (x ∷ xs) h = none_left n xs (omega arith)

-- ---- each in its turn

mapped_all : {A : Type 0} (f : A → A) (xs : List A) → mapped_to (length xs) f xs ≡ map f xs
mapped_all f [] = refl
mapped_all f (x ∷ xs) = ap (λ ys. f x ∷ ys) (mapped_all f xs)

pub step_in : {A : Type 0} (f : A → A) (d : A) (i : ℕ) (xs : List A) → i < length xs
    → set (mapped_to i f xs) i (f (get_or (mapped_to i f xs) i d)) ≡ mapped_to (suc i) f xs
step_in f d i [] h = absurd (omega arith)
step_in f d zero (x ∷ xs) h = refl
step_in f d (suc i) (x ∷ xs) h = ap (λ ys. f x ∷ ys) (step_in f d i xs (omega arith))

-- one more is changed
pub record Stepped {A : Type 0} (f : A → A) (xs : List A) (n : ℕ) (new : List A) : Type 0 where
  pub is : new ≡ mapped_to (n + 1) f xs
  pub same_length : length new ≡ length xs

unfoldable pub mapped_step : {A : Type 0} (f : A → A) (xs ys : List A) (i : ℕ) (x y : A) → ys ≡ mapped_to i f xs → length ys ≡ length xs
    → i < length ys → x ≡ get_or ys i x → y ≡ f x → Stepped f xs i (set ys i y)
mapped_step f xs ys i x y e l h r q = record {
  is = ap (λ v. set ys i v) (q ∙ ap f r)
      ∙ (ap (λ zs. set zs i (f (get_or zs i x))) e ∙ (step_in f x i xs (omega arith) ∙ ap (λ n. mapped_to n f xs) (sym (add-one i))));
  same_length = length-set ys i y ∙ l;
}

-- all are changed
pub mapped_end : {A : Type 0} (f : A → A) (xs ys : List A) (i : ℕ) → ys ≡ mapped_to i f xs → i ≡ length xs → ys ≡ map f xs
mapped_end f xs ys i e l = e ∙ (ap (λ n. mapped_to n f xs) l ∙ mapped_all f xs)

-- ---- all from a place on

-- behind the last none is left
pub from_end : {A : Type 0} (n : ℕ) (f : A → A) (xs : List A) → length xs ≤ n → xs ≡ mapped_from n f xs
from_end zero f [] h = refl
from_end zero f (x ∷ xs) h = absurd (omega arith)
from_end (suc n) f [] h = refl
from_end (suc n) f (x ∷ xs) h = ap (λ ys. x ∷ ys) (from_end n f xs (omega arith))

-- one is changed, and then the others
pub from_step : {A : Type 0} (n : ℕ) (f : A → A) (xs : List A) (x : A) → n < length xs → x ≡ get_or xs n x
    → mapped_from (suc n) f (set xs n (f x)) ≡ mapped_from n f xs
from_step n f [] x h e = absurd (omega arith)
from_step zero f (y ∷ xs) x h e = ap (λ z. f z ∷ map f xs) e
from_step (suc n) f (y ∷ xs) x h e = ap (λ ys. y ∷ ys) (from_step n f xs x (omega arith) e)

-- a change of one that is taken back
pub set_back : {A : Type 0} (n : ℕ) (xs : List A) (x y : A) → n < length xs → x ≡ get_or xs n x → set (set xs n y) n x ≡ xs
set_back n [] x y h e = absurd (omega arith)
set_back zero (z ∷ xs) x y h e = ap (λ w. w ∷ xs) e
set_back (suc n) (z ∷ xs) x y h e = ap (λ ys. z ∷ ys) (set_back n xs x y (omega arith) e)

-- ---- values with their marks

-- a change of what is marked of none
pub markeds_set : {A : Type 0} (n k : ℕ) (ts : List (Twice A)) (t u : Twice A) → t ≡ get_or ts k t → u.marked ≡ t.marked
    → markeds (take n (set ts k u)) ≡ markeds (take n ts)
markeds_set zero k ts t u e m = refl
markeds_set (suc n) k [] t u e m = refl
markeds_set (suc n) zero (x ∷ ts) t u e m = ap (λ y. y ∷ markeds (take n ts)) (m ∙ ap (λ y. y.marked) e)
markeds_set (suc n) (suc k) (x ∷ ts) t u e m = ap (λ ys. x.marked ∷ ys) (markeds_set n k ts t u e m)

-- one more behind those that are marked
pub markeds_push : {A : Type 0} (n : ℕ) (ts : List (Twice A)) (t : Twice A) → n ≤ length ts → markeds (take n (ts ++ t ∷ [])) ≡ markeds (take n ts)
markeds_push n ts t h = ap markeds (take-append-le n ts (t ∷ []) h)

pub presents_push : {A : Type 0} (ts : List (Twice A)) (t : Twice A) → presents (ts ++ t ∷ []) ≡ presents ts ++ t.present ∷ []
presents_push [] t = refl
presents_push (x ∷ ts) t = ap (λ ys. x.present ∷ ys) (presents_push ts t)

-- marked as they are
pub presents_now : {A : Type 0} (ts : List (Twice A)) → presents (map marked_now ts) ≡ presents ts
presents_now [] = refl
presents_now (t ∷ ts) = ap (λ ys. t.present ∷ ys) (presents_now ts)

pub markeds_now : {A : Type 0} (n : ℕ) (ts : List (Twice A)) → n ≡ length ts → markeds (take n (map marked_now ts)) ≡ presents ts
markeds_now zero [] e = refl
markeds_now (suc n) [] e = absurd (omega (arith, e))
markeds_now zero (t ∷ ts) e = absurd (omega (arith, e))
markeds_now (suc n) (t ∷ ts) e = ap (λ ys. t.present ∷ ys) (markeds_now n ts (omega (arith, e)))

-- taken back
pub presents_back : {A : Type 0} (ts : List (Twice A)) → presents (map taken_back ts) ≡ markeds ts
presents_back [] = refl
presents_back (t ∷ ts) = ap (λ ys. t.marked ∷ ys) (presents_back ts)

-- ---- without the last

pub but_last_push : (xs : List Command) (x : Command) → xs ≡ but_last (xs ++ x ∷ [])
but_last_push xs x =
    let longer : length (xs ++ x ∷ []) - 1 ≡ length xs = omega (arith, length-append xs (x ∷ [])) in
    sym (take-append_seam xs (x ∷ [])) ∙ ap (λ n. take n (xs ++ x ∷ [])) (sym longer)

pub length_but_last : (xs : List Command) → length (but_last xs) ≡ length xs - 1
length_but_last xs = length-take-le (length xs - 1) xs (omega arith)

pub take_take : {A : Type 0} (n m : ℕ) (xs : List A) → n ≤ m → take n (take m xs) ≡ take n xs
take_take zero m xs h = refl
take_take (suc n) zero xs h = absurd (omega (arith, h))
take_take (suc n) (suc m) [] h = refl
take_take (suc n) (suc m) (x ∷ xs) h = ap (λ ys. x ∷ ys) (take_take n m xs (omega (arith, h)))

pub take_but_last : (n : ℕ) (xs : List Command) → n < length xs → take n (but_last xs) ≡ take n xs
take_but_last n xs h = take_take n (length xs - 1) xs (omega (arith, h))
