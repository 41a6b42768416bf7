-- What the newest of some indexes gives, and when it is bounded.
use Rattle.std.proofs.Common.{◌≡◌, ℕ, zero, suc, ◌-◌, ◌≤◌, ◌==◌, Bool, true, false, List, [], ◌∷◌, cond, take, drop, length, get_or, refl, sym, ap, subst, ◌≢◌, ◌∙◌, arith}
use Rattle.std.proofs.lemmas.Bool.Decides.{Decides-eqb}
use Rattle.mz_plan.specs.Bound.{IsBoundedOver, either_of, index_bounded}
use Rattle.mz_plan.specs.Meaning.{Leaves, index_rows, meaning}
use Rattle.mz_plan.specs.declared.plan.Plan.{Plan}

-- enough of a list is the list
take_all : {X : Type 0} (n : ℕ) (xs : List X) → length xs ≤ n → take n xs ≡ xs
take_all zero [] h = refl
take_all zero (x ∷ xs) h = absurd (omega (arith, h))
take_all (suc n) [] h = refl
take_all (suc n) (x ∷ xs) h = ap (λ ys. x ∷ ys) (take_all n xs (omega (arith, h)))

-- a list is its first member and the rest
pub parted : {X : Type 0} (xs : List X) (x : X) → 1 ≤ length xs → x ≡ get_or xs 0 x → xs ≡ x ∷ take (length xs - 1) (drop 1 xs)
parted [] x within is = absurd (omega (arith, within))
parted (y ∷ ys) x within is = ap (λ z. z ∷ ys) (sym is) ∙ ap (λ zs. x ∷ zs) (sym (take_all (length (y ∷ ys) - 1) ys (omega arith)))

-- the newest index gives its plan's rows
pub newest_rows : (tables : Leaves) (newest : ℕ × Plan) (older : List (ℕ × Plan)) (item : ℕ) → newest.0 ≡ item
    → meaning tables (index_rows tables older) newest.1 ≡ index_rows tables (newest ∷ older) item
newest_rows tables newest older item is =
    sym (ap (λ c. cond c (meaning tables (index_rows tables older) newest.1) (index_rows tables older item))
    ((Decides-eqb newest.0 item).1 is))

-- where it is bounded its plan is
pub newest_bounded : (tables : Leaves) (newest : ℕ × Plan) (older : List (ℕ × Plan)) (item : ℕ) → newest.0 ≡ item
    → index_bounded tables (newest ∷ older) item → IsBoundedOver tables older newest.1
newest_bounded tables newest older item is h =
    subst (λ c. either_of c (IsBoundedOver tables older newest.1) (index_bounded tables older item)) ((Decides-eqb newest.0 item).1 is) h

-- and an older one is bounded
pub older_bounded : (tables : Leaves) (newest : ℕ × Plan) (older : List (ℕ × Plan)) (item : ℕ) → newest.0 ≢ item
    → index_bounded tables (newest ∷ older) item → index_bounded tables older item
older_bounded tables newest older item other h = by (newest.0 == item) refl h
  where
    by : (c : Bool) → (newest.0 == item) ≡ c → either_of c (IsBoundedOver tables older newest.1) (index_bounded tables older item)
        → index_bounded tables older item
    by true is h = absurd (other ((Decides-eqb newest.0 item).0 is))
    by false is h = h
