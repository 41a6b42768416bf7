-- What holds of what steps give, where they give something.
use Rattle.std.proofs.Common.{◌≡◌, refl, ap, suc, length, Bool, true, false, cond, List, [], ◌∷◌, Result, Ok, Err}
use Rattle.std.specs.Prelude.{IfOk}
use Rattle.std.specs.List.{AllByRecursion as Each}
use Rattle.mz_refusal.specs.declared.refusal.Refusal.{Refusal}
use Rattle.mz_resolution.specs.Steps.{Step, ◌>>=◌, each}

-- a step and the one behind it
pub then_ok : {A B : Type 0} (r : Result A Refusal) (next : A → Step B) (P : A → Type 0) (Q : B → Type 0) → IfOk r P
    → ((x : A) → P x → IfOk (next x) Q) → IfOk (r >>= next) Q
then_ok (Ok x) next P Q h k = k x h
then_ok (Err refusal) next P Q h k = tt

-- a step of which nothing is known, and the one behind it
pub any_then_ok : {A B : Type 0} (r : Result A Refusal) (next : A → Step B) (Q : B → Type 0) → ((x : A) → r ≡ Ok x → IfOk (next x) Q)
    → IfOk (r >>= next) Q
any_then_ok (Ok x) next Q k = k x refl
any_then_ok (Err refusal) next Q k = tt

-- a choice of two steps
pub choice_ok : {A : Type 0} (test : Bool) (r s : Result A Refusal) (P : A → Type 0) → (test ≡ true → IfOk r P) → (test ≡ false → IfOk s P)
    → IfOk (cond test r s) P
choice_ok true r s P h k = h refl
choice_ok false r s P h k = k refl

-- a step behind a test
pub guard_ok : {A : Type 0} (test : Bool) (x : A) (refusal : Refusal) (P : A → Type 0) → (test ≡ true → P x)
    → IfOk (cond test (Ok x) (Err refusal)) P
guard_ok true x refusal P h = h refl
guard_ok false x refusal P h = tt

-- the same step for each member
pub each_ok : {A B : Type 0} (step : A → Step B) (P : B → Type 0) → ((x : A) → IfOk (step x) P) → (xs : List A)
    → IfOk (each step xs) (Each P)
each_ok step P h [] = tt
each_ok step P h (x ∷ xs) =
    then_ok (step x) _ P (Each P) (h x) (λ first here. then_ok (each step xs) _ (Each P) (Each P) (each_ok step P h xs)
    (λ others there. (here, there)))

-- two things at once
pub both_ok : {A : Type 0} (r : Result A Refusal) (P Q : A → Type 0) → IfOk r P → IfOk r Q → IfOk r (λ x. P x × Q x)
both_ok (Ok x) P Q h k = (h, k)
both_ok (Err refusal) P Q h k = tt

-- the same step for each member, with how many they are
pub each_many_ok : {A B : Type 0} (step : A → Step B) (P : B → Type 0) → ((x : A) → IfOk (step x) P) → (xs : List A)
    → IfOk (each step xs) (λ ys. Each P ys × (length ys ≡ length xs))
each_many_ok step P h [] = (tt, refl)
each_many_ok step P h (x ∷ xs) =
    then_ok (step x) _ P (λ ys. Each P ys × (length ys ≡ length (x ∷ xs))) (h x) (λ first here.
    then_ok (each step xs) _ (λ ys. Each P ys × (length ys ≡ length xs)) (λ ys. Each P ys × (length ys ≡ length (x ∷ xs)))
    (each_many_ok step P h xs)
    (λ others there. ((here, there.0), ap suc there.1)))

-- what follows from what holds
pub weaker_ok : {A : Type 0} (r : Result A Refusal) (P Q : A → Type 0) → IfOk r P → ((x : A) → P x → Q x) → IfOk r Q
weaker_ok (Ok x) P Q h f = f x h
weaker_ok (Err refusal) P Q h f = tt
