-- What holds of what steps give, where they give something.
use Rattle.std.proofs.Common.{◌≡◌, Bool, true, false, Result, Ok, Err, refl, subst}
use Rattle.std.specs.Prelude.{IfOk, ⊤}
use Rattle.mz_refusal.specs.declared.refusal.Refusal.{Refusal}
use Rattle.mz_resolution.specs.Steps.{Step, ◌>>=◌}
use Rattle.mz_books.specs.Answer.{refused_if}

-- a step, and the one behind it that may count on what it gave
pub then_ok : {A B : Type 0} (r : Result A Refusal) (next : A → Step B) (Q : B → Type 0) → ((x : A) → r ≡ Ok x → IfOk (next x) Q)
    → IfOk (r >>= next) Q
then_ok (Ok x) next Q k = k x refl
then_ok (Err refusal) next Q k = tt

-- a step behind a cause for a refusal
pub past : {B : Type 0} (cause : Bool) (refusal : Refusal) (next : ⊤ → Step B) (Q : B → Type 0)
    → (cause ≡ false → IfOk (next tt) Q) → IfOk (refused_if cause refusal >>= next) Q
past true refusal next Q k = tt
past false refusal next Q k = k refl

-- what a step gives
pub given_ok : {A : Type 0} (r : Result A Refusal) (x : A) (Q : A → Type 0) → IfOk r Q → r ≡ Ok x → Q x
given_ok (Ok y) x Q h e = let same : y ≡ x = cc in subst Q same h
given_ok (Err refusal) x Q h e = absurd (cc)

-- a last step that is only a cause for a refusal
pub past_last : (cause : Bool) (refusal : Refusal) (Q : ⊤ → Type 0) → Q tt → IfOk (refused_if cause refusal) Q
past_last true refusal Q k = tt
past_last false refusal Q k = k
