-- Steps that gave something: no refusal came.
use Rattle.std.specs.Prelude.{⊤}
use Rattle.std.proofs.Common.{◌≡◌, ℕ, Bool, true, false, Option, None, Some, Ok, Err, refl}
use Rattle.mz_refusal.specs.declared.refusal.Refusal.{Refusal}
use Rattle.mz_resolution.specs.Steps.{Step, ◌>>=◌}
use Rattle.mz_books.specs.Answer.{busy, refused_if}

-- a step that gave something, and what came next
pub record Passed {A B : Type 0} (first : Step A) (next : A → Step B) (last : Step B) : Type 0 where
  pub value : A
  pub is : first ≡ Ok value
  pub then : next value ≡ last

-- both steps passed where the last did
unfoldable pub passed : {A B : Type 0} (first : Step A) (next : A → Step B) (y : B) → (first >>= next) ≡ Ok y → Passed first next (Ok y)
passed (Ok x) next y e = record { value = x; is = refl; then = e }
passed (Err refusal) next y e = absurd (cc)

-- no cause was found
pub no_cause : (cause : Bool) (refusal : Refusal) (value : ⊤) → refused_if cause refusal ≡ Ok value → cause ≡ false
no_cause false refusal value e = refl
no_cause true refusal value e = absurd (cc)

-- the session doesn't wait
pub not_busy : (outstanding : Option ℕ) (value : ⊤) → busy outstanding ≡ Ok value → outstanding ≡ None
not_busy None value e = refl
not_busy (Some call) value e = absurd (cc)
