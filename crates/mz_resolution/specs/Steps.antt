-- Steps that may be refused. The first refusal stands for all that comes behind it.
use Rattle.std.specs.Prelude.{List, [], ◌∷◌, Option, None, Some, Result, Ok, Err}
use Rattle.mz_refusal.specs.declared.refusal.Refusal.{Refusal}

-- what a step gives, or the refusal that it meets
abbrev pub Step : Type 0 → Type 0
Step A = Result A Refusal

infixl 10 ◌>>=◌
-- go on with what a step gives, or stay with its refusal
abbrev pub ◌>>=◌ : {A B : Type 0} → Step A → (A → Step B) → Step B
(Ok x) >>= next = next x
(Err refusal) >>= next = Err refusal

-- the same step for each member, from the left
abbrev pub each : {A B : Type 0} → (A → Step B) → List A → Step (List B)
each step [] = Ok []
each step (x ∷ xs) = do
  first ← step x
  others ← each step xs
  Ok (first ∷ others)

-- this value, unless there is a refusal
abbrev pub unless : {A : Type 0} → Option Refusal → A → Step A
unless None x = Ok x
unless (Some refusal) x = Err refusal
