-- Steps behind members that were found before.
use Rattle.std.proofs.Common.{◌≡◌, refl, ap, List, [], ◌∷◌, ◌++◌, Ok, Err, append_assoc}
use Rattle.mz_resolution.specs.Steps.{Step, ◌>>=◌}

-- what was found before, with what a step gives behind it
abbrev pub with_front : {A : Type 0} → List A → Step (List A) → Step (List A)
with_front front step = step >>= λ others. Ok (front ++ others)

-- nothing was found before
pub front_none : {A : Type 0} (step : Step (List A)) → with_front [] step ≡ step
front_none (Ok others) = refl
front_none (Err refusal) = refl

-- one more was found
pub front_more : {A : Type 0} (front : List A) (x : A) (step : Step (List A)) →
    with_front (front ++ (x ∷ [])) step ≡ with_front front (step >>= λ others. Ok (x ∷ others))
front_more front x (Ok others) = ap Ok (append_assoc front (x ∷ []) others)
front_more front x (Err refusal) = refl

-- what a loop needs that puts the member of each step behind those before it
pub ruleset fronts = (front_none, front_more)
