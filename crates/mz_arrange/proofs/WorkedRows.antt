-- The definitions of keys, computed at rows of two values.
use Rattle.std.proofs.Common.{◌≡◌, ℤ, pos, true, false, List, [], ◌∷◌, refl}
use Rattle.mz_value.specs.declared.datum.Datum.{Datum}
use Rattle.mz_value.specs.declared.datum.Datum.TheVariants.{Int}
use Rattle.mz_arrange.specs.Arranged.{begins_with, of_key}

pair : ℤ → ℤ → List Datum
pair x y = Int x ∷ Int y ∷ []

-- the first value is a key, and so is the whole row
by_first : begins_with (Int (pos 7) ∷ []) (pair (pos 7) (pos 1)) ≡ true
unfolding pair
by_first = refl

by_all : begins_with (pair (pos 7) (pos 1)) (pair (pos 7) (pos 1)) ≡ true
unfolding pair
by_all = refl

-- none at all is one too
by_none : begins_with [] (pair (pos 7) (pos 1)) ≡ true
unfolding pair
by_none = refl

-- the second value isn't, nor is what is longer than the row
by_second : begins_with (Int (pos 1) ∷ []) (pair (pos 7) (pos 1)) ≡ false
unfolding pair
by_second = refl

by_more : begins_with (Int (pos 7) ∷ Int (pos 1) ∷ Int (pos 1) ∷ []) (pair (pos 7) (pos 1)) ≡ false
unfolding pair
by_more = refl

-- of these rows two are of the key
two_of_three : of_key (Int (pos 7) ∷ []) ((pair (pos 7) (pos 1), pos 2) ∷ (pair (pos 8) (pos 7), pos 1) ∷ (pair (pos 7) (pos 3), pos 1) ∷ [])
    ≡ (pair (pos 7) (pos 1), pos 2) ∷ (pair (pos 7) (pos 3), pos 1) ∷ []
unfolding pair
two_of_three = refl
