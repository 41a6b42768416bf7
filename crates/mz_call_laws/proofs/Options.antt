-- Small facts on tests and options.
use Rattle.std.proofs.Common.{◌≡◌, ℕ, true, false, Option, Some, None, is_some, is_none, refl}
use Rattle.std.proofs.lemmas.Bool.{false≢true}

-- what tests as none
pub none_of : {A : Type 0} (o : Option A) → is_none o ≡ true → o ≡ None
none_of None e = refl
none_of (Some x) e = absurd (false≢true e)

-- what doesn't test as some is none
pub not_some : {A : Type 0} (o : Option A) → is_some o ≡ false → o ≡ None
not_some None e = refl
not_some (Some x) e = absurd (cc)

-- nothing is no number
pub absent : {P : Type 0} (n : ℕ) → None ≡ Some n → P
absent n e = absurd (cc)

-- a number that is some is that one
pub present : (m n : ℕ) → Some m ≡ Some n → n ≡ m
present m n e = cc
