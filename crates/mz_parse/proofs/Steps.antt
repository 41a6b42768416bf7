-- Single steps of reading, seen from what was read.
use Rattle.std.proofs.Common.{◌≡◌, Bool, true, false, List, [], ◌∷◌, Option, Some, None, Result, Ok, Err, refl, ap, if◌then◌else◌, ◌&&◌}
use denote.Enum.Bare.{same_true}
use Rattle.mz_grammar.specs.contracts.key.Key.{the_type}
use Rattle.mz_parse.specs.declared.fault.Fault.{Fault}
use Rattle.mz_grammar.specs.declared.key.Key.{Key}
use Rattle.mz_grammar.specs.declared.token.Tok.{Tok}
use Rattle.mz_grammar.specs.declared.token.Tok.TheVariants.{Key as K, Name as N, Number, Text as T}
use Rattle.mz_grammar.specs.Token.{next, same}
use Rattle.mz_parse.specs.Reading.{◌>>=◌, behind, key_at, within}

-- the value of a step that did not fail
pub bind_ok : {A B : Type 0} (r : Result A Fault) (f : A → Result B Fault) (y : B) → (r >>= f) ≡ Ok y → (x : A) × (r ≡ Ok x) × (f x ≡ Ok y)
bind_ok (Ok x) f y e = (x, refl, e)
bind_ok (Err d) f y e = absurd cc

abbrev done : {A : Type 0} → A → Result A Fault
done x = Ok x

-- two values that were read are one
pub ok_is : {A : Type 0} (x y : A) → done x ≡ done y → x ≡ y
ok_is x y e = cc

-- a key that was tested
key_is : (first key : Key) (b : Bool) (ts us : List Tok) → same first key ≡ b → (if b then Some ts else None) ≡ Some us → K first ∷ ts ≡ K key ∷ us
key_is first key true ts us is e = let one : first ≡ key = same_true the_type tt first key is in cc
key_is first key false ts us is e = absurd cc

-- what stands behind a key
pub next_is : (key : Key) (ts us : List Tok) → next key ts ≡ Some us → ts ≡ K key ∷ us
next_is key [] us e = absurd cc
next_is key (K first ∷ ts) us e = key_is first key (same first key) ts us refl e
next_is key (N name ∷ ts) us e = absurd cc
next_is key (Number n ∷ ts) us e = absurd cc
next_is key (T text ∷ ts) us e = absurd cc

behind_is : (key : Key) (ts us : List Tok) (found : Option (List Tok)) → next key ts ≡ found → behind ts found ≡ Ok us → ts ≡ K key ∷ us
behind_is key ts us None is e = absurd cc
behind_is key ts us (Some vs) is e = next_is key ts us (let one = ok_is vs us e in cc)

-- a key that had to stand there
pub key_at_is : (key : Key) (ts us : List Tok) → key_at key ts ≡ Ok us → ts ≡ K key ∷ us
key_at_is key ts us e = behind_is key ts us (next key ts) refl e

-- what was within its limits
pub within_is : {A : Type 0} (b : Bool) (ts : List Tok) (x : A) (us : List Tok) (y : A) (vs : List Tok) → within b ts x us ≡ Ok (y, vs) → (b ≡ true) × (x ≡ y) × (us ≡ vs)
within_is true ts x us y vs e = let one = ok_is (x, us) (y, vs) e in (refl, ap (λ p. p.0) one, ap (λ p. p.1) one)
within_is false ts x us y vs e = absurd cc

-- two parts that are equal make one pair
pub both_is : {A B : Type 0} (x y : A) (a b : B) → x ≡ y → a ≡ b → (let one : A × B = (x, a) in one) ≡ (y, b)
both_is x y a b e f i = (e i, f i)

-- both tests of a pair
pub both : (a b : Bool) → (a && b) ≡ true → (a ≡ true) × (b ≡ true)
both true b e = (refl, e)
both false b e = absurd cc
