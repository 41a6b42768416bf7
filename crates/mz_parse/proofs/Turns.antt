-- Lists that are read in a loop.
use Rattle.std.proofs.Common.{◌≡◌, ℕ, suc, ◌+◌, ◌-◌, ◌<◌, ◌≤◌, List, [], ◌∷◌, ◌++◌, length, Some, None, Ok, Err, refl, sym, ap, ◌∙◌, append_assoc, arith}
use Rattle.std.proofs.lemmas.List.{append-nil}
use Rattle.mz_parse.specs.declared.fault.ReadError.{ReadError}
use Rattle.mz_parse.specs.declared.fault.ReadError.TheVariants as errors
use Rattle.mz_grammar.specs.declared.key.Key.{Key}
use Rattle.mz_grammar.specs.declared.token.Tok.{Tok}
use Rattle.mz_grammar.specs.Token.{next}
use Rattle.mz_parse.specs.Reading.{◌>>=◌, Fails, Read, more, listed}

-- what was read before, and what is still read
abbrev pub with_front : {A : Type 0} → List A → Read (List A) → Read (List A)
with_front front read = read >>= λ xs. Ok (front ++ xs.0, xs.1)

-- the list so far, and so many turns that are left of n, are the whole
abbrev pub SoFar : {A : Type 0} → Key → (List Tok → Read A) → List A → ℕ → ℕ → List Tok → Read (List A) → Type 0
SoFar key r front n i ts total = with_front front (more (n - i) key r ts) ≡ total

-- one more was read
regroup : {A : Type 0} (front : List A) (x : A) (read : Read (List A)) → with_front front (read >>= λ xs. Ok (x ∷ xs.0, xs.1)) ≡ with_front (front ++ x ∷ []) read
regroup front x (Ok xs) = ap (λ (l : List _). Ok (l, xs.1)) (simp append_assoc)
regroup front x (Err e) = refl

-- the first was read
pub turn_first : {A : Type 0} (key : Key) (r : List Tok → Read A) (ts us : List Tok) (x : A) → r ts ≡ Ok (x, us) → SoFar key r (x ∷ []) (length us) 0 us (listed key r ts)
turn_first key r ts us x read =
    let k : length us - 0 ≡ length us = omega arith in
    rw (k, read) refl

-- one more stands behind the key
pub turn_on : {A : Type 0} (key : Key) (r : List Tok → Read A) (front : List A) (n i : ℕ) (ts us vs : List Tok) (x : A) (total : Read (List A)) → i < n → next key ts ≡ Some us → r us ≡ Ok (x, vs)
    → SoFar key r front n i ts total → SoFar key r (front ++ x ∷ []) n (i + 1) vs total
turn_on key r front n i ts us vs x total lt found read so_far =
    let k : n - i ≡ suc (n - (i + 1)) = omega arith in
    let one : with_front front (more (n - i) key r ts) ≡ with_front (front ++ x ∷ []) (more (n - (i + 1)) key r vs) = rw (k, found, read) (regroup front x (more (n - (i + 1)) key r vs)) in
    sym one ∙ so_far

-- what stands behind the key has a fault
pub turn_fails : {A : Type 0} (key : Key) (r : List Tok → Read A) (e : ReadError) (front : List A) (n i : ℕ) (ts us : List Tok) (total : Read (List A)) → i < n → next key ts ≡ Some us → Fails e (r us)
    → SoFar key r front n i ts total → Fails e total
turn_fails key r errors.Memory front n i ts us total lt found read so_far = tt
turn_fails key r (errors.Fault f) front n i ts us total lt found read so_far =
    let k : n - i ≡ suc (n - (i + 1)) = omega arith in
    let one : with_front front (more (n - i) key r ts) ≡ Err f = rw (k, found, read) refl in
    sym so_far ∙ one

-- no key stands there
pub turn_ends : {A : Type 0} (key : Key) (r : List Tok → Read A) (front : List A) (n i : ℕ) (ts : List Tok) (total : Read (List A)) → i < n → next key ts ≡ None
    → SoFar key r front n i ts total → total ≡ Ok (front, ts)
turn_ends key r front n i ts total lt found so_far =
    let k : n - i ≡ suc (n - (i + 1)) = omega arith in
    let one : with_front front (more (n - i) key r ts) ≡ Ok (front, ts) = rw (k, found) (ap (λ (l : List _). Ok (l, ts)) (append-nil front)) in
    sym so_far ∙ one

-- all turns are done
pub turn_none : {A : Type 0} (key : Key) (r : List Tok → Read A) (front : List A) (n i : ℕ) (ts : List Tok) (total : Read (List A)) → n ≤ i
    → SoFar key r front n i ts total → total ≡ Ok (front, ts)
turn_none key r front n i ts total le so_far =
    let k : n - i ≡ 0 = omega arith in
    let one : with_front front (more (n - i) key r ts) ≡ Ok (front, ts) = rw k (ap (λ (l : List _). Ok (l, ts)) (append-nil front)) in
    sym so_far ∙ one
