-- Words of the lexer: their names, and the keys that they are.
use Rattle.std.proofs.Common.{◌≡◌, ℕ, Bool, true, false, List, [], ◌∷◌, length, refl, ◌&&◌, arith}
use Rattle.std.specs.Prelude.{nat_le}
use Rattle.std.specs.Char.{to_ascii_lowercase}
use Rattle.std.specs.List.{list_all}
use Rattle.std.proofs.lemmas.Bool.{le-leb}
use Rattle.std.proofs.lemmas.Bool.Decides.{nat_tests}
use Rattle.std.proofs.lemmas.Slice.Eq.{bytes_eq-Decides}
use Rattle.mz_lex.specs.Bytes.{is_word_start, is_word_byte}
use Rattle.mz_lex.specs.Lowered.{lowered}
use Rattle.mz_lex.specs.Spelling.{IsWord}
use Rattle.mz_value.specs.Name.{begins_name, continues_name, is_name}

-- whether two texts are equal
pub ruleset key_tests = (bytes_eq-Decides)

-- a letter that begins a word begins a name, once it is small
start_small : (b : ℕ) → is_word_start b ≡ true → begins_name (to_ascii_lowercase b) ≡ true
start_small b h = grind (arith, nat_tests)

-- and so does a byte that goes on with one
byte_small : (b : ℕ) → is_word_byte b ≡ true → continues_name (to_ascii_lowercase b) ≡ true
byte_small b h = grind (arith, nat_tests)

both : (a b : Bool) → (a && b) ≡ true → (a ≡ true) × (b ≡ true)
both true b e = (refl, e)
both false b e = absurd cc

all_small : (bs : List ℕ) → list_all is_word_byte bs ≡ true → list_all continues_name (lowered bs) ≡ true
all_small [] h = refl
all_small (b ∷ bs) h = let t = both (is_word_byte b) (list_all is_word_byte bs) h in λ i. byte_small b t.0 i && all_small bs t.1 i

-- a word with small letters is as long
lowered_long : (bs : List ℕ) → length (lowered bs) ≡ length bs
lowered_long [] = refl
lowered_long (b ∷ bs) = let one = lowered_long bs in omega arith

-- a word is a name, once its letters are small
pub word_name : (bs : List ℕ) → IsWord bs → is_name (lowered bs) ≡ true
word_name [] word = let never = word.start in absurd cc
word_name (b ∷ bs) word =
    let short = word.short in
    let t = both (is_word_byte b) (list_all is_word_byte bs) word.bytes in
    let long = lowered_long (b ∷ bs) in
    let fits : nat_le (length (lowered (b ∷ bs))) 63 ≡ true = le-leb _ 63 (omega arith) in
    λ i. (start_small b word.start i && all_small bs t.1 i) && fits i
