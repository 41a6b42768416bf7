-- A word whose letters are made small is a word.
use Rattle.std.proofs.Common.{◌≡◌, ℕ, true, List, [], ◌∷◌, length, suc, not, refl, ap, arith, ◌&&◌}
use Rattle.std.specs.Char.{is_ascii_uppercase, to_ascii_lowercase}
use Rattle.std.specs.List.{list_all}
use Rattle.std.proofs.lemmas.Bool.Decides.{nat_tests}
use Rattle.mz_lex.specs.Bytes.{is_word_start, is_word_byte, starts}
use Rattle.mz_lex.specs.Lowered.{lowered, is_small}
use Rattle.mz_lex.specs.Spelling.{IsWord}
use Rattle.mz_lex.proofs.ReachLemmas.{both}

-- a byte made small is no capital
small_byte : (b : ℕ) → not (is_ascii_uppercase (to_ascii_lowercase b)) ≡ true
small_byte b = grind (arith, nat_tests)

-- and begins a word if it did
small_start : (b : ℕ) → is_word_start b ≡ true → is_word_start (to_ascii_lowercase b) ≡ true
small_start b is = grind (arith, nat_tests)

-- and stays a byte of words
small_word_byte : (b : ℕ) → is_word_byte b ≡ true → is_word_byte (to_ascii_lowercase b) ≡ true
small_word_byte b is = grind (arith, nat_tests)

-- no capital is left
pub is_small-lowered : (bs : List ℕ) → is_small (lowered bs) ≡ true
is_small-lowered [] = refl
is_small-lowered (b ∷ bs) = (λ i. small_byte b i && is_small-lowered bs i)

-- a word begins as a word
starts-lowered : (bs : List ℕ) → starts is_word_start bs ≡ true → starts is_word_start (lowered bs) ≡ true
starts-lowered [] is = is
starts-lowered (b ∷ bs) is = small_start b is

-- and has bytes of words alone
all-lowered : (bs : List ℕ) → list_all is_word_byte bs ≡ true → list_all is_word_byte (lowered bs) ≡ true
all-lowered [] is = refl
all-lowered (b ∷ bs) is = (λ i. small_word_byte b (both _ _ is).0 i && all-lowered bs (both _ _ is).1 i)

-- there are as many bytes
length-lowered : (bs : List ℕ) → length (lowered bs) ≡ length bs
length-lowered [] = refl
length-lowered (b ∷ bs) = ap suc (length-lowered bs)

-- so it is a word
pub word-lowered : (bs : List ℕ) → IsWord bs → IsWord (lowered bs)
word-lowered bs word = record {
  start = starts-lowered bs word.start;
  bytes = all-lowered bs word.bytes;
  short = let long = length-lowered bs in let short = word.short in omega arith;
}
