-- How a token is spelled, and how far it reaches.
use Rattle.std.specs.Prelude.{◌≡◌, ℕ, ◌≤◌, Bool, false, List, [], ◌∷◌, ◌++◌, length, ◌==◌, ◌&&◌, ◌||◌, IsTrue, codes, Option, MatchOption}
use Rattle.std.specs.Char.{is_ascii_digit}
use Rattle.std.specs.List.{list_all, list_any}
use Rattle.mz_lex.specs.declared.token.TokenKind.{TokenKind}
use Rattle.mz_lex.specs.declared.token.TokenKind.TheVariants.{Word, Number, Quoted, Sign}
use Rattle.mz_lex.specs.Bytes.{is_word_start, is_word_byte, is_quote, starts}
use Rattle.mz_lex.specs.Quoted.{IsQuoted}

-- the most bytes that a word has
abbrev pub longest_word : ℕ
longest_word = 63

-- a letter or an underscore, then letters, underscores and digits, no longer than may be
pub record IsWord (bs : List ℕ) : Type 0 where
  pub start : IsTrue (starts is_word_start bs)
  pub bytes : IsTrue (list_all is_word_byte bs)
  pub short : length bs ≤ longest_word

-- one digit or more
pub record IsNumber (bs : List ℕ) : Type 0 where
  pub start : IsTrue (starts is_ascii_digit bs)
  pub bytes : IsTrue (list_all is_ascii_digit bs)

-- a sign of one byte
abbrev pub is_single : ℕ → Bool
is_single b = list_any (λ s. s == b) (codes "(),.*=<>-;")

-- a sign of two bytes: less and then equal or greater, or greater and then equal
abbrev pub is_double : ℕ → ℕ → Bool
is_double b c = (b == 60 && (c == 61 || c == 62)) || (b == 62 && c == 61)

-- one of the thirteen signs
abbrev pub is_sign : List ℕ → Bool
is_sign (b ∷ []) = is_single b
is_sign (b ∷ c ∷ []) = is_double b c
is_sign bs = false

-- the bytes spell a token of this kind
abbrev pub IsToken : TokenKind → List ℕ → Type 0
IsToken Word bs = IsWord bs
IsToken Number bs = IsNumber bs
IsToken Quoted bs = IsQuoted bs
IsToken Sign bs = IsTrue (is_sign bs)

-- behind the front of a token of this kind, the byte would still be a part of it
abbrev pub goes_on : TokenKind → List ℕ → ℕ → Bool
goes_on Word front b = is_word_byte b
goes_on Number front b = is_ascii_digit b
goes_on Quoted front b = is_quote b
goes_on Sign front b = is_sign (front ++ b ∷ [])

-- front is a token, and takes as many bytes as it can: it doesn't go on with the rest
pub record Begins (kind : TokenKind) (front rest : List ℕ) : Type 0 where
  pub spelled : IsToken kind front
  pub longest : starts (goes_on kind front) rest ≡ false

-- a token of this kind, n bytes long, stands at the front
pub record BeginsWith (kind : TokenKind) (bs : List ℕ) (n : ℕ) : Type 0 where
  pub front : List ℕ
  pub rest : List ℕ
  pub parts : bs ≡ front ++ rest
  pub token : Begins kind front rest
  pub long : n ≡ length front

-- no token of this kind stands at the front
abbrev pub BeginsNo : TokenKind → List ℕ → Type 0
BeginsNo kind bs = (front rest : List ℕ) → bs ≡ front ++ rest → Begins kind front rest → ⊥

-- found is how far the token of this kind at the front reaches, and None where there is none
abbrev pub Reaches : TokenKind → List ℕ → Option ℕ → Type 0
Reaches kind bs found = MatchOption found (BeginsNo kind bs) (λ n. BeginsWith kind bs n)

-- found is the kind and the length of the token at the front, and None where none begins
abbrev pub Finds : List ℕ → Option (TokenKind × ℕ) → Type 0
Finds bs found =
    MatchOption found ((kind : TokenKind) → BeginsNo kind bs) (λ token. BeginsWith token.0 bs token.1)
