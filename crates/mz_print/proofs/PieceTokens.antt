-- A printed piece is a token of its kind, which stands for what the piece stands for.
use Rattle.std.proofs.Common.{◌≡◌, ℕ, ◌<◌, ◌≢◌, ◌==◌, Bool, true, false, not, ◌&&◌, ◌||◌, List, [], ◌∷◌, length, refl, ap, ◌∙◌, arith, None}
use Rattle.std.specs.Prelude.{map, nat_le, bytes_eq}
use Rattle.std.specs.Char.{is_ascii_digit, to_ascii_lowercase, digit_value}
use Rattle.std.specs.Cmp.{first_so, second_so}
use Rattle.std.specs.Fmt.{decimal}
use Rattle.std.specs.List.{list_all, list_any, AllByRecursion as Each}
use Rattle.std.specs.Str.Parse.{AllDigits, IsNumeral}
use Rattle.std.proofs.lemmas.Bool.{leb-true}
use Rattle.std.proofs.lemmas.Bool.Decides.{nat_tests}
use Rattle.std.proofs.lemmas.Cmp.{nat_list_eq_equiv}
use Rattle.std.proofs.lemmas.Fmt.{decimal_is_IsNumeral}
use Rattle.std.proofs.lemmas.Str.Parse.{digit_from_value}
use Rattle.mz_lex.specs.declared.token.TokenKind.{TokenKind}
use Rattle.mz_lex.specs.declared.token.TokenKind.TheVariants as kind
use Rattle.mz_lex.specs.Bytes.{is_word_start, is_word_byte, starts}
use Rattle.mz_lex.specs.Lowered.{lowered}
use Rattle.mz_lex.specs.Quoted.{is_one_line}
use Rattle.mz_lex.specs.Spelling.{IsWord, IsNumber, IsToken}
use Rattle.mz_lex.proofs.QuotedLemmas.{unquoted-quoted}
use Rattle.mz_value.specs.Name.{begins_name, continues_name, is_name}
use Rattle.mz_statement.specs.Word.{reserved_words, is_reserved, IsName}
use Rattle.mz_grammar.specs.declared.key.Key.{Key}
use Rattle.mz_grammar.specs.declared.key.Key.TheVariants as k
use Rattle.mz_grammar.specs.declared.token.Tok.TheVariants as t
use Rattle.mz_grammar.specs.Token.{spelling, reserved_keys, is_key, key_among, word_tok, tok_of}
use Rattle.mz_print.specs.Piece.{Piece, Fixed, Word, Name, Number, Text, printed, stands_for}
use Rattle.mz_print.specs.declared.word.Unreserved.{Unreserved}
use Rattle.mz_print.specs.declared.word.Unreserved.TheVariants as word
use Rattle.mz_print.proofs.PieceFacts.{IsPiece}

-- what kind of token a key is
abbrev pub kind_of_key : Key → TokenKind
kind_of_key k.Open = kind.Sign
kind_of_key k.Close = kind.Sign
kind_of_key k.Comma = kind.Sign
kind_of_key k.Dot = kind.Sign
kind_of_key k.Star = kind.Sign
kind_of_key k.Equal = kind.Sign
kind_of_key k.Less = kind.Sign
kind_of_key k.Greater = kind.Sign
kind_of_key k.LessEqual = kind.Sign
kind_of_key k.GreaterEqual = kind.Sign
kind_of_key k.Unequal = kind.Sign
kind_of_key k.Minus = kind.Sign
kind_of_key k.Semicolon = kind.Sign
kind_of_key key = kind.Word

-- what kind of token a piece is
abbrev pub kind_of : Piece → TokenKind
kind_of (Fixed key) = kind_of_key key
kind_of (Word word) = kind.Word
kind_of (Name name) = kind.Word
kind_of (Number n) = kind.Number
kind_of (Text text) = kind.Quoted

-- ---- words

-- a word, by its tests
word_by : (bs : List ℕ) → starts is_word_start bs ≡ true → list_all is_word_byte bs ≡ true → nat_le (length bs) 63 ≡ true → IsWord bs
word_by bs start bytes short = record { start = start; bytes = bytes; short = leb-true _ 63 short }

-- a key is a token
key_spelled : (key : Key) → IsToken (kind_of_key key) (spelling key)
key_spelled k.Open = refl
key_spelled k.Close = refl
key_spelled k.Comma = refl
key_spelled k.Dot = refl
key_spelled k.Star = refl
key_spelled k.Equal = refl
key_spelled k.Less = refl
key_spelled k.Greater = refl
key_spelled k.LessEqual = refl
key_spelled k.GreaterEqual = refl
key_spelled k.Unequal = refl
key_spelled k.Minus = refl
key_spelled k.Semicolon = refl
key_spelled key = word_by _ refl refl refl

-- and so is a word that isn't reserved
word_spelled : (word : Unreserved) → IsWord (printed (Word word))
word_spelled word.Int = word_by _ refl refl refl
word_spelled word = word_by _ refl refl refl

-- a key stands for itself
key_tok : (key : Key) → tok_of (kind_of_key key) (spelling key) ≡ t.Key key
key_tok k.Select = refl
key_tok key = refl

-- a word that isn't reserved stands for its name
word_name : (word : Unreserved) → tok_of kind.Word (printed (Word word)) ≡ stands_for (Word word)
word_name word.Int = refl
word_name word = refl

-- ---- names

-- what begins a name begins a word
begins_word : (b : ℕ) → begins_name b ≡ true → is_word_start b ≡ true
begins_word b is = grind (arith, nat_tests)

-- what goes on with a name goes on with a word
continues_word : (b : ℕ) → continues_name b ≡ true → is_word_byte b ≡ true
continues_word b is = grind (arith, nat_tests)

-- what begins a name goes on with one
begins_continues : (b : ℕ) → begins_name b ≡ true → continues_name b ≡ true
begins_continues b is = rw is refl

-- a byte of names is small
byte_small : (b : ℕ) → continues_name b ≡ true → to_ascii_lowercase b ≡ b
byte_small b is = grind (arith, nat_tests)

-- bytes of names are bytes of words
all_words : (bs : List ℕ) → list_all continues_name bs ≡ true → list_all is_word_byte bs ≡ true
all_words [] all = refl
all_words (b ∷ bs) all = λ i. continues_word b (first_so _ _ all) i && all_words bs (second_so _ _ all) i

-- and small
all_small : (bs : List ℕ) → list_all continues_name bs ≡ true → lowered bs ≡ bs
all_small [] all = refl
all_small (b ∷ bs) all = λ i. byte_small b (first_so _ _ all) i ∷ all_small bs (second_so _ _ all) i

-- the bytes of a name, and how many
record NameParts (name : List ℕ) : Type 0 where
  pub start : starts is_word_start name ≡ true
  pub bytes : list_all continues_name name ≡ true
  pub short : nat_le (length name) 63 ≡ true

-- a name has these parts
name_parts : (name : List ℕ) → is_name name ≡ true → NameParts name
name_parts [] is = cc
name_parts (b ∷ bs) is =
    let front = first_so _ _ is in
    let first = first_so _ _ front in
    record {
      start = begins_word b first;
      bytes = let others : list_all continues_name bs ≡ true = second_so _ _ front in λ i. begins_continues b first i && others i;
      short = second_so _ _ is;
    }

-- one key more that the name is not
none_next : (key : Key) (keys : List Key) (name : List ℕ) (same : Bool)
    → lowered name ≡ name → bytes_eq name (lowered (spelling key)) ≡ same
    → (same || list_any (bytes_eq name) (map (λ other. lowered (spelling other)) keys)) ≡ false
    → (list_any (bytes_eq name) (map (λ other. lowered (spelling other)) keys) ≡ false → key_among keys name ≡ None)
    → key_among (key ∷ keys) name ≡ None
none_next key keys name true small is none later = cc
none_next key keys name false small is none later =
    let turned = nat_list_eq_equiv.symm (lowered (spelling key)) name in
    let other : is_key name key ≡ false = ap (bytes_eq (lowered (spelling key))) small ∙ turned ∙ is in
    rw other (later none)

-- no name is one of these keys
none_among : (keys : List Key) (name : List ℕ) → lowered name ≡ name
    → list_any (bytes_eq name) (map (λ key. lowered (spelling key)) keys) ≡ false → key_among keys name ≡ None
none_among [] name small none = refl
none_among (key ∷ keys) name small none = none_next key keys name _ small refl none (λ others. none_among keys name small others)

-- the reserved words are the keys that are words
same_words : map (λ key. lowered (spelling key)) reserved_keys ≡ reserved_words
same_words = refl

-- a name that is not reserved is no key
name_free : (name : List ℕ) → lowered name ≡ name → is_reserved name ≡ false → key_among reserved_keys name ≡ None
name_free name small free = none_among reserved_keys name small free

-- and so it stands for itself
name_tok : (name : List ℕ) → IsName name → tok_of kind.Word name ≡ t.Name name
name_tok name is =
    let small = all_small name (name_parts name is.name).bytes in
    ap (λ found. word_tok found name) (name_free name small is.free) ∙ ap t.Name small

-- ---- numbers

-- what has the value of a digit is one
digit_by : (b : ℕ) → digit_value b < 10 → is_ascii_digit b ≡ true
digit_by b small = let range = digit_from_value b small in grind (arith, nat_tests)

-- digits are digits
all_digits : (bs : List ℕ) → AllDigits 10 bs → list_all is_ascii_digit bs ≡ true
all_digits [] all = refl
all_digits (b ∷ bs) all = λ i. digit_by b all.0 i && all_digits bs all.1 i

-- a numeral is a number
number_by : (bs : List ℕ) → IsNumeral 10 bs → IsNumber bs
number_by [] numeral = let long = numeral.0 in absurd (omega arith)
number_by (b ∷ bs) numeral = record { start = digit_by b numeral.1.0; bytes = all_digits (b ∷ bs) numeral.1 }

-- ---- texts

-- a byte that is no LF
no_line : (b : ℕ) → b ≢ 10 → not (b == 10) ≡ true
no_line b is = grind (arith, nat_tests)

-- a text without LF is of one line
one_line : (text : List ℕ) → Each (λ byte. byte ≢ 10) text → is_one_line text ≡ true
one_line [] each = refl
one_line (b ∷ bs) each = λ i. no_line b each.0 i && one_line bs each.1 i

-- ---- pieces

-- a printed piece is a token of its kind
pub piece_token : (piece : Piece) → IsPiece piece → IsToken (kind_of piece) (printed piece)
piece_token (Fixed key) is = key_spelled key
piece_token (Word word) is = word_spelled word
piece_token (Name name) is = let parts = name_parts name is.name in word_by name parts.start (all_words name parts.bytes) parts.short
piece_token (Number n) is = number_by (decimal n) (decimal_is_IsNumeral n is).0
piece_token (Text text) is = (text, one_line text is, refl)

-- and stands for what the piece stands for
pub tok_again : (piece : Piece) → IsPiece piece → tok_of (kind_of piece) (printed piece) ≡ stands_for piece
tok_again (Fixed key) is = key_tok key
tok_again (Word word) is = word_name word
tok_again (Name name) is = name_tok name is
tok_again (Number n) is = ap t.Number (decimal_is_IsNumeral n is).1
tok_again (Text text) is = ap t.Text (unquoted-quoted text)
