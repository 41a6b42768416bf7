-- The words of a line, and the names and numbers among them.
use Rattle.std.specs.Prelude.{ℕ, ◌==◌, ◌&&◌, ◌||◌, List, [], ◌∷◌, Bool, true, false, Option, None, Some, codes, filter, length, nat_eq, nat_le, not, if◌then◌else◌}
use Rattle.std.specs.Char.{is_ascii_digit, is_ascii_lowercase}
use Rattle.std.specs.List.{ends_with, list_all, starts_with}
use Rattle.std.specs.Str.Parse.{digits_value}
use Rattle.mz_value.specs.Name.{is_name}

-- ---- words

-- the pieces with one byte more at the front of the first
abbrev pub onto_first : ℕ → List (List ℕ) → List (List ℕ)
onto_first byte [] = (byte ∷ []) ∷ []
onto_first byte (piece ∷ pieces) = (byte ∷ piece) ∷ pieces

-- what stands before, between and behind the spaces of a text: nothing between two that stand side by side
abbrev pub pieces_of : List ℕ → List (List ℕ)
pieces_of [] = [] ∷ []
pieces_of (byte ∷ bytes) = if byte == 32 then [] ∷ pieces_of bytes else onto_first byte (pieces_of bytes)

-- a piece is a word where it has a byte
abbrev pub is_word : List ℕ → Bool
is_word [] = false
is_word (byte ∷ bytes) = true

-- the words of a text, which one or more spaces separate
abbrev pub words_of : List ℕ → List (List ℕ)
words_of text = filter is_word (pieces_of text)

-- a space stands at an end of the text
abbrev pub has_space_at_end : List ℕ → Bool
has_space_at_end text = starts_with nat_eq text (codes " ") || ends_with nat_eq text (codes " ")

-- ---- names and numbers

-- a name in a script is a name that begins with a letter
abbrev pub is_script_name : List ℕ → Bool
is_script_name [] = false
is_script_name (first ∷ rest) = is_ascii_lowercase first && is_name (first ∷ rest)

-- the most digits that a number has
abbrev pub most_digits : ℕ
most_digits = 20

-- the greatest number in a script
abbrev pub greatest_number : ℕ
greatest_number = 9223372036854775807

-- a zero leads other digits
abbrev pub has_leading_zero : List ℕ → Bool
has_leading_zero [] = false
has_leading_zero (digit ∷ []) = false
has_leading_zero (digit ∷ next ∷ digits) = digit == 48

-- these are the digits of a number: at least one and not too many, and no zero leads them
abbrev pub are_digits : List ℕ → Bool
are_digits word =
    list_all is_ascii_digit word && nat_le 1 (length word) && nat_le (length word) most_digits && not (has_leading_zero word)

-- the number that a word is, if it is one
abbrev pub number_of : List ℕ → Option ℕ
number_of word =
    if are_digits word && nat_le (digits_value 10 word) greatest_number then Some (digits_value 10 word) else None
