-- Kinds of bytes, and what some bytes start with.
use Rattle.std.specs.Prelude.{ℕ, Bool, false, List, [], ◌∷◌, ◌==◌, ◌||◌}
use Rattle.std.specs.Char.{is_ascii_alphabetic, is_ascii_digit}

-- a space or a tab
abbrev pub is_blank : ℕ → Bool
is_blank b = b == 32 || b == 9

-- a letter or an underscore
abbrev pub is_word_start : ℕ → Bool
is_word_start b = is_ascii_alphabetic b || b == 95

-- a letter, an underscore or a digit
abbrev pub is_word_byte : ℕ → Bool
is_word_byte b = is_word_start b || is_ascii_digit b

-- a single quote
abbrev pub is_quote : ℕ → Bool
is_quote b = b == 39

-- whether there is a first byte and it passes the test
abbrev pub starts : (ℕ → Bool) → List ℕ → Bool
starts p [] = false
starts p (b ∷ bs) = p b
