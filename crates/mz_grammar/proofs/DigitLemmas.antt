-- Digits are text, and a numeral of base ten.
use Rattle.std.proofs.Common.{◌≡◌, ℕ, suc, zero, ◌<◌, ◌==◌, true, false, List, [], ◌∷◌, refl, arith, lit<}
use Rattle.std.specs.Char.{is_ascii_digit, digit_value}
use Rattle.std.specs.List.{list_all}
use Rattle.std.specs.Cmp.{first_so, second_so}
use Rattle.std.specs.Str.{IsUtf8, IsAscii}
use Rattle.std.specs.Str.Parse.{AllDigits, IsNumeral, without_leading_plus}
use Rattle.std.proofs.lemmas.Str.{IsUtf8-from_ascii}
use Rattle.std.proofs.lemmas.Bool.Decides.{nat_tests}
use Rattle.mz_lex.specs.Spelling.{IsNumber}

digit_ascii : (b : ℕ) → is_ascii_digit b ≡ true → b < 128
digit_ascii b h = grind (arith, nat_tests)

digits_ascii : (bs : List ℕ) → list_all is_ascii_digit bs ≡ true → IsAscii bs
digits_ascii [] h i = lit< tt
digits_ascii (b ∷ bs) h zero = digit_ascii b (first_so _ _ h)
digits_ascii (b ∷ bs) h (suc i) = digits_ascii bs (second_so _ _ h) i

-- digits are text
pub digits_utf8 : (bs : List ℕ) → IsNumber bs → IsUtf8 bs
digits_utf8 bs number = IsUtf8-from_ascii bs (digits_ascii bs number.bytes)

digit_below : (b : ℕ) → is_ascii_digit b ≡ true → digit_value b < 10
digit_below b h = grind (arith, nat_tests)

all_digits : (bs : List ℕ) → list_all is_ascii_digit bs ≡ true → AllDigits 10 bs
all_digits [] h = tt
all_digits (b ∷ bs) h = (digit_below b (first_so _ _ h), all_digits bs (second_so _ _ h))

-- digits are a numeral
pub digits_numeral : (bs : List ℕ) → IsNumber bs → IsNumeral 10 bs
digits_numeral [] number = let never = number.start in absurd cc
digits_numeral (b ∷ bs) number = (omega arith, all_digits (b ∷ bs) number.bytes)

no_plus : (b : ℕ) → is_ascii_digit b ≡ true → (b == 43) ≡ false
no_plus b h = grind (arith, nat_tests)

-- no plus stands before them
pub digits_plain : (bs : List ℕ) → IsNumber bs → without_leading_plus bs ≡ bs
digits_plain [] number = let never = number.start in absurd cc
digits_plain (b ∷ bs) number = rw (no_plus b number.start) refl
