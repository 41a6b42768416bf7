-- What is text, what is a name, and what digits are.
use Rattle.std.proofs.Common.{◌≡◌, ℕ, ◌+◌, ◌<◌, ◌^◌, Bool, true, false, ◌&&◌, eqb, List, [], ◌∷◌, Option, None, Some, get_or, length, drop, nat_le, ◌≤◌, ap, sym, refl, arith, one-add}
use Rattle.std.specs.Prelude.{SomeIff}
use Rattle.std.specs.Str.Parse.{digits_value}
use Rattle.std.specs.Cmp.{first_so, second_so}
use Rattle.std.specs.Str.{IsUtf8, is_utf8}
use Rattle.std.specs.Char.{is_ascii_digit, is_ascii_lowercase}
use Rattle.std.specs.List.{list_all, position}
use Rattle.std.proofs.lemmas.Str.{IsUtf8-from_is_utf8, is_utf8-from_IsUtf8, IsUtf8-drop, IsCharBoundary-after_ascii}
use Rattle.std.proofs.lemmas.List.Quantifiers.{position-Some}
use Rattle.std.proofs.lemmas.Bool.Decides.{nat_tests}
use Rattle.mz_value.specs.Name.{is_name}
use Rattle.mz_lex.specs.Spelling.{IsNumber}
use Rattle.mz_script.specs.Words.{are_digits, greatest_number, is_script_name, number_of}
use Rattle.mz_script.specs.Lines.{after_spaces}

-- ---- text

pub is_text : (bytes : List ℕ) → IsUtf8 bytes → true ≡ is_utf8 bytes
is_text bytes h = sym (is_utf8-from_IsUtf8 bytes h)

is_no_text-step : (bytes : List ℕ) (b : Bool) → is_utf8 bytes ≡ b → (IsUtf8 bytes → ⊥) → false ≡ b
is_no_text-step bytes true e h = absurd (h (IsUtf8-from_is_utf8 bytes e))
is_no_text-step bytes false e h = refl

pub is_no_text : (bytes : List ℕ) → (IsUtf8 bytes → ⊥) → false ≡ is_utf8 bytes
is_no_text bytes h = is_no_text-step bytes (is_utf8 bytes) refl h

-- behind an ASCII byte of a text, text goes on
behind_ascii : (text : List ℕ) (place : ℕ) → IsUtf8 text → place < length text → get_or text place 0 < 128 → IsUtf8 (drop (place + 1) text)
behind_ascii text place h within ascii = IsUtf8-drop text (place + 1) h (IsCharBoundary-after_ascii text place h within ascii)

behind_spaces-step : (b : ℕ) (bs : List ℕ) (t : Bool) → eqb b 32 ≡ t → IsUtf8 (b ∷ bs) → (IsUtf8 bs → IsUtf8 (after_spaces bs)) → IsUtf8 (after_spaces (b ∷ bs))
behind_spaces-step b bs true e h ih = rw (e, one-add) (ih (behind_ascii (b ∷ bs) 0 h (omega arith) (grind (arith, nat_tests))))
behind_spaces-step b bs false e h ih = rw e h

behind_spaces : (text : List ℕ) → IsUtf8 text → IsUtf8 (after_spaces text)
behind_spaces [] h = h
behind_spaces (b ∷ bs) h = behind_spaces-step b bs (eqb b 32) refl h (behind_spaces bs)

colon_ascii : (b : ℕ) → eqb b 58 ≡ true → b < 128
colon_ascii b h = grind (arith, nat_tests)

-- what stands behind the first colon of a text and the spaces after it is text
pub said_is_text : (text : List ℕ) (colon : ℕ) → is_utf8 text ≡ true → position (λ b. eqb b 58) text ≡ Some colon → is_utf8 (after_spaces (drop (colon + 1) text)) ≡ true
said_is_text text colon h at =
    let found = position-Some (λ b. eqb b 58) text colon 0 at in
    is_utf8-from_IsUtf8 _ (behind_spaces (drop (colon + 1) text)
    (behind_ascii text colon (IsUtf8-from_is_utf8 text h) found.0 (colon_ascii (get_or text colon 0) found.1)))

-- the first colon is within the text
pub colon_within : (text : List ℕ) (colon : ℕ) → position (λ b. eqb b 58) text ≡ Some colon → colon < length text
colon_within text colon at = (position-Some (λ b. eqb b 58) text colon 0 at).0

-- ---- names

second_of : (a b : Bool) → (a && b) ≡ true → b ≡ true
second_of true b h = h
second_of false true h = refl
second_of false false h = h

-- a name in a script is a name
pub script_name_is_name : (name : List ℕ) → is_script_name name ≡ true → is_name name ≡ true
script_name_is_name [] h = h
script_name_is_name (first ∷ rest) h = second_of (is_ascii_lowercase first) (is_name (first ∷ rest)) h

-- ---- numbers

-- the digits of a number are digits as SQL has them
pub digits_are_number : (word : List ℕ) → are_digits word ≡ true → IsNumber word
digits_are_number [] h = absurd cc
digits_are_number (b ∷ bs) h =
    let all : list_all is_ascii_digit (b ∷ bs) ≡ true = first_so _ _ (first_so _ _ (first_so _ _ h)) in
    record { start = first_so _ _ all; bytes = all }

past-step : (n : ℕ) (t : Bool) → nat_le n greatest_number ≡ t → (n < 2 ^ 63 → ⊥) → t ≡ false
past-step n true e h = let within : n ≤ greatest_number = grind (arith, nat_tests) in absurd (h (omega arith))
past-step n false e h = refl

within-step : (n : ℕ) (t : Bool) → nat_le n greatest_number ≡ t → n < 2 ^ 63 → t ≡ true
within-step n true e h = refl
within-step n false e h = let past : greatest_number < n = grind (arith, nat_tests) in absurd (omega arith)

-- digits of a number below this are a number in a script
pub number_is : (word : List ℕ) (number : Option ℕ) → are_digits word ≡ true → SomeIff number (digits_value 10 word < 2 ^ 63) (digits_value 10 word) → number ≡ number_of word
number_is word None digits h = rw (digits, past-step (digits_value 10 word) _ refl h) refl
number_is word (Some n) digits h = rw (digits, within-step (digits_value 10 word) _ refl h.0) (ap Some h.1)
