-- A name is ASCII, so it is text.
use Rattle.std.proofs.Common.{◌≡◌, ℕ, suc, zero, ◌<◌, true, List, [], ◌∷◌, length, nat_le, arith, lit<}
use Rattle.std.specs.List.{list_all}
use Rattle.std.specs.Cmp.{first_so, second_so}
use Rattle.std.specs.Str.{IsUtf8, IsAscii}
use Rattle.std.proofs.lemmas.Str.{IsUtf8-from_ascii}
use Rattle.std.proofs.lemmas.Bool.Decides.{nat_tests}
use Rattle.mz_value.specs.Name.{begins_name, continues_name, longest_name, is_name}

-- what a name begins with is ASCII
begins_ascii : (b : ℕ) → begins_name b ≡ true → b < 128
begins_ascii b h = grind (arith, nat_tests)

-- and what it goes on with
continues_ascii : (b : ℕ) → continues_name b ≡ true → b < 128
continues_ascii b h = grind (arith, nat_tests)

-- a list of such bytes is ASCII
all_ascii : (bs : List ℕ) → list_all continues_name bs ≡ true → IsAscii bs
all_ascii [] h i = lit< tt
all_ascii (b ∷ bs) h zero = continues_ascii b (first_so _ _ h)
all_ascii (b ∷ bs) h (suc i) = all_ascii bs (second_so _ _ h) i

-- so a name is ASCII
name_ascii : (bs : List ℕ) → is_name bs ≡ true → IsAscii bs
name_ascii [] h i = lit< tt
name_ascii (b ∷ bs) h zero = begins_ascii b (first_so (begins_name b) _ (first_so _ (nat_le (length (b ∷ bs)) longest_name) h))
name_ascii (b ∷ bs) h (suc i) = all_ascii bs (second_so (begins_name b) _ (first_so _ (nat_le (length (b ∷ bs)) longest_name) h)) i

-- a name is text
pub name_utf8 : (bs : List ℕ) → is_name bs ≡ true → IsUtf8 bs
name_utf8 bs h = IsUtf8-from_ascii bs (name_ascii bs h)
