-- What a name is.
use Rattle.std.specs.Prelude.{ℕ, Bool, false, ◌||◌, ◌&&◌, ◌==◌, List, [], ◌∷◌, length, nat_le}
use Rattle.std.specs.List.{list_all}
use Rattle.std.specs.Char.{is_ascii_lowercase, is_ascii_digit}

-- a name begins with a lowercase ASCII letter or `_`
abbrev pub begins_name : ℕ → Bool
begins_name byte = is_ascii_lowercase byte || byte == 95

-- and goes on with these and with digits
abbrev pub continues_name : ℕ → Bool
continues_name byte = begins_name byte || is_ascii_digit byte

-- the most bytes that a name has
abbrev pub longest_name : ℕ
longest_name = 63

-- the bytes are a name: they begin and go on as names do, and are not more than the longest has
abbrev pub is_name : List ℕ → Bool
is_name [] = false
is_name (first ∷ rest) =
    begins_name first && list_all continues_name rest && nat_le (length (first ∷ rest)) longest_name
