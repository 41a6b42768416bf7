-- Words without capitals.
use Rattle.std.specs.Prelude.{ℕ, Bool, List, map, not}
use Rattle.std.specs.Char.{is_ascii_uppercase, to_ascii_lowercase}
use Rattle.std.specs.List.{list_all}

-- the bytes with their letters of ASCII made small
abbrev pub lowered : List ℕ → List ℕ
lowered bs = map to_ascii_lowercase bs

-- there is no capital of ASCII
abbrev pub is_small : List ℕ → Bool
is_small bs = list_all (λ b. not (is_ascii_uppercase b)) bs
