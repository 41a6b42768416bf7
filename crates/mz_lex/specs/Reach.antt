-- How far a quoted text reaches, byte for byte.
use Rattle.std.specs.Prelude.{ℕ, ◌+◌, List, [], ◌∷◌, ◌==◌, Option, Some, None, if◌then◌else◌}
use Rattle.std.specs.Option.{option_map}
use Rattle.mz_lex.specs.Bytes.{is_quote}

-- a length, with n bytes more before it
abbrev pub plus : ℕ → Option ℕ → Option ℕ
plus n len = option_map (λ k. n + k) len

-- behind an open quote: how many bytes there are up to and with the quote that ends the text
abbrev pub closing : List ℕ → Option ℕ
closing [] = None
closing (b ∷ []) = if is_quote b then Some 1 else None
closing (b ∷ c ∷ bs) =
    if is_quote b then (if is_quote c then plus 2 (closing bs) else Some 1)
    else (if b == 10 then None else plus 1 (closing (c ∷ bs)))

-- how long the quoted text at the front is, if one stands there
abbrev pub quoted_reach : List ℕ → Option ℕ
quoted_reach [] = None
quoted_reach (b ∷ bs) = if is_quote b then plus 1 (closing bs) else None
