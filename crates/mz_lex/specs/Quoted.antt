-- Texts between single quotes.
use Rattle.std.specs.Prelude.{◌≡◌, ℕ, ◌-◌, Bool, List, [], ◌∷◌, ◌++◌, length, ◌==◌, ◌&&◌, if◌then◌else◌, IsTrue, not}
use Rattle.std.specs.List.{flat_map, list_all, slice_range}
use Rattle.mz_lex.specs.Bytes.{is_quote}

-- a quote is written twice, any other byte once
abbrev pub doubled : ℕ → List ℕ
doubled b = if is_quote b then b ∷ b ∷ [] else b ∷ []

-- the text between single quotes, with each quote inside doubled
abbrev pub quoted : List ℕ → List ℕ
quoted text = 39 ∷ (flat_map doubled text ++ 39 ∷ [])

-- there is no LF in it
abbrev pub is_one_line : List ℕ → Bool
is_one_line text = list_all (λ b. not (b == 10)) text

-- a text without LF, between quotes
abbrev pub IsQuoted : List ℕ → Type 0
IsQuoted bs = (text : List ℕ) × IsTrue (is_one_line text) × (bs ≡ quoted text)

-- two quotes side by side are one
abbrev pub singled : List ℕ → List ℕ
singled [] = []
singled (b ∷ []) = b ∷ []
singled (b ∷ c ∷ bs) = if is_quote b && is_quote c then b ∷ singled bs else b ∷ singled (c ∷ bs)

-- what stands between the first and the last byte, each pair of quotes made one
abbrev pub unquoted : List ℕ → List ℕ
unquoted bs = singled (slice_range bs 1 (length bs - 1))
