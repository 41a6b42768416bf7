-- Values that the grammar can spell.
use Rattle.std.specs.Prelude.{ℕ, ◌≢◌, ◌≤◌, ◌<◌, List, length, ℤ, pos, negsuc}
use Rattle.std.specs.List.{AllByRecursion as Each}
use Rattle.mz_value.specs.declared.datum.Datum.{Datum}
use Rattle.mz_value.specs.declared.datum.Datum.TheVariants.{Int, Text, Bool, Wide}

-- the most bytes that a text has
abbrev pub longest_text : ℕ
longest_text = 1024

-- a text is of one line, and no longer than may be
pub record IsText (text : List ℕ) : Type 0 where
  pub short : length text ≤ longest_text
  pub line : Each (λ byte. byte ≢ 10) text

-- the greatest number of 32 bits with their sign
abbrev pub greatest_int : ℕ
greatest_int = 2147483647

-- a number of 32 bits with its sign: up to the greatest, and down to one less than its negative
abbrev pub IsInt : ℤ → Type 0
IsInt (pos n) = n ≤ greatest_int
IsInt (negsuc n) = n ≤ greatest_int

-- an INT, a TEXT or a BOOL
abbrev pub IsLiteral : Datum → Type 0
IsLiteral (Int number) = IsInt number
IsLiteral (Text text) = IsText text
IsLiteral (Bool truth) = Unit {0}
IsLiteral (Wide number) = ⊥

-- a row that is put in has a value at least
pub record IsTuple (row : List Datum) : Type 0 where
  pub literals : Each IsLiteral row
  pub some : 0 < length row
