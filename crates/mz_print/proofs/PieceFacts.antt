-- Which pieces are read again as what they stand for.
use Rattle.std.specs.Prelude.{◌<◌, ◌^◌, ◌≢◌}
use Rattle.std.specs.List.{AllByRecursion as Each}
use Rattle.mz_statement.specs.Word.{IsName}
use Rattle.mz_print.specs.Piece.{Piece, Fixed, Word, Name, Number, Text}

-- a name is one of a statement, a number is below 2^64, and a text is of one line
abbrev pub IsPiece : Piece → Type 0
IsPiece (Fixed key) = Unit {0}
IsPiece (Word word) = Unit {0}
IsPiece (Name name) = IsName name
IsPiece (Number n) = n < 2 ^ 64
IsPiece (Text text) = Each (λ byte. byte ≢ 10) text
