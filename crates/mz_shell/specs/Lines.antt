-- The bytes of a script, cut into lines.
use Rattle.std.specs.Prelude.{ℕ, ◌==◌, List, [], ◌∷◌, if◌then◌else◌}

-- the lines with one byte more at the front of the first
abbrev pub onto_first : ℕ → List (List ℕ) → List (List ℕ)
onto_first byte [] = (byte ∷ []) ∷ []
onto_first byte (line ∷ lines) = (byte ∷ line) ∷ lines

-- the lines, without their ends: each ends with LF, and bytes after the last LF are a line where there are any
abbrev pub lines_of : List ℕ → List (List ℕ)
lines_of [] = []
lines_of (byte ∷ bytes) = if byte == 10 then [] ∷ lines_of bytes else onto_first byte (lines_of bytes)

-- the bytes with one more at the front, where there are any
abbrev pub onto_some : ℕ → List ℕ → List ℕ
onto_some byte [] = []
onto_some byte (next ∷ bytes) = byte ∷ next ∷ bytes

-- the whole lines: the bytes up to the last LF, and with it
abbrev pub whole_lines : List ℕ → List ℕ
whole_lines [] = []
whole_lines (byte ∷ bytes) = if byte == 10 then byte ∷ whole_lines bytes else onto_some byte (whole_lines bytes)
