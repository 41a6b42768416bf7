-- What a writer comes to, with pieces behind what it has written.
use Rattle.std.specs.Prelude.{ℕ, List, ◌++◌, string_bytes}
use Rattle.mz_print.specs.declared.writer.Writer.{Writer}
use Rattle.mz_print.specs.Piece.{Piece, text_from}

-- the text so far, and then the pieces
unfoldable pub written : Writer → List Piece → List ℕ
written writer pieces = string_bytes writer.text ++ text_from writer.edge pieces
