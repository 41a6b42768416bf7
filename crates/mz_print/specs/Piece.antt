-- Pieces of a printed statement, and the text that they make.
use Rattle.std.specs.Prelude.{ℕ, Bool, true, false, not, ◌||◌, List, [], ◌∷◌, ◌++◌, codes, if◌then◌else◌}
use Rattle.std.specs.Fmt.{decimal}
use Rattle.mz_lex.specs.Quoted.{quoted}
use Rattle.mz_grammar.specs.declared.key.Key.{Key}
use Rattle.mz_grammar.specs.declared.key.Key.TheVariants as k
use Rattle.mz_grammar.specs.declared.token.Tok.{Tok}
use Rattle.mz_grammar.specs.declared.token.Tok.TheVariants as t
use Rattle.mz_grammar.specs.Token.{spelling}
use Rattle.mz_print.specs.declared.word.Edge.{Edge}
use Rattle.mz_print.specs.declared.word.Edge.TheVariants.{Tight, Call, Loose}
use Rattle.mz_print.specs.declared.word.Unreserved.{Unreserved}
use Rattle.mz_print.specs.declared.word.Unreserved.TheVariants as word

-- a token as it is printed: a reserved word or a sign, a word that the grammar names without reserving
-- it, a name, a number without its sign, or a text
pub data Piece : Type 0 where
  Fixed : Key → Piece
  Word : Unreserved → Piece
  Name : List ℕ → Piece
  Number : ℕ → Piece
  Text : List ℕ → Piece

-- how such a word is printed
abbrev pub capitals : Unreserved → List ℕ
capitals word.Int = codes "INT"
capitals word.Text = codes "TEXT"
capitals word.Bool = codes "BOOL"
capitals word.Wide = codes "WIDE"
capitals word.Lag = codes "LAG"
capitals word.Stay = codes "STAY"
capitals word.Frontiers = codes "FRONTIERS"
capitals word.Set = codes "SET"
capitals word.Isolation = codes "ISOLATION"
capitals word.Strict = codes "STRICT"
capitals word.Session = codes "SESSION"
capitals word.Cluster = codes "CLUSTER"
capitals word.Count = codes "COUNT"
capitals word.Sum = codes "SUM"
capitals word.Min = codes "MIN"
capitals word.Max = codes "MAX"

-- the name that it is to the grammar
abbrev pub small : Unreserved → List ℕ
small word.Int = codes "int"
small word.Text = codes "text"
small word.Bool = codes "bool"
small word.Wide = codes "wide"
small word.Lag = codes "lag"
small word.Stay = codes "stay"
small word.Frontiers = codes "frontiers"
small word.Set = codes "set"
small word.Isolation = codes "isolation"
small word.Strict = codes "strict"
small word.Session = codes "session"
small word.Cluster = codes "cluster"
small word.Count = codes "count"
small word.Sum = codes "sum"
small word.Min = codes "min"
small word.Max = codes "max"

-- the word stands before a parenthesis, with what it counts or adds up inside
abbrev pub is_call : Unreserved → Bool
is_call word.Count = true
is_call word.Sum = true
is_call word.Min = true
is_call word.Max = true
is_call other = false

-- the bytes of a piece: reserved and other words of the grammar in capitals, names as they are,
-- numbers in decimal without leading zeros, texts in single quotes with each quote inside doubled
abbrev pub printed : Piece → List ℕ
printed (Fixed key) = spelling key
printed (Word word) = capitals word
printed (Name name) = name
printed (Number n) = decimal n
printed (Text text) = quoted text

-- the token that the grammar sees there
abbrev pub stands_for : Piece → Tok
stands_for (Fixed key) = t.Key key
stands_for (Word word) = t.Name (small word)
stands_for (Name name) = t.Name name
stands_for (Number n) = t.Number n
stands_for (Text text) = t.Text text

-- behind an opening parenthesis, a point and a minus stands no space
abbrev pub edge : Piece → Edge
edge (Fixed k.Open) = Tight
edge (Fixed k.Dot) = Tight
edge (Fixed k.Minus) = Tight
edge (Word word) = if is_call word then Call else Loose
edge piece = Loose

-- nor does one before a closing parenthesis, a comma and a point
abbrev pub hugs : Piece → Bool
hugs (Fixed k.Close) = true
hugs (Fixed k.Comma) = true
hugs (Fixed k.Dot) = true
hugs piece = false

-- the piece is an opening parenthesis
abbrev pub opens : Piece → Bool
opens (Fixed k.Open) = true
opens piece = false

-- one space stands before the piece, behind such an edge
abbrev pub is_spaced : Edge → Piece → Bool
is_spaced Tight piece = false
is_spaced Call piece = not (hugs piece || opens piece)
is_spaced Loose piece = not (hugs piece)

-- the space, or none
abbrev pub space : Bool → List ℕ
space is_there = if is_there then 32 ∷ [] else []

-- the text of pieces, behind such an edge
abbrev pub text_from : Edge → List Piece → List ℕ
text_from before [] = []
text_from before (piece ∷ pieces) = space (is_spaced before piece) ++ (printed piece ++ text_from (edge piece) pieces)

-- the text of pieces
abbrev pub text_of : List Piece → List ℕ
text_of pieces = text_from Tight pieces
