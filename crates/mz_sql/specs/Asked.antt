-- What a text asks for, as a function. It is told by a reading of tokens from left to right, and nobody has to follow it: what it
-- gives is the one thing that the text asks for by the grammar (`IsAsked`), as the laws `each_text_asks` and `a_text_asks_once` say.
use Rattle.std.specs.Prelude.{ℕ, ◌-◌, List, length, take, Result, Ok, Err}
use Rattle.mz_lex.specs.declared.token.Token.{Token}
use Rattle.mz_statement.specs.declared.statement.Statement.{Statement}
use Rattle.mz_grammar.specs.declared.asked.Asked.{Asked}
use Rattle.mz_grammar.specs.declared.asked.Asked.TheVariants as asks
use Rattle.mz_grammar.specs.declared.token.Tok.{Tok}
use Rattle.mz_grammar.specs.Token.{toks_of}
use Rattle.mz_grammar.specs.Faults.{place_of, literal_start}
use Rattle.mz_parse.specs.declared.fault.Fault.{Fault}
use Rattle.mz_parse.specs.declared.fault.Fault.TheVariants.{Syntax, Range}
use Rattle.mz_parse.specs.Reading.{whole_at}
use Rattle.mz_sql.specs.Cutting.{Cut, cut_text}

-- what was read of the tokens of a text, or the fault, where so many of them are left, at its place
abbrev pub told : List ℕ → List Token → List Tok → Result Statement Fault → Asked
told text tokens toks (Ok statement) = asks.Statement statement
told text tokens toks (Err (Syntax left)) = asks.Syntax (place_of text tokens (length toks - left))
told text tokens toks (Err (Range left)) = asks.LiteralRange (place_of text tokens (literal_start (take (length toks - left) toks)))

-- a text that is cut is read, and any other has its fault where no token begins
abbrev pub asked_of : List ℕ → Cut → Asked
asked_of text (Ok tokens) = told text tokens (toks_of text tokens) (whole_at (toks_of text tokens))
asked_of text (Err at) = asks.Syntax at

-- what the text asks for
unfoldable pub asked : List ℕ → Asked
asked text = asked_of text (cut_text text)
