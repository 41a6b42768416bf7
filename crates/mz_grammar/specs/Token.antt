-- What the tokens of a text stand for.
use Rattle.std.specs.Prelude.{ℕ, Bool, List, [], ◌∷◌, codes, bytes_eq, map, Option, Some, None, if◌then◌else◌, ◌==◌}
use Rattle.std.specs.List.{slice_range}
use Rattle.std.specs.Str.Parse.{digits_value}
use denote.Enum.Bare.{sameb}
use Rattle.mz_lex.specs.declared.token.Token.{Token}
use Rattle.mz_lex.specs.declared.token.TokenKind.{TokenKind}
use Rattle.mz_lex.specs.declared.token.TokenKind.TheVariants.{Word, Number, Quoted, Sign}
use Rattle.mz_lex.specs.Lowered.{lowered}
use Rattle.mz_lex.specs.Quoted.{unquoted}
use Rattle.mz_grammar.specs.contracts.key.Key.{the_type}
use Rattle.mz_grammar.specs.declared.key.Key.{Key}
use Rattle.mz_grammar.specs.declared.key.Key.TheVariants as k
use Rattle.mz_grammar.specs.declared.token.Tok.{Tok}
use Rattle.mz_grammar.specs.declared.token.Tok.TheVariants as t

-- how a key is written
abbrev pub spelling : Key → List ℕ
spelling k.Select = codes "SELECT"
spelling k.Distinct = codes "DISTINCT"
spelling k.From = codes "FROM"
spelling k.Join = codes "JOIN"
spelling k.On = codes "ON"
spelling k.Where = codes "WHERE"
spelling k.Group = codes "GROUP"
spelling k.By = codes "BY"
spelling k.Union = codes "UNION"
spelling k.All = codes "ALL"
spelling k.As = codes "AS"
spelling k.Of = codes "OF"
spelling k.And = codes "AND"
spelling k.Or = codes "OR"
spelling k.Not = codes "NOT"
spelling k.True = codes "TRUE"
spelling k.False = codes "FALSE"
spelling k.Create = codes "CREATE"
spelling k.Table = codes "TABLE"
spelling k.View = codes "VIEW"
spelling k.Index = codes "INDEX"
spelling k.Drop = codes "DROP"
spelling k.Insert = codes "INSERT"
spelling k.Into = codes "INTO"
spelling k.Values = codes "VALUES"
spelling k.Delete = codes "DELETE"
spelling k.Begin = codes "BEGIN"
spelling k.Commit = codes "COMMIT"
spelling k.Retain = codes "RETAIN"
spelling k.Show = codes "SHOW"
spelling k.Open = codes "("
spelling k.Close = codes ")"
spelling k.Comma = codes ","
spelling k.Dot = codes "."
spelling k.Star = codes "*"
spelling k.Equal = codes "="
spelling k.Less = codes "<"
spelling k.Greater = codes ">"
spelling k.LessEqual = codes "<="
spelling k.GreaterEqual = codes ">="
spelling k.Unequal = codes "<>"
spelling k.Minus = codes "-"
spelling k.Semicolon = codes ";"

-- the reserved words
abbrev pub reserved_keys : List Key
reserved_keys =
    k.Select ∷ k.Distinct ∷ k.From ∷ k.Join ∷ k.On ∷ k.Where ∷ k.Group ∷ k.By ∷ k.Union ∷ k.All ∷ k.As ∷
    k.Of ∷ k.And ∷ k.Or ∷ k.Not ∷ k.True ∷ k.False ∷ k.Create ∷ k.Table ∷ k.View ∷ k.Index ∷ k.Drop ∷
    k.Insert ∷ k.Into ∷ k.Values ∷ k.Delete ∷ k.Begin ∷ k.Commit ∷ k.Retain ∷ k.Show ∷ []

-- whether the word is this key, however its letters are written
abbrev pub is_key : List ℕ → Key → Bool
is_key word key = bytes_eq (lowered (spelling key)) (lowered word)

-- the first of the keys that the word is
abbrev pub key_among : List Key → List ℕ → Option Key
key_among [] word = None
key_among (key ∷ keys) word = if is_key word key then Some key else key_among keys word

-- a reserved word is a key, and any other word a name
abbrev pub word_tok : Option Key → List ℕ → Tok
word_tok (Some key) word = t.Key key
word_tok None word = t.Name (lowered word)

-- the sign of one byte, or of two
abbrev pub sign_key : List ℕ → Key
sign_key (b ∷ []) =
    if b == 40 then k.Open else if b == 41 then k.Close else if b == 44 then k.Comma else if b == 46 then k.Dot
    else if b == 42 then k.Star else if b == 61 then k.Equal else if b == 60 then k.Less
    else if b == 62 then k.Greater else if b == 45 then k.Minus else k.Semicolon
sign_key (b ∷ c ∷ bs) = if b == 62 then k.GreaterEqual else if c == 61 then k.LessEqual else k.Unequal
sign_key [] = k.Semicolon

-- what bytes of this kind stand for
abbrev pub tok_of : TokenKind → List ℕ → Tok
tok_of Word bytes = word_tok (key_among reserved_keys bytes) bytes
tok_of Number bytes = t.Number (digits_value 10 bytes)
tok_of Quoted bytes = t.Text (unquoted bytes)
tok_of Sign bytes = t.Key (sign_key bytes)

-- what the tokens of a text stand for
abbrev pub toks_of : List ℕ → List Token → List Tok
toks_of text tokens = map (λ token. tok_of token.kind (slice_range text token.start token.end)) tokens

-- whether two keys are one
abbrev pub same : Key → Key → Bool
same = sameb the_type

-- what stands behind the key, where it stands first
abbrev pub next : Key → List Tok → Option (List Tok)
next key [] = None
next key (t.Key first ∷ ts) = if same first key then Some ts else None
next key (tok ∷ ts) = None
