-- The fault of a text that spells no statement: where it is, and which.
use Rattle.std.specs.Prelude.{◌≡◌, ℕ, zero, suc, ◌-◌, Bool, true, false, List, [], ◌∷◌, ◌++◌, length, if◌then◌else◌, ◌⊎◌}
use Rattle.mz_lex.specs.declared.token.Token.{Token}
use Rattle.mz_lex.specs.Cut.{IsCutInto}
use Rattle.mz_lex.specs.Fault.{IsFirstFault}
use Rattle.mz_statement.specs.declared.statement.Statement.{Statement}
use Rattle.mz_grammar.specs.declared.key.Key.TheVariants as k
use Rattle.mz_grammar.specs.declared.token.Tok.{Tok}
use Rattle.mz_grammar.specs.declared.token.Tok.TheVariants.{Key as K, Number, Text as T}
use Rattle.mz_grammar.specs.Token.{toks_of}
use Rattle.mz_grammar.specs.Grammar.{Spells}
use Rattle.mz_grammar.specs.declared.fault.ParseFault.{ParseFault}
use Rattle.mz_grammar.specs.declared.fault.ParseFault.TheVariants.{Syntax, LiteralRange, Memory}

-- some tokens behind the front make it a statement
abbrev pub Viable : List Tok → Type 0
Viable front = (statement : Statement) × (more : List Tok) × Spells (front ++ more) statement

-- the tokens are one, or both are numbers, or both are texts
abbrev pub IsLike : Tok → Tok → Type 0
IsLike (Number n) (Number m) = Unit {0}
IsLike (T text) (T other) = Unit {0}
IsLike tok other = tok ≡ other

-- the tokens are no statement. Their front can be made one, and behind it nothing can that begins as the rest does, whatever its
-- numbers and texts are
pub record IsStuck (ts front rest : List Tok) : Type 0 where
  pub none : (statement : Statement) → Spells ts statement → ⊥
  pub parts : ts ≡ front ++ rest
  pub before : Viable front
  pub here : (tok : Tok) (more : List Tok) → rest ≡ tok ∷ more → (other : Tok) → IsLike tok other → Viable (front ++ other ∷ []) → ⊥

-- the front can be made a statement, but not with the literal behind it, though it can with another one like it
pub record IsOutOfRange (ts front : List Tok) (literal : Tok) (rest : List Tok) : Type 0 where
  pub parts : ts ≡ front ++ literal ∷ rest
  pub before : Viable front
  pub here : Viable (front ++ literal ∷ []) → ⊥
  pub another : (other : Tok) × IsLike literal other × Viable (front ++ other ∷ [])

-- the start of the token that has so many before it, or the text's length where there is none
abbrev pub place_of : List ℕ → List Token → ℕ → ℕ
place_of text [] n = length text
place_of text (token ∷ tokens) zero = token.start
place_of text (token ∷ tokens) (suc n) = place_of text tokens n

-- whether the token is a minus
abbrev pub is_minus : Tok → Bool
is_minus (K k.Minus) = true
is_minus tok = false

-- whether the last of the tokens is a minus
abbrev pub ends_in_minus : List Tok → Bool
ends_in_minus [] = false
ends_in_minus (tok ∷ []) = is_minus tok
ends_in_minus (tok ∷ next ∷ more) = ends_in_minus (next ∷ more)

-- how many tokens stand before a literal whose number or text has this front: a minus right before it is its own
abbrev pub literal_start : List Tok → ℕ
literal_start front = if ends_in_minus front then length front - 1 else length front

-- at this place the tokens of the text can't go on, or end too early
abbrev pub IsSyntaxAt : List ℕ → ℕ → Type 0
IsSyntaxAt text at = (tokens : List Token) × (front rest : List Tok)
    × IsCutInto text tokens × IsStuck (toks_of text tokens) front rest × (at ≡ place_of text tokens (length front))

-- at this place a literal stands that is out of its range
abbrev pub IsRangeAt : List ℕ → ℕ → Type 0
IsRangeAt text at = (tokens : List Token) × (front : List Tok) × (literal : Tok) × (rest : List Tok)
    × IsCutInto text tokens × IsOutOfRange (toks_of text tokens) front literal rest × (at ≡ place_of text tokens (literal_start front))

-- the fault is the text's: want of memory has no cause, and no token may begin at the place of a syntax fault either
abbrev pub IsParseFault : List ℕ → ParseFault → Type 0
IsParseFault text Memory = Unit {0}
IsParseFault text (Syntax at) = IsFirstFault text at ⊎ IsSyntaxAt text at
IsParseFault text (LiteralRange at) = IsRangeAt text at
