-- A text and its tokens.
use Rattle.std.specs.Prelude.{◌≡◌, ℕ, ◌+◌, ◌<◌, ◌≤◌, List, [], ◌∷◌, ◌++◌, length, IsTrue}
use Rattle.std.specs.List.{list_all, slice_range}
use Rattle.mz_lex.specs.declared.token.Token.{Token}
use Rattle.mz_lex.specs.Bytes.{is_blank}
use Rattle.mz_lex.specs.Spelling.{IsToken, Begins}

-- bs is a gap of blanks, and then rest
abbrev pub HasGap : List ℕ → List ℕ → Type 0
HasGap bs rest = (gap : List ℕ) × IsTrue (list_all is_blank gap) × (bs ≡ gap ++ rest)

-- bs, from place `at` on, is a gap of blanks, the token t, and then rest
pub record IsNext (at : ℕ) (bs : List ℕ) (t : Token) (rest : List ℕ) : Type 0 where
  pub gap : List ℕ
  pub front : List ℕ
  pub parts : bs ≡ gap ++ (front ++ rest)
  pub blank : IsTrue (list_all is_blank gap)
  pub token : Begins t.kind front rest
  pub start : t.start ≡ at + length gap
  pub end : t.end ≡ t.start + length front

-- bs, from place `at` on, is these tokens, with blanks before each and behind the last, and then rest
abbrev pub AreTokens : ℕ → List ℕ → List Token → List ℕ → Type 0
AreTokens at bs [] rest = HasGap bs rest
AreTokens at bs (t ∷ ts) rest =
    (after : List ℕ) × IsNext at bs t after × AreTokens t.end after ts rest

-- the tokens of a text, all of it
abbrev pub IsCutInto : List ℕ → List Token → Type 0
IsCutInto text ts = AreTokens 0 text ts []

-- the span of t lies in the text, and the bytes there spell t
pub record IsSpan (text : List ℕ) (t : Token) : Type 0 where
  pub some : t.start < t.end
  pub within : t.end ≤ length text
  pub spelled : IsToken t.kind (slice_range text t.start t.end)

-- each token has a byte at least, and ends before the next starts; none starts before place `at`
abbrev pub AreInOrder : ℕ → List Token → Type 0
AreInOrder at [] = Unit {0}
AreInOrder at (t ∷ ts) = (at ≤ t.start) × (t.start < t.end) × AreInOrder t.end ts
