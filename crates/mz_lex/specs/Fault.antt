-- The first place of a text where no token begins.
use Rattle.std.specs.Prelude.{◌≡◌, ℕ, ◌+◌, ◌<◌, false, List, length}
use Rattle.mz_lex.specs.declared.token.Token.{Token}
use Rattle.mz_lex.specs.declared.token.TokenKind.{TokenKind}
use Rattle.mz_lex.specs.declared.fault.LexFault.{LexFault}
use Rattle.mz_lex.specs.declared.fault.LexFault.TheVariants.{Bad, Memory}
use Rattle.mz_lex.specs.Bytes.{is_blank, starts}
use Rattle.mz_lex.specs.Cut.{AreTokens}
use Rattle.mz_lex.specs.Spelling.{BeginsNo}

-- neither a blank nor a token stands at the front
pub record IsStuck (bs : List ℕ) : Type 0 where
  pub no_blank : starts is_blank bs ≡ false
  pub no_token : (kind : TokenKind) → BeginsNo kind bs

-- what precedes the place is tokens, and at the place, which lies in the text, no token begins
pub record IsFirstFault (text : List ℕ) (at : ℕ) : Type 0 where
  pub tokens : List Token
  pub rest : List ℕ
  pub before : AreTokens 0 text tokens rest
  pub here : IsStuck rest
  pub place : at + length rest ≡ length text
  pub within : at < length text

-- the fault is the text's first; want of memory has no cause
abbrev pub IsFault : List ℕ → LexFault → Type 0
IsFault text (Bad at) = IsFirstFault text at
IsFault text Memory = Unit {0}
