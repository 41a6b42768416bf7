-- The tokens of a text as a function: it is cut from left to right. Nobody has to follow it: the tokens of a text and the place where
-- none begins are fixed by `IsCutInto` and `IsFirstFault` of `mz_lex`.
use Rattle.std.specs.Prelude.{ℕ, zero, suc, ◌+◌, ◌&&◌, List, [], ◌∷◌, length, drop, nat_le, Option, Some, None, Result, Ok, Err, if◌then◌else◌}
use Rattle.std.specs.Char.{is_ascii_digit}
use Rattle.std.specs.List.{prefix_len}
use Rattle.mz_lex.specs.declared.token.Token.{Token}
use Rattle.mz_lex.specs.declared.token.TokenKind.{TokenKind}
use Rattle.mz_lex.specs.declared.token.TokenKind.TheVariants.{Word, Number, Quoted, Sign}
use Rattle.mz_lex.specs.Bytes.{is_blank, is_word_start, is_word_byte, starts}
use Rattle.mz_lex.specs.Reach.{quoted_reach}
use Rattle.mz_lex.specs.Spelling.{is_single, is_double}

-- a sign of two bytes or else of one, if one stands at the front
abbrev pub sign_at : List ℕ → Option (TokenKind × ℕ)
sign_at [] = None
sign_at (b ∷ []) = if is_single b then Some (Sign, 1) else None
sign_at (b ∷ c ∷ bs) = if is_double b c then Some (Sign, 2) else (if is_single b then Some (Sign, 1) else None)

-- a quoted text that reaches so far, or else a sign
abbrev pub quoted_or_sign : List ℕ → Option ℕ → Option (TokenKind × ℕ)
quoted_or_sign bs (Some n) = Some (Quoted, n)
quoted_or_sign bs None = sign_at bs

-- the kind and the length of the token at the front, if one begins there
abbrev pub token_at : List ℕ → Option (TokenKind × ℕ)
token_at bs =
    if starts is_word_start bs && nat_le (prefix_len is_word_byte bs) 63 then Some (Word, prefix_len is_word_byte bs)
    else (if starts is_ascii_digit bs then Some (Number, prefix_len is_ascii_digit bs) else quoted_or_sign bs (quoted_reach bs))

-- tokens, or the place where none begins
abbrev pub Cut : Type 0
Cut = Result (List Token) ℕ

-- with a token more before the others
abbrev pub with_token : Token → Cut → Cut
with_token token (Ok tokens) = Ok (token ∷ tokens)
with_token token (Err at) = Err at

-- the token that was found at this place, and what is cut behind it
abbrev pub cut_at : (ℕ → List ℕ → Cut) → ℕ → List ℕ → Option (TokenKind × ℕ) → Cut
cut_at cut at bs None = Err at
cut_at cut at bs (Some (kind, n)) =
    with_token (record { kind = kind; start = at; end = at + n }) (cut (at + n) (drop n bs))

-- what is cut of the bytes from this place on, in so many steps
abbrev pub cut_from : ℕ → ℕ → List ℕ → Cut
cut_from zero at bs = Ok []
cut_from (suc n) at [] = Ok []
cut_from (suc n) at (b ∷ bs) =
    if is_blank b then cut_from n (suc at) bs else cut_at (cut_from n) at (b ∷ bs) (token_at (b ∷ bs))

-- the tokens of the text, or the place where none begins
abbrev pub cut_text : List ℕ → Cut
cut_text text = cut_from (suc (length text)) 0 text
