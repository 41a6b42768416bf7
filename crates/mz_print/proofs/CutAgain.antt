-- The text of pieces is cut into tokens that stand for what the pieces stand for.
use Rattle.std.proofs.Common.{◌≡◌, ℕ, ◌+◌, ◌-◌, Bool, true, false, List, [], ◌∷◌, ◌++◌, length, take, drop, if◌then◌else◌, refl, sym, ap, subst, ◌∙◌, arith, append_assoc, length-append}
use Rattle.std.specs.Prelude.{map}
use Rattle.std.specs.List.{slice_range, AllByRecursion as Each}
use Rattle.std.proofs.Math.Seq.{take-append_seam, drop-append_seam}
use Rattle.mz_lex.specs.declared.token.Token.{Token}
use Rattle.mz_lex.specs.Bytes.{is_blank, starts}
use Rattle.mz_lex.specs.Cut.{AreTokens, IsCutInto}
use Rattle.mz_lex.specs.Spelling.{goes_on}
use Rattle.std.specs.List.{list_all}
use Rattle.mz_grammar.specs.declared.key.Key.TheVariants as k
use Rattle.mz_grammar.specs.Token.{tok_of, toks_of}
use Rattle.mz_print.specs.declared.word.Edge.{Edge}
use Rattle.mz_print.specs.declared.word.Edge.TheVariants.{Tight, Call, Loose}
use Rattle.mz_print.specs.Piece.{Piece, Fixed, Word, Name, Number, Text, printed, stands_for, is_call, edge, hugs, opens, is_spaced, space, text_from, text_of}
use Rattle.mz_print.proofs.PieceFacts.{IsPiece}
use Rattle.mz_print.proofs.PieceTokens.{kind_of, piece_token, tok_again}

-- ---- where a piece ends

-- the piece would go on with the byte
abbrev goes : Piece → ℕ → Bool
goes piece b = goes_on (kind_of piece) (printed piece) b

-- a space, a parenthesis, a comma and a point are no part of the piece before them
record EndsBefore (piece : Piece) : Type 0 where
  pub blank : goes piece 32 ≡ false
  pub open_sign : goes piece 40 ≡ false
  pub close_sign : goes piece 41 ≡ false
  pub comma : goes piece 44 ≡ false
  pub dot : goes piece 46 ≡ false

-- so it is of each piece
ends_before : (piece : Piece) → EndsBefore piece
ends_before (Fixed k.Select) = record { blank = refl; open_sign = refl; close_sign = refl; comma = refl; dot = refl }
ends_before (Fixed key) = record { blank = refl; open_sign = refl; close_sign = refl; comma = refl; dot = refl }
ends_before piece = record { blank = refl; open_sign = refl; close_sign = refl; comma = refl; dot = refl }

-- no space is left out behind a word
never_tight : (calls : Bool) → (if calls then Call else Loose) ≡ Tight → ⊥
never_tight true is = cc
never_tight false is = cc

-- a sign behind which no space stands goes on with nothing
tight_ends : (piece : Piece) (bs : List ℕ) → edge piece ≡ Tight → starts (goes piece) bs ≡ false
tight_ends piece [] is = refl
tight_ends (Fixed k.Open) (b ∷ bs) is = refl
tight_ends (Fixed k.Dot) (b ∷ bs) is = refl
tight_ends (Fixed k.Minus) (b ∷ bs) is = refl
tight_ends (Fixed key) (b ∷ bs) is = cc
tight_ends (Word word) (b ∷ bs) is = absurd (never_tight (is_call word) is)
tight_ends piece (b ∷ bs) is = cc

-- where a piece that hugs nothing stands without a space, what is before it takes none
is_tight : (before : Edge) (piece : Piece)
    → hugs piece ≡ false → opens piece ≡ false → is_spaced before piece ≡ false → before ≡ Tight
is_tight Tight piece no_hug no_open none = refl
is_tight Call piece no_hug no_open none = let never = rw (no_hug, no_open) at none in cc
is_tight Loose piece no_hug no_open none = let never = rw no_hug at none in cc

-- so the piece before it ends there
ends_tight : (piece next : Piece) (bs : List ℕ) → hugs next ≡ false → opens next ≡ false → is_spaced (edge piece) next ≡ false
    → starts (goes piece) (printed next ++ bs) ≡ false
ends_tight piece next bs no_hug no_open none = tight_ends piece (printed next ++ bs) (is_tight (edge piece) next no_hug no_open none)

-- a piece ends where one without a space begins
ends_at : (piece next : Piece) (bs : List ℕ) → is_spaced (edge piece) next ≡ false → starts (goes piece) (printed next ++ bs) ≡ false
ends_at piece (Fixed k.Close) bs none = (ends_before piece).close_sign
ends_at piece (Fixed k.Comma) bs none = (ends_before piece).comma
ends_at piece (Fixed k.Dot) bs none = (ends_before piece).dot
ends_at piece (Fixed k.Open) bs none = (ends_before piece).open_sign
ends_at piece (Fixed key) bs none = ends_tight piece (Fixed key) bs refl refl none
ends_at piece (Word word) bs none = ends_tight piece (Word word) bs refl refl none
ends_at piece (Name name) bs none = ends_tight piece (Name name) bs refl refl none
ends_at piece (Number n) bs none = ends_tight piece (Number n) bs refl refl none
ends_at piece (Text text) bs none = ends_tight piece (Text text) bs refl refl none

-- and where a space stands
ends_spaced : (piece next : Piece) (bs : List ℕ) (spaced : Bool) → is_spaced (edge piece) next ≡ spaced
    → starts (goes piece) (space spaced ++ (printed next ++ bs)) ≡ false
ends_spaced piece next bs true is = (ends_before piece).blank
ends_spaced piece next bs false is = ends_at piece next bs is

-- a piece ends before the pieces behind it
ends : (piece : Piece) (pieces : List Piece) → starts (goes piece) (text_from (edge piece) pieces) ≡ false
ends piece [] = refl
ends piece (next ∷ pieces) = ends_spaced piece next _ _ refl

-- ---- tokens

-- a space is a blank, and so is none
space_blank : (spaced : Bool) → list_all is_blank (space spaced) ≡ true
space_blank true = refl
space_blank false = refl

-- behind what stands before it, the text of pieces is cut into tokens that stand for them
record Cut (front : List ℕ) (before : Edge) (pieces : List Piece) : Type 0 where
  pub tokens : List Token
  pub cut : AreTokens (length front) (text_from before pieces) tokens []
  pub stand_for : toks_of (front ++ text_from before pieces) tokens ≡ map stands_for pieces

-- what stands between two places is what lies between the bytes before it and behind it
slice_between : (front middle behind : List ℕ) (start end : ℕ) → start ≡ length front → end ≡ start + length middle
    → slice_range (front ++ (middle ++ behind)) start end ≡ middle
slice_between front middle behind start end starts_at ends_at =
    let long : end - start ≡ length middle = omega arith in
    (λ i. take (long i) (drop (starts_at i) (front ++ (middle ++ behind))))
    ∙ ap (take (length middle)) (drop-append_seam front (middle ++ behind))
    ∙ take-append_seam middle behind

-- one piece more
cut_next : (front : List ℕ) (before : Edge) (piece : Piece) (pieces : List Piece) → IsPiece piece
    → Cut ((front ++ space (is_spaced before piece)) ++ printed piece) (edge piece) pieces → Cut front before (piece ∷ pieces)
cut_next front before piece pieces is later =
    let gap = space (is_spaced before piece) in
    let text = printed piece in
    let behind = text_from (edge piece) pieces in
    let start = length front + length gap in
    let token : Token = record { kind = kind_of piece; start = start; end = start + length text } in
    let seen = (front ++ gap) ++ text in
    let begins_at : start ≡ length (front ++ gap) = sym (length-append front gap) in
    let ends_at : length seen ≡ start + length text = length-append (front ++ gap) text ∙ ap (λ n. n + length text) (length-append front gap) in
    let whole : (front ++ gap) ++ (text ++ behind) ≡ front ++ (gap ++ (text ++ behind)) = append_assoc front gap (text ++ behind) in
    let same : seen ++ behind ≡ front ++ (gap ++ (text ++ behind)) = append_assoc (front ++ gap) text behind ∙ whole in
    let slice : slice_range (front ++ (gap ++ (text ++ behind))) start (start + length text) ≡ text =
    ap (λ l. slice_range l start (start + length text)) (sym whole)
    ∙ slice_between (front ++ gap) text behind start (start + length text) begins_at refl in
    record {
      tokens = token ∷ later.tokens;
      cut = (
        behind,
        record {
          gap = gap;
          front = text;
          parts = refl;
          blank = space_blank (is_spaced before piece);
          token = record { spelled = piece_token piece is; longest = ends piece pieces };
          start = refl;
          end = refl;
        },
        subst (λ at. AreTokens at behind later.tokens []) ends_at later.cut,
      );
      stand_for = λ i. (ap (tok_of (kind_of piece)) slice ∙ tok_again piece is) i
          ∷ (ap (λ l. toks_of l later.tokens) (sym same) ∙ later.stand_for) i;
    }

-- the text of pieces is cut, wherever it stands
cut_from : (pieces : List Piece) (front : List ℕ) (before : Edge) → Each IsPiece pieces → Cut front before pieces
cut_from [] front before each = record { tokens = []; cut = ([], refl, refl); stand_for = refl }
cut_from (piece ∷ pieces) front before each = cut_next front before piece pieces each.0 (cut_from pieces _ (edge piece) each.1)

-- the text of pieces is cut into tokens that stand for what the pieces stand for
pub cut_again : (pieces : List Piece) → Each IsPiece pieces
    → (tokens : List Token) × IsCutInto (text_of pieces) tokens × (toks_of (text_of pieces) tokens ≡ map stands_for pieces)
cut_again pieces each = let all = cut_from pieces [] Tight each in (all.tokens, all.cut, all.stand_for)
