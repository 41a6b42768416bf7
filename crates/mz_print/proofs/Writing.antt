-- A piece more: what a writer comes to behind it, and how a text is written with its quotes doubled.
use Rattle.std.proofs.Common.{◌≡◌, ℕ, suc, ◌<◌, Bool, true, false, List, [], ◌∷◌, ◌++◌, length, get_or, refl, ap, sym, ◌∙◌, arith, append_assoc, Option, Some, None, MatchOption, eqb-true, ◌≢◌}
use Rattle.std.specs.Prelude.{string_bytes}
use Rattle.std.specs.List.{flat_map}
use Rattle.std.proofs.lemmas.Str.Pattern.{split_parts, IsSplitOnceResult}
use denote.Ref.{Bor}
use Rattle.mz_lex.specs.Bytes.{is_quote}
use Rattle.mz_lex.specs.Quoted.{doubled}
use Rattle.mz_lex.proofs.ReachLemmas.{doubled-other}
use Rattle.mz_print.specs.declared.writer.Writer.{Writer}
use Rattle.mz_print.specs.Piece.{Piece, printed, edge, is_spaced, space, text_from}
use Rattle.mz_print.specs.Writer.{written}

-- a writer with the bytes of a piece more, and with what the piece leaves open, has written the piece
pub next_written : (old new : Writer) (piece : Piece) (rest : List Piece) (spaced : Bool)
    → is_spaced old.edge piece ≡ spaced
    → string_bytes new.text ≡ (string_bytes old.text ++ space spaced) ++ printed piece
    → new.edge ≡ edge piece
    → written new rest ≡ written old (piece ∷ rest)
unfolding written
next_written old new piece rest spaced is_due text behind =
    (λ i. text i ++ text_from (behind i) rest)
    ∙ append_assoc (string_bytes old.text ++ space spaced) (printed piece) (text_from (edge piece) rest)
    ∙ append_assoc (string_bytes old.text) (space spaced) (printed piece ++ text_from (edge piece) rest)
    ∙ ap (λ b. string_bytes old.text ++ (space b ++ (printed piece ++ text_from (edge piece) rest))) (sym is_due)

-- a byte that is no quote, by its number
no_quote : (b : ℕ) (t : Bool) → is_quote b ≡ t → b ≢ 39 → t ≡ false
no_quote b true is not = absurd (not (eqb-true b 39 is))
no_quote b false is not = refl

-- bytes without quotes stay
pub doubled_none : (bs : List ℕ) → ((i : ℕ) → i < length bs → get_or bs i 0 ≢ 39) → flat_map doubled bs ≡ bs
doubled_none [] none = refl
doubled_none (b ∷ bs) none =
    rw (doubled-other b (no_quote b (is_quote b) refl (none 0 (omega arith))))
    (ap (λ l. b ∷ l) (doubled_none bs (λ i within. none (suc i) (omega arith))))

-- and so they do before others
doubled_before : (bs cs : List ℕ) → ((i : ℕ) → i < length bs → get_or bs i 0 ≢ 39)
    → flat_map doubled (bs ++ cs) ≡ bs ++ flat_map doubled cs
doubled_before [] cs none = refl
doubled_before (b ∷ bs) cs none =
    rw (doubled-other b (no_quote b (is_quote b) refl (none 0 (omega arith))))
    (ap (λ l. b ∷ l) (doubled_before bs cs (λ i within. none (suc i) (omega arith))))

-- the text with its quotes doubled, from what stands before its first quote and behind it
abbrev pub DoubledParts : List ℕ → Option (Bor (List ℕ) × Bor (List ℕ)) → Type 0
DoubledParts bs r =
    MatchOption r (flat_map doubled bs ≡ bs) (λ parts. flat_map doubled bs ≡ parts.0.now ++ (39 ∷ 39 ∷ flat_map doubled parts.1.now))

-- so it is at each result of a split
parts_by : (bs : List ℕ) (r : Option (Bor (List ℕ) × Bor (List ℕ)))
    → MatchOption r ((i : ℕ) → i < length bs → get_or bs i 0 ≢ 39)
    (λ x. (bs ≡ x.0.now ++ (39 ∷ x.1.now)) × ((i : ℕ) → i < length x.0.now → get_or x.0.now i 0 ≢ 39))
    → DoubledParts bs r
parts_by bs None none = doubled_none bs none
parts_by bs (Some x) split = ap (flat_map doubled) split.0 ∙ doubled_before x.0.now (39 ∷ x.1.now) split.1

-- a text is split at its first quote
pub doubled_parts : (bs : List ℕ) (r : Option (Bor (List ℕ) × Bor (List ℕ))) → IsSplitOnceResult 39 bs r → DoubledParts bs r
doubled_parts bs r split = parts_by bs r (split_parts 39 bs r split (omega arith))
