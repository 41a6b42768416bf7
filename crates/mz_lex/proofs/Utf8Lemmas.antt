-- A token of a text is a text, since it begins and ends with ASCII, and so is what a quoted text stands for.
use Rattle.std.proofs.Common.{◌≡◌, ℕ, ◌+◌, ◌-◌, ◌<◌, Bool, true, false, List, [], ◌∷◌, ◌++◌, length, drop, get_or, refl, ap, sym, subst, ◌∙◌, arith, append_assoc, length-append, length-drop, length-take-le, eqb-true, nat_lt, IsUtf8, ltb-true, lit<}
use Rattle.std.specs.Prelude.{codes}
use Rattle.std.specs.Char.{is_ascii_digit}
use Rattle.std.specs.List.{list_all, flat_map, slice_range}
use Rattle.std.specs.Str.{IsCharBoundary}
use Rattle.std.proofs.Math.Seq.{take-append_seam, drop-append-add, get_or-append_seam}
use Rattle.std.proofs.lemmas.List.{append-nil, get_or-take, get_or-drop}
use Rattle.std.proofs.lemmas.List.Sums.{AllPass-from_list_all}
use Rattle.std.proofs.lemmas.List.Elements.{All-get_or}
use Rattle.std.proofs.lemmas.Str.{IsUtf8-append, IsUtf8-between, IsUtf8-take, IsUtf8-drop, IsCharBoundary-before_ascii, IsCharBoundary-after_ascii, IsUtf8-encode, encode_ascii}
use Rattle.std.proofs.lemmas.Bool.Decides.{nat_tests}
use Rattle.mz_lex.specs.declared.token.TokenKind.{TokenKind}
use Rattle.mz_lex.specs.declared.token.TokenKind.TheVariants.{Word, Number, Quoted, Sign}
use Rattle.mz_lex.specs.declared.token.Token.{Token}
use Rattle.mz_lex.specs.Bytes.{is_word_byte, is_quote, starts}
use Rattle.mz_lex.specs.Quoted.{doubled, quoted}
use Rattle.mz_lex.specs.Spelling.{is_single, is_double, IsToken}
use Rattle.mz_lex.specs.Cut.{IsSpan}
use Rattle.mz_lex.proofs.CutLemmas.{any_passes}
use Rattle.mz_lex.proofs.ReachLemmas.{doubled-quote, doubled-other}

-- there are bytes, and the first and the last are ASCII
pub record HasAsciiEnds (bs : List ℕ) : Type 0 where
  pub first : get_or bs 0 0 < 128
  pub last : get_or bs (length bs - 1) 0 < 128

-- a byte of words is ASCII
word_byte_ascii : (b : ℕ) → is_word_byte b ≡ true → b < 128
word_byte_ascii b is = grind (arith, nat_tests)

-- a digit is ASCII
digit_ascii : (b : ℕ) → is_ascii_digit b ≡ true → b < 128
digit_ascii b is = grind (arith, nat_tests)

-- a sign of one byte is ASCII
single_ascii : (b : ℕ) → is_single b ≡ true → b < 128
single_ascii b is = ltb-true b 128 (any_passes (λ s. nat_lt s 128) b (codes "(),.*=<>-;") refl is)

-- and so is one of two
double_ascii : (b c : ℕ) → is_double b c ≡ true → (b < 128) × (c < 128)
double_ascii b c is = (grind (arith, nat_tests), grind (arith, nat_tests))

-- bytes that all pass a test of ASCII
ends_passing : (p : ℕ → Bool) (bs : List ℕ) → ((b : ℕ) → p b ≡ true → b < 128) → list_all p bs ≡ true → 0 < length bs → HasAsciiEnds bs
ends_passing p bs ascii passes long =
    let all = AllPass-from_list_all p bs passes in
    let at : (i : ℕ) → i < length bs → get_or bs i 0 < 128 = λ i within. ascii _ (All-get_or (λ b. p b ≡ true) bs i 0 within all) in
    record { first = at 0 long; last = at (length bs - 1) (omega arith) }

-- a list that starts with something is not empty
starts_some : (p : ℕ → Bool) (bs : List ℕ) → starts p bs ≡ true → 0 < length bs
starts_some p [] is = cc
starts_some p (b ∷ bs) is = omega arith

-- a text in quotes ends with a quote
quoted_last : (text : List ℕ) → get_or (quoted text) (length (quoted text) - 1) 0 ≡ 39
quoted_last text =
    let inside = flat_map doubled text in
    let long : length (quoted text) - 1 ≡ length (39 ∷ inside) = omega (arith, length-append inside (39 ∷ [])) in
    ap (λ n. get_or (quoted text) n 0) long ∙ get_or-append_seam (39 ∷ inside) 39 [] 0

-- a token begins and ends with ASCII
token_ends : (kind : TokenKind) (bs : List ℕ) → IsToken kind bs → HasAsciiEnds bs
token_ends Word bs token = ends_passing is_word_byte bs word_byte_ascii token.bytes (starts_some _ bs token.start)
token_ends Number bs token = ends_passing is_ascii_digit bs digit_ascii token.bytes (starts_some _ bs token.start)
token_ends Quoted bs token =
    subst HasAsciiEnds (sym token.2) (let last = quoted_last token.0 in record { first = omega arith; last = omega arith })
token_ends Sign [] token = cc
token_ends Sign (b ∷ []) token = record { first = single_ascii b token; last = single_ascii b token }
token_ends Sign (b ∷ c ∷ []) token = record { first = (double_ascii b c token).0; last = (double_ascii b c token).1 }
token_ends Sign (b ∷ c ∷ d ∷ bs) token = cc

-- a token of a text is a text
pub span_utf8 : (text : List ℕ) (t : Token) → IsUtf8 text → IsSpan text t → IsUtf8 (slice_range text t.start t.end)
span_utf8 text t utf8 span =
    let slice = slice_range text t.start t.end in
    let some = span.some in
    let within = span.within in
    let ends = token_ends t.kind slice span.spelled in
    let behind_start = length-drop t.start text in
    let long : length slice ≡ t.end - t.start = length-take-le (t.end - t.start) (drop t.start text) (omega arith) in
    let at : (i : ℕ) → i < t.end - t.start → get_or slice i 0 ≡ get_or text (t.start + i) 0 = λ i inside. get_or-take (t.end - t.start) (drop t.start text) i 0 inside ∙ get_or-drop t.start text i 0 in
    let place : t.start + (length slice - 1) ≡ t.end - 1 = omega arith in
    let first : get_or text (t.start + 0) 0 < 128 = subst (λ n. n < 128) (at 0 (omega arith)) ends.first in
    let last : get_or text (t.end - 1) 0 < 128 = subst (λ n. get_or text n 0 < 128) place (subst (λ n. n < 128) (at (length slice - 1) (omega arith)) ends.last) in
    let zero_more : t.start + 0 ≡ t.start = omega arith in
    let one_more : t.end - 1 + 1 ≡ t.end = omega arith in
    let from = subst (IsCharBoundary text) zero_more (IsCharBoundary-before_ascii text (t.start + 0) (omega arith) first) in
    let to = subst (IsCharBoundary text) one_more (IsCharBoundary-after_ascii text (t.end - 1) utf8 (omega arith) last) in
    IsUtf8-between text t.start t.end utf8 (omega arith) from to

-- what stands before a quote of a text is a text
before_quote : (before rest : List ℕ) → IsUtf8 (before ++ 39 ∷ rest) → IsUtf8 before
before_quote before rest utf8 =
    let bs = before ++ 39 ∷ rest in
    let quote : get_or bs (length before) 0 ≡ 39 = get_or-append_seam before 39 rest 0 in
    let long = length-append before (39 ∷ rest) in
    subst IsUtf8 (take-append_seam before (39 ∷ rest)) (IsUtf8-take bs (length before) utf8 (IsCharBoundary-before_ascii bs (length before) (omega arith) (omega arith)))

-- and so is what stands behind one
behind_quote : (before rest : List ℕ) → IsUtf8 (before ++ 39 ∷ rest) → IsUtf8 rest
behind_quote before rest utf8 =
    let bs = before ++ 39 ∷ rest in
    let quote : get_or bs (length before) 0 ≡ 39 = get_or-append_seam before 39 rest 0 in
    let long = length-append before (39 ∷ rest) in
    subst IsUtf8 (drop-append-add before (39 ∷ rest) 1) (IsUtf8-drop bs (length before + 1) utf8 (IsCharBoundary-after_ascii bs (length before) utf8 (omega arith) (omega arith)))

-- a quote is a text
quote_utf8 : IsUtf8 (39 ∷ [])
quote_utf8 = subst IsUtf8 (encode_ascii 39 (lit< tt)) (IsUtf8-encode 39 refl)

-- one byte of the text more
text_utf8_next : (b : ℕ) (text before : List ℕ) (t : Bool) → is_quote b ≡ t → IsUtf8 (before ++ (flat_map doubled (b ∷ text) ++ 39 ∷ [])) → ((front : List ℕ) → IsUtf8 (front ++ (flat_map doubled text ++ 39 ∷ [])) → IsUtf8 (front ++ text)) → IsUtf8 (before ++ b ∷ text)
text_utf8_next b text before true is utf8 more =
    let inside = flat_map doubled text ++ 39 ∷ [] in
    let quote = eqb-true b 39 is in
    let written : doubled b ≡ 39 ∷ 39 ∷ [] = doubled-quote b is ∙ ap (λ q. q ∷ q ∷ []) quote in
    let moved : before ++ (flat_map doubled (b ∷ text) ++ 39 ∷ []) ≡ before ++ 39 ∷ 39 ∷ inside = ap (λ l. before ++ ((l ++ flat_map doubled text) ++ 39 ∷ [])) written in
    let all : IsUtf8 (before ++ 39 ∷ 39 ∷ inside) = subst IsUtf8 moved utf8 in
    let front = before_quote before (39 ∷ inside) all in
    let behind = more [] (behind_quote [] inside (behind_quote before (39 ∷ inside) all)) in
    subst (λ q. IsUtf8 (before ++ q ∷ text)) (sym quote) (IsUtf8-append before (39 ∷ text) front (IsUtf8-append (39 ∷ []) text quote_utf8 behind))
text_utf8_next b text before false is utf8 more =
    let inside = flat_map doubled text ++ 39 ∷ [] in
    let written = doubled-other b is in
    let moved : before ++ (flat_map doubled (b ∷ text) ++ 39 ∷ []) ≡ (before ++ b ∷ []) ++ inside = ap (λ l. before ++ ((l ++ flat_map doubled text) ++ 39 ∷ [])) written ∙ sym (append_assoc before (b ∷ []) inside) in
    subst IsUtf8 (append_assoc before (b ∷ []) text) (more (before ++ b ∷ []) (subst IsUtf8 moved utf8))

-- the text goes on as a text behind what stands before it
text_utf8 : (text before : List ℕ) → IsUtf8 (before ++ (flat_map doubled text ++ 39 ∷ [])) → IsUtf8 (before ++ text)
text_utf8 [] before utf8 = subst IsUtf8 (sym (append-nil before)) (before_quote before [] utf8)
text_utf8 (b ∷ text) before utf8 = text_utf8_next b text before (is_quote b) refl utf8 (λ front more. text_utf8 text front more)

-- what is quoted in a text is a text
pub quoted_utf8 : (text : List ℕ) → IsUtf8 (quoted text) → IsUtf8 text
quoted_utf8 text utf8 = text_utf8 text [] (behind_quote [] (flat_map doubled text ++ 39 ∷ []) utf8)
