-- The function that cuts a text gives its tokens, or the place where none begins.
use Rattle.std.proofs.Common.{◌≡◌, ℕ, zero, suc, ◌+◌, ◌<◌, ◌&&◌, Bool, true, false, List, [], ◌∷◌, ◌++◌, length, drop, nat_le, Option, Some, None, Ok, Err, if◌then◌else◌, refl, sym, ap, subst, ◌∙◌, arith, length-append, le-leb}
use Rattle.std.specs.Char.{is_ascii_digit}
use Rattle.std.specs.List.{prefix_len}
use Rattle.std.proofs.Math.Seq.{drop-append_seam}
use Rattle.std.proofs.lemmas.Bool.{leb-true}
use Rattle.mz_lex.specs.declared.token.Token.{Token}
use Rattle.mz_lex.specs.declared.token.TokenKind.{TokenKind}
use Rattle.mz_lex.specs.declared.token.TokenKind.TheVariants.{Word, Number, Quoted, Sign}
use Rattle.mz_lex.specs.Bytes.{is_blank, is_word_start, is_word_byte, starts}
use Rattle.mz_lex.specs.Cut.{AreTokens, IsCutInto}
use Rattle.mz_lex.specs.Fault.{IsStuck, IsFirstFault}
use Rattle.mz_lex.specs.Reach.{quoted_reach}
use Rattle.mz_lex.specs.Spelling.{is_single, is_double, Begins, BeginsNo, Finds}
use Rattle.mz_lex.proofs.CutLemmas.{front_long, gap_before, token_before}
use Rattle.mz_lex.proofs.ReachLemmas.{sign_reach, reach-found, both, word_found, word_long, number_found, quoted_found, quoted_none, double_found, single_found}
use Rattle.mz_sql.specs.Cutting.{sign_at, quoted_or_sign, token_at, Cut, with_token, cut_at, cut_from, cut_text}

-- ---- the token at the front

-- what a front starts with, the whole starts with
starts_whole : (p : ℕ → Bool) (front rest : List ℕ) → starts p front ≡ true → starts p (front ++ rest) ≡ true
starts_whole p [] rest is = cc
starts_whole p (b ∷ front) rest is = is

-- no word stands where the bytes start otherwise, or where their run is too long
no_word : (bs : List ℕ) → (starts is_word_start bs && nat_le (prefix_len is_word_byte bs) 63) ≡ false → BeginsNo Word bs
no_word bs not front rest parts token =
    let start = ap (starts is_word_start) parts ∙ starts_whole is_word_start front rest token.spelled.start in
    let long = ap (prefix_len is_word_byte) parts ∙ word_long front rest token in
    let short : nat_le (length front) 63 ≡ true = le-leb (length front) 63 token.spelled.short in
    let never : true ≡ false = sym (λ i. start i && (ap (λ n. nat_le n 63) long ∙ short) i) ∙ not in
    cc

-- no number stands where the bytes start otherwise
no_number : (bs : List ℕ) → starts is_ascii_digit bs ≡ false → BeginsNo Number bs
no_number bs not front rest parts token =
    let start = ap (starts is_ascii_digit) parts ∙ starts_whole is_ascii_digit front rest token.spelled.start in
    let never : true ≡ false = sym start ∙ not in
    cc

-- no sign stands where it reaches nowhere
no_sign : (bs : List ℕ) → sign_reach bs ≡ None → BeginsNo Sign bs
no_sign bs none front rest parts token =
    let found = reach-found Sign front rest token in
    let same = ap sign_reach parts in
    cc

-- what was found where no word, no number and no quoted text stands
record Left (bs : List ℕ) : Type 0 where
  word : BeginsNo Word bs
  number : BeginsNo Number bs
  quoted : BeginsNo Quoted bs

-- then no token stands there, if no sign does
none_left : (bs : List ℕ) → Left bs → BeginsNo Sign bs → (kind : TokenKind) → BeginsNo kind bs
none_left bs left sign Word = left.word
none_left bs left sign Number = left.number
none_left bs left sign Quoted = left.quoted
none_left bs left sign Sign = sign

-- a sign, by the one byte
last_found : (b : ℕ) → Left (b ∷ []) → (single : Bool) → is_single b ≡ single
    → Finds (b ∷ []) (if single then Some (Sign, 1) else None)
last_found b left true is = single_found b [] is refl
last_found b left false is = none_left (b ∷ []) left (no_sign (b ∷ []) (rw is refl))

-- a sign, by the first two bytes
sign_found : (b c : ℕ) (bs : List ℕ) → Left (b ∷ c ∷ bs) → (double single : Bool) → is_double b c ≡ double → is_single b ≡ single
    → Finds (b ∷ c ∷ bs) (if double then Some (Sign, 2) else (if single then Some (Sign, 1) else None))
sign_found b c bs left true single two one = double_found b c bs two
sign_found b c bs left false true two one = single_found b (c ∷ bs) one two
sign_found b c bs left false false two one = none_left (b ∷ c ∷ bs) left (no_sign (b ∷ c ∷ bs) (rw (two, one) refl))

-- a sign, or nothing
sign_finds : (bs : List ℕ) → Left bs → Finds bs (sign_at bs)
sign_finds [] left = none_left [] left (no_sign [] refl)
sign_finds (b ∷ []) left = last_found b left (is_single b) refl
sign_finds (b ∷ c ∷ bs) left = sign_found b c bs left (is_double b c) (is_single b) refl refl

-- a quoted text, or a sign
quoted_finds : (bs : List ℕ) → BeginsNo Word bs → BeginsNo Number bs → (reach : Option ℕ) → quoted_reach bs ≡ reach
    → Finds bs (quoted_or_sign bs reach)
quoted_finds bs word number (Some n) is = quoted_found bs n is
quoted_finds bs word number None is = sign_finds bs (record { word = word; number = number; quoted = quoted_none bs is })

-- a number, or one of these
number_finds : (bs : List ℕ) → BeginsNo Word bs → (digit : Bool) → starts is_ascii_digit bs ≡ digit
    → Finds bs (if digit then Some (Number, prefix_len is_ascii_digit bs) else quoted_or_sign bs (quoted_reach bs))
number_finds bs word true is = number_found bs is
number_finds bs word false is = quoted_finds bs word (no_number bs is) (quoted_reach bs) refl

-- a word, or one of these
word_finds : (bs : List ℕ) (word : Bool) → (starts is_word_start bs && nat_le (prefix_len is_word_byte bs) 63) ≡ word
    → Finds bs (if word then Some (Word, prefix_len is_word_byte bs)
    else (if starts is_ascii_digit bs then Some (Number, prefix_len is_ascii_digit bs) else quoted_or_sign bs (quoted_reach bs)))
word_finds bs true is = let parts = both _ _ is in word_found bs parts.0 (leb-true _ 63 parts.1)
word_finds bs false is = number_finds bs (no_word bs is) (starts is_ascii_digit bs) refl

-- the token at the front is found
token_finds : (bs : List ℕ) → Finds bs (token_at bs)
token_finds bs = word_finds bs _ refl

-- ---- the cut

-- what is left at the place where no token begins
record Stops (at : ℕ) (bs : List ℕ) (place : ℕ) : Type 0 where
  tokens : List Token
  rest : List ℕ
  before : AreTokens at bs tokens rest
  here : IsStuck rest
  some : 0 < length rest
  is : place + length rest ≡ at + length bs

-- the bytes from this place on are cut so
abbrev IsCut : ℕ → List ℕ → Cut → Type 0
IsCut at bs (Ok tokens) = AreTokens at bs tokens []
IsCut at bs (Err place) = Stops at bs place

-- behind a blank
behind_blank : (at b : ℕ) (bs : List ℕ) (cut : Cut) → is_blank b ≡ true → IsCut (suc at) bs cut → IsCut at (b ∷ bs) cut
behind_blank at b bs (Ok tokens) blank later =
    gap_before at (suc at) (b ∷ []) bs (b ∷ bs) tokens [] (rw blank refl) refl (omega arith) later
behind_blank at b bs (Err place) blank later =
    let is = later.is in record {
      tokens = later.tokens;
      rest = later.rest;
      before = gap_before at (suc at) (b ∷ []) bs (b ∷ bs) later.tokens later.rest (rw blank refl) refl (omega arith) later.before;
      here = later.here;
      some = later.some;
      is = omega arith;
    }

-- behind a token
behind_token : (at : ℕ) (bs : List ℕ) (token : Token) (front after : List ℕ) (cut : Cut) → bs ≡ front ++ after
    → Begins token.kind front after → token.start ≡ at → token.end ≡ at + length front → IsCut token.end after cut
    → IsCut at bs (with_token token cut)
behind_token at bs token front after (Ok tokens) parts begins start end later =
    token_before at bs token front after tokens [] parts begins start end later
behind_token at bs token front after (Err place) parts begins start end later =
    let is = later.is in
    let long = ap length parts ∙ length-append front after in record {
      tokens = token ∷ later.tokens;
      rest = later.rest;
      before = token_before at bs token front after later.tokens later.rest parts begins start end later.before;
      here = later.here;
      some = later.some;
      is = omega arith;
    }

-- what cuts fewer bytes right
abbrev CutsBelow : ℕ → (ℕ → List ℕ → Cut) → Type 0
CutsBelow n cut = (at : ℕ) (bs : List ℕ) → length bs < n → IsCut at bs (cut at bs)

-- where no blank stands first
from_token : (n at : ℕ) (bs : List ℕ) (cut : ℕ → List ℕ → Cut) (found : Option (TokenKind × ℕ)) → starts is_blank bs ≡ false
    → 0 < length bs → length bs < suc n → CutsBelow n cut → Finds bs found → IsCut at bs (cut_at cut at bs found)
from_token n at bs cut None no_blank some few below none = record {
  tokens = [];
  rest = bs;
  before = ([], refl, refl);
  here = record { no_blank = no_blank; no_token = none };
  some = some;
  is = refl;
}
from_token n at bs cut (Some (kind, m)) no_blank some few below token =
    let left : drop m bs ≡ token.rest =
    (λ i. drop (token.long i) (token.parts i)) ∙ drop-append_seam token.front token.rest in
    let begins : Begins kind token.front (drop m bs) = subst (Begins kind token.front) (sym left) token.token in
    let parts : bs ≡ token.front ++ drop m bs = token.parts ∙ ap (λ l. token.front ++ l) (sym left) in
    let some_long = front_long kind token.front token.rest token.token in
    let whole = ap length parts ∙ length-append token.front (drop m bs) in
    behind_token at bs (record { kind = kind; start = at; end = at + m }) token.front (drop m bs) (cut (at + m) (drop m bs))
    parts begins refl (ap (λ k. at + k) token.long) (below (at + m) (drop m bs) (omega arith))

-- a blank, or none
by_blank : (n at b : ℕ) (bs : List ℕ) (cut : ℕ → List ℕ → Cut) (blank : Bool) → is_blank b ≡ blank → length (b ∷ bs) < suc n
    → CutsBelow n cut
    → IsCut at (b ∷ bs) (if blank then cut (suc at) bs else cut_at cut at (b ∷ bs) (token_at (b ∷ bs)))
by_blank n at b bs cut true is few below = behind_blank at b bs (cut (suc at) bs) is (below (suc at) bs (omega arith))
by_blank n at b bs cut false is few below =
    from_token n at (b ∷ bs) cut (token_at (b ∷ bs)) is (omega arith) few below (token_finds (b ∷ bs))

-- bytes are cut right in more steps than there are bytes
cuts_below : (n : ℕ) → CutsBelow n (cut_from n)
cuts_below zero at bs few = absurd (omega arith)
cuts_below (suc n) at [] few = ([], refl, refl)
cuts_below (suc n) at (b ∷ bs) few = by_blank n at b bs (cut_from n) (is_blank b) refl few (cuts_below n)

-- ---- the text

-- the text is cut so
abbrev pub IsCutSo : List ℕ → Cut → Type 0
IsCutSo text (Ok tokens) = IsCutInto text tokens
IsCutSo text (Err at) = IsFirstFault text at

-- where the cut stops is the first fault
first_stop : (text : List ℕ) (cut : Cut) → IsCut 0 text cut → IsCutSo text cut
first_stop text (Ok tokens) is = is
first_stop text (Err at) stops =
    let is = stops.is in
    let some = stops.some in record {
      tokens = stops.tokens;
      rest = stops.rest;
      before = stops.before;
      here = stops.here;
      place = omega arith;
      within = omega arith;
    }

-- a text is cut as it is
pub text_is_cut : (text : List ℕ) → IsCutSo text (cut_text text)
text_is_cut text = first_stop text (cut_text text) (cuts_below (suc (length text)) 0 text (omega arith))
