-- Each text is cut into tokens or has a first fault.
use Rattle.std.proofs.Common.{◌≡◌, ℕ, ◌+◌, ◌-◌, ◌<◌, ◌≤◌, zero, suc, Bool, true, false, List, [], ◌∷◌, ◌++◌, length, refl, ap, ◌∙◌, arith, Option, Some, None, ◌⊎◌, inl, inr, length-append}
use Rattle.std.proofs.str.Laws.{order}
use Rattle.std.specs.Char.{is_ascii_digit}
use Rattle.std.specs.List.{list_all, prefix_len}
use Rattle.mz_lex.specs.declared.token.TokenKind.{TokenKind}
use Rattle.mz_lex.specs.declared.token.TokenKind.TheVariants.{Word, Number, Quoted, Sign}
use Rattle.mz_lex.specs.declared.token.Token.{Token}
use Rattle.mz_lex.specs.Bytes.{is_blank, is_word_start, is_word_byte, starts}
use Rattle.mz_lex.specs.Reach.{quoted_reach}
use Rattle.mz_lex.specs.Spelling.{is_single, is_double, Begins, BeginsWith, BeginsNo, longest_word}
use Rattle.mz_lex.specs.Cut.{AreTokens, IsCutInto}
use Rattle.mz_lex.specs.Fault.{IsStuck, IsFirstFault}
use Rattle.mz_lex.proofs.RunLemmas.{split_run}
use Rattle.mz_lex.proofs.ReachLemmas.{sign_reach, reach-found, word_found, word_long, number_found, quoted_found, quoted_none, double_found, single_found}
use Rattle.mz_lex.proofs.CutLemmas.{front_long, gap_before, token_before}

-- a token of this kind stands at the front, or none does
abbrev Decided : TokenKind → List ℕ → Type 0
Decided kind bs = ((n : ℕ) × BeginsWith kind bs n) ⊎ BeginsNo kind bs

-- what a front starts with, the whole starts with
starts-append : (p : ℕ → Bool) (front rest : List ℕ) → starts p front ≡ true → starts p (front ++ rest) ≡ true
starts-append p [] rest is = cc
starts-append p (b ∷ front) rest is = is

-- no word where the bytes start otherwise
word_start_no : (bs : List ℕ) → starts is_word_start bs ≡ false → BeginsNo Word bs
word_start_no bs other front rest parts token =
    let start = starts-append is_word_start front rest token.spelled.start in
    let same = ap (starts is_word_start) parts in
    cc

-- no number where the bytes start otherwise
number_start_no : (bs : List ℕ) → starts is_ascii_digit bs ≡ false → BeginsNo Number bs
number_start_no bs other front rest parts token =
    let start = starts-append is_ascii_digit front rest token.spelled.start in
    let same = ap (starts is_ascii_digit) parts in
    cc

-- no word where the run is too long
word_long_no : (bs : List ℕ) → longest_word < prefix_len is_word_byte bs → BeginsNo Word bs
word_long_no bs too_long front rest parts token =
    let long = word_long front rest token in
    let whole = ap (prefix_len is_word_byte) parts in
    let short = token.spelled.short in
    omega arith

-- a word where the run is short enough
word_short_or : (bs : List ℕ) → starts is_word_start bs ≡ true → ((prefix_len is_word_byte bs < longest_word + 1) ⊎ (longest_word + 1 ≤ prefix_len is_word_byte bs)) → Decided Word bs
word_short_or bs start (inl short) = inl (prefix_len is_word_byte bs, word_found bs start (omega arith))
word_short_or bs start (inr long) = inr (word_long_no bs (omega arith))

-- a word, by the first byte
word_or_no : (bs : List ℕ) (t : Bool) → starts is_word_start bs ≡ t → Decided Word bs
word_or_no bs true start = word_short_or bs start (order (prefix_len is_word_byte bs) (longest_word + 1))
word_or_no bs false start = inr (word_start_no bs start)

-- a number, by the first byte
number_or_no : (bs : List ℕ) (t : Bool) → starts is_ascii_digit bs ≡ t → Decided Number bs
number_or_no bs true start = inl (prefix_len is_ascii_digit bs, number_found bs start)
number_or_no bs false start = inr (number_start_no bs start)

-- a quoted text, by its reach
quoted_or_no : (bs : List ℕ) (len : Option ℕ) → quoted_reach bs ≡ len → Decided Quoted bs
quoted_or_no bs (Some n) is = inl (n, quoted_found bs n is)
quoted_or_no bs None is = inr (quoted_none bs is)

-- no sign where its reach is none
sign_none : (bs : List ℕ) → sign_reach bs ≡ None → BeginsNo Sign bs
sign_none bs none front rest parts token =
    let found = reach-found Sign front rest token in
    let same = ap sign_reach parts in
    cc

-- a sign, by the first two bytes
sign_next : (b c : ℕ) (bs : List ℕ) (s t : Bool) → is_double b c ≡ s → is_single b ≡ t → Decided Sign (b ∷ c ∷ bs)
sign_next b c bs true t double single = inl (2, double_found b c bs double)
sign_next b c bs false true double single = inl (1, single_found b (c ∷ bs) single double)
sign_next b c bs false false double single = inr (sign_none (b ∷ c ∷ bs) (rw (double, single) refl))

-- a sign, by the one byte
sign_last : (b : ℕ) (t : Bool) → is_single b ≡ t → Decided Sign (b ∷ [])
sign_last b true single = inl (1, single_found b [] single refl)
sign_last b false single = inr (sign_none (b ∷ []) (rw single refl))

-- a sign, whatever the bytes are
sign_or_no : (bs : List ℕ) → Decided Sign bs
sign_or_no [] = inr (sign_none [] refl)
sign_or_no (b ∷ []) = sign_last b (is_single b) refl
sign_or_no (b ∷ c ∷ bs) = sign_next b c bs (is_double b c) (is_single b) refl refl

-- some token stands at the front, or none does
abbrev AnyDecided : List ℕ → Type 0
AnyDecided bs = ((kind : TokenKind) × (n : ℕ) × BeginsWith kind bs n) ⊎ ((kind : TokenKind) → BeginsNo kind bs)

-- where no kind is found, none is there
none_of : {bs : List ℕ} → BeginsNo Word bs → BeginsNo Number bs → BeginsNo Quoted bs → BeginsNo Sign bs → (kind : TokenKind) → BeginsNo kind bs
none_of w n q s Word = w
none_of w n q s Number = n
none_of w n q s Quoted = q
none_of w n q s Sign = s

-- the first kind that is found
any_of : (bs : List ℕ) → Decided Word bs → Decided Number bs → Decided Quoted bs → Decided Sign bs → AnyDecided bs
any_of bs (inl w) n q s = inl (Word, w.0, w.1)
any_of bs (inr w) (inl n) q s = inl (Number, n.0, n.1)
any_of bs (inr w) (inr n) (inl q) s = inl (Quoted, q.0, q.1)
any_of bs (inr w) (inr n) (inr q) (inl s) = inl (Sign, s.0, s.1)
any_of bs (inr w) (inr n) (inr q) (inr s) = inr (none_of w n q s)

-- each of the kinds was looked for
any_decided : (bs : List ℕ) → AnyDecided bs
any_decided bs = any_of bs (word_or_no bs (starts is_word_start bs) refl) (number_or_no bs (starts is_ascii_digit bs) refl) (quoted_or_no bs (quoted_reach bs) refl) (sign_or_no bs)

-- what is left where no token begins
pub record Stops (at : ℕ) (bs : List ℕ) : Type 0 where
  pub tokens : List Token
  pub rest : List ℕ
  pub before : AreTokens at bs tokens rest
  pub here : IsStuck rest
  pub some : 0 < length rest
  pub within : length rest ≤ length bs

-- tokens to the end, or to where none begins
abbrev CutOrStops : ℕ → List ℕ → Type 0
CutOrStops at bs = ((ts : List Token) × AreTokens at bs ts []) ⊎ Stops at bs

-- behind a gap
gap_then : (at place : ℕ) (gap bs cs : List ℕ) → list_all is_blank gap ≡ true → cs ≡ gap ++ bs → place ≡ at + length gap → CutOrStops place bs → CutOrStops at cs
gap_then at place gap bs cs blank parts moved (inl cut) = inl (cut.0, gap_before at place gap bs cs cut.0 [] blank parts moved cut.1)
gap_then at place gap bs cs blank parts moved (inr stops) =
    let long = ap length parts ∙ length-append gap bs in
    let within = stops.within in
    inr (record {
      tokens = stops.tokens;
      rest = stops.rest;
      before = gap_before at place gap bs cs stops.tokens stops.rest blank parts moved stops.before;
      here = stops.here;
      some = stops.some;
      within = omega arith;
    })

-- behind a token
token_then : (at : ℕ) (bs : List ℕ) (t : Token) (front after : List ℕ) → bs ≡ front ++ after → Begins t.kind front after → t.start ≡ at → t.end ≡ at + length front → CutOrStops t.end after → CutOrStops at bs
token_then at bs t front after parts token start end (inl cut) = inl (t ∷ cut.0, token_before at bs t front after cut.0 [] parts token start end cut.1)
token_then at bs t front after parts token start end (inr stops) =
    let long = ap length parts ∙ length-append front after in
    let within = stops.within in
    inr (record {
      tokens = t ∷ stops.tokens;
      rest = stops.rest;
      before = token_before at bs t front after stops.tokens stops.rest parts token start end stops.before;
      here = stops.here;
      some = stops.some;
      within = omega arith;
    })

-- where no blank stands first
from_token : (at : ℕ) (bs : List ℕ) → starts is_blank bs ≡ false → 0 < length bs → AnyDecided bs → ((place : ℕ) (cs : List ℕ) → length cs < length bs → CutOrStops place cs) → CutOrStops at bs
from_token at bs no_blank some (inl found) go_on =
    let token = found.2 in
    let long = front_long found.0 token.front token.rest token.token in
    let whole = ap length token.parts ∙ length-append token.front token.rest in
    token_then at bs (record { kind = found.0; start = at; end = at + length token.front }) token.front token.rest token.parts token.token refl refl (go_on (at + length token.front) token.rest (omega arith))
from_token at bs no_blank some (inr none) go_on = inr (record {
  tokens = [];
  rest = bs;
  before = ([], refl, refl);
  here = record { no_blank = no_blank; no_token = none };
  some = some;
  within = omega arith;
})

-- with what stands behind the gap
from_rest : (at : ℕ) (bs : List ℕ) → starts is_blank bs ≡ false → ((place : ℕ) (cs : List ℕ) → length cs < length bs → CutOrStops place cs) → CutOrStops at bs
from_rest at [] no_blank go_on = inl ([], ([], refl, refl))
from_rest at (b ∷ bs) no_blank go_on = from_token at (b ∷ bs) no_blank (omega arith) (any_decided (b ∷ bs)) go_on

-- with so many bytes that it ends
cut_or_stops : (n at : ℕ) (bs : List ℕ) → length bs < n → CutOrStops at bs
cut_or_stops zero at bs few = absurd (omega arith)
cut_or_stops (suc n) at bs few =
    let run = split_run is_blank bs in
    let long = ap length run.parts ∙ length-append run.front run.after in
    gap_then at (at + length run.front) run.front run.after bs run.passes run.parts refl
    (from_rest (at + length run.front) run.after run.stops (λ place cs less. cut_or_stops n place cs (omega arith)))

-- where it stops is the first fault
first_fault : (text : List ℕ) → CutOrStops 0 text → ((ts : List Token) × IsCutInto text ts) ⊎ ((at : ℕ) × IsFirstFault text at)
first_fault text (inl cut) = inl cut
first_fault text (inr stops) =
    let some = stops.some in
    let within = stops.within in
    inr (
      length text - length stops.rest,
      record {
        tokens = stops.tokens;
        rest = stops.rest;
        before = stops.before;
        here = stops.here;
        place = omega arith;
        within = omega arith;
      },
    )

-- a text is cut, or has a first fault
pub cut_or_fault : (text : List ℕ) → ((ts : List Token) × IsCutInto text ts) ⊎ ((at : ℕ) × IsFirstFault text at)
cut_or_fault text = first_fault text (cut_or_stops (suc (length text)) 0 text (omega arith))
