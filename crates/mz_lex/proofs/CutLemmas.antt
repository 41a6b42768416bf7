-- A text is cut into tokens in one way at most.
use Rattle.std.proofs.Common.{◌≡◌, ℕ, ◌+◌, ◌-◌, ◌<◌, ◌≤◌, Bool, true, false, List, [], ◌∷◌, ◌++◌, length, take, drop, refl, ap, sym, subst, ◌∙◌, arith, ◌&&◌, ◌||◌, not, Some, if◌then◌else◌, ◌==◌, append_assoc, length-append, eqb-true}
use Rattle.std.specs.Char.{is_ascii_digit}
use Rattle.std.specs.List.{list_all, list_any, prefix_len}
use Rattle.std.specs.Prelude.{All, codes, Result, Ok, Err, IfOk, IfErr}
use Rattle.std.specs.List.{slice_range}
use Rattle.std.proofs.lemmas.List.Elements.{All-nil, All-cons}
use Rattle.mz_lex.specs.declared.fault.LexFault.{LexFault}
use Rattle.mz_lex.specs.declared.fault.LexFault.TheVariants.{Bad, Memory}
use Rattle.std.proofs.Math.Seq.{take-append_seam, drop-append_seam}
use Rattle.std.proofs.lemmas.List.{append-nil}
use Rattle.std.proofs.lemmas.List.Folds.{list_all-append}
use Rattle.std.proofs.lemmas.Bool.Decides.{nat_tests}
use Rattle.mz_lex.specs.declared.token.TokenKind.{TokenKind}
use Rattle.mz_lex.specs.declared.token.TokenKind.TheVariants.{Word, Number, Quoted, Sign}
use Rattle.mz_lex.specs.declared.token.Token.{Token}
use Rattle.mz_lex.specs.Bytes.{is_blank, is_word_start, is_quote, starts}
use Rattle.mz_lex.specs.Spelling.{is_single, is_double, IsToken, Begins, BeginsNo, BeginsWith}
use Rattle.mz_lex.specs.Cut.{HasGap, IsNext, AreTokens, IsCutInto, IsSpan, AreInOrder}
use Rattle.mz_lex.specs.Fault.{IsStuck, IsFirstFault, IsFault}
use Rattle.mz_lex.proofs.RunLemmas.{prefix_len-run}
use Rattle.mz_lex.proofs.ReachLemmas.{reach, reach-found, both, denied}

-- the kind that the first byte tells
abbrev pub first_kind : ℕ → TokenKind
first_kind b = if is_word_start b then Word else (if is_ascii_digit b then Number else (if is_quote b then Quoted else Sign))

-- the kind that the first byte tells, and that no blank stands first
pub record StartsAs (kind : TokenKind) (bs : List ℕ) : Type 0 where
  pub first : ℕ
  pub more : List ℕ
  pub parts : bs ≡ first ∷ more
  pub kind_is : first_kind first ≡ kind
  pub no_blank : is_blank first ≡ false

-- no blank begins a word
word_no_blank : (b : ℕ) → is_word_start b ≡ true → is_blank b ≡ false
word_no_blank b is = grind (arith, nat_tests)

-- no blank is a digit
digit_no_blank : (b : ℕ) → is_ascii_digit b ≡ true → is_blank b ≡ false
digit_no_blank b is = grind (arith, nat_tests)

-- no digit begins a word
digit_no_word : (b : ℕ) → is_ascii_digit b ≡ true → is_word_start b ≡ false
digit_no_word b is = grind (arith, nat_tests)

-- one member more
any_passes_next : (q : ℕ → Bool) (b x : ℕ) (xs : List ℕ) (t : Bool) → (x == b) ≡ t → q x ≡ true → (t || list_any (λ s. s == b) xs) ≡ true → (list_any (λ s. s == b) xs ≡ true → q b ≡ true) → q b ≡ true
any_passes_next q b x xs true is here any later = ap q (sym (eqb-true x b is)) ∙ here
any_passes_next q b x xs false is here any later = later any

-- what all members of a list pass, one that is among them passes
pub any_passes : (q : ℕ → Bool) (b : ℕ) (xs : List ℕ) → list_all q xs ≡ true → list_any (λ s. s == b) xs ≡ true → q b ≡ true
any_passes q b [] all any = cc
any_passes q b (x ∷ xs) all any = any_passes_next q b x xs (x == b) refl (both _ _ all).0 any (any_passes q b xs (both _ _ all).1)

-- a byte that begins a sign begins no other token and is no blank
abbrev begins_sign : ℕ → Bool
begins_sign b = not (is_word_start b) && (not (is_ascii_digit b) && (not (is_quote b) && not (is_blank b)))

-- what begins with such a byte begins as a sign
starts_sign : (b : ℕ) (bs : List ℕ) → begins_sign b ≡ true → StartsAs Sign (b ∷ bs)
starts_sign b bs is =
    let word = both _ _ is in
    let digit = both _ _ word.1 in
    let quote = both _ _ digit.1 in
    let no_word : is_word_start b ≡ false = denied _ word.0 in
    let no_digit : is_ascii_digit b ≡ false = denied _ digit.0 in
    let no_quote : is_quote b ≡ false = denied _ quote.0 in
    record {
      first = b;
      more = bs;
      parts = refl;
      kind_is = rw (no_word, no_digit, no_quote) refl;
      no_blank = denied _ quote.1;
    }

-- each sign of one byte is such a byte
single_starts : (b : ℕ) → is_single b ≡ true → begins_sign b ≡ true
single_starts b is = any_passes begins_sign b (codes "(),.*=<>-;") refl is

-- the first byte is less or greater
less_or_greater : (b c : ℕ) (s t : Bool) → (b == 60) ≡ s → (b == 62) ≡ t → ((s && (c == 61 || c == 62)) || (t && c == 61)) ≡ true → begins_sign b ≡ true
less_or_greater b c true t less greater is = ap begins_sign (eqb-true b 60 less)
less_or_greater b c false true less greater is = ap begins_sign (eqb-true b 62 greater)
less_or_greater b c false false less greater is = cc

-- and so is the first byte of a sign of two
double_starts : (b c : ℕ) → is_double b c ≡ true → begins_sign b ≡ true
double_starts b c is = less_or_greater b c (b == 60) (b == 62) refl refl is

-- a token tells its kind by its first byte
pub starts_as : (kind : TokenKind) (front rest : List ℕ) → Begins kind front rest → StartsAs kind front
starts_as Word [] rest token = let never = token.spelled.start in cc
starts_as Word (b ∷ bs) rest token = record { first = b; more = bs; parts = refl; kind_is = rw token.spelled.start refl; no_blank = word_no_blank b token.spelled.start }
starts_as Number [] rest token = let never = token.spelled.start in cc
starts_as Number (b ∷ bs) rest token = record { first = b; more = bs; parts = refl; kind_is = rw (digit_no_word b token.spelled.start, token.spelled.start) refl; no_blank = digit_no_blank b token.spelled.start }
starts_as Quoted front rest token = record { first = 39; more = _; parts = token.spelled.2; kind_is = refl; no_blank = refl }
starts_as Sign [] rest token = let never = token.spelled in cc
starts_as Sign (b ∷ []) rest token = starts_sign b [] (single_starts b token.spelled)
starts_as Sign (b ∷ c ∷ []) rest token = starts_sign b (c ∷ []) (double_starts b c token.spelled)
starts_as Sign (b ∷ c ∷ d ∷ bs) rest token = let never = token.spelled in cc

-- blanks behind blanks
blanks : (gap more : List ℕ) → list_all is_blank gap ≡ true → list_all is_blank more ≡ true → list_all is_blank (gap ++ more) ≡ true
blanks gap more one two = list_all-append is_blank gap more ∙ (λ i. one i && two i)

-- a token has a byte at least
pub front_long : (kind : TokenKind) (front rest : List ℕ) → Begins kind front rest → 0 < length front
front_long kind front rest token = let long = ap length (starts_as kind front rest token).parts in omega arith

-- no blank begins a token
front_no_blank : (kind : TokenKind) (front rest : List ℕ) → Begins kind front rest → starts is_blank (front ++ rest) ≡ false
front_no_blank kind front rest token = let first = starts_as kind front rest token in ap (λ l. starts is_blank (l ++ rest)) first.parts ∙ first.no_blank

-- where the front parts are equally long, both parts are equal
same_parts : (f g r s : List ℕ) → length f ≡ length g → f ++ r ≡ g ++ s → (f ≡ g) × (r ≡ s)
same_parts f g r s long parts = (
  sym (take-append_seam f r) ∙ (λ i. take (long i) (parts i)) ∙ take-append_seam g s,
  sym (drop-append_seam f r) ∙ (λ i. drop (long i) (parts i)) ∙ drop-append_seam g s,
)

-- two runs of blanks at the front are equal
same_gap : (gap hap rest sest : List ℕ) → list_all is_blank gap ≡ true → list_all is_blank hap ≡ true → starts is_blank rest ≡ false → starts is_blank sest ≡ false → gap ++ rest ≡ hap ++ sest → (gap ≡ hap) × (rest ≡ sest)
same_gap gap hap rest sest blank clank stops ctops parts =
    same_parts gap hap rest sest
    (sym (prefix_len-run is_blank gap rest blank stops) ∙ ap (prefix_len is_blank) parts ∙ prefix_len-run is_blank hap sest clank ctops)
    parts

-- two tokens at the front have one kind
same_kind : (k m : TokenKind) (f g r s : List ℕ) → Begins k f r → Begins m g s → f ++ r ≡ g ++ s → k ≡ m
same_kind k m f g r s token other parts =
    let first = starts_as k f r token in
    let second = starts_as m g s other in
    let heads : first.first ∷ (first.more ++ r) ≡ second.first ∷ (second.more ++ s) = ap (λ l. l ++ r) (sym first.parts) ∙ parts ∙ ap (λ l. l ++ s) second.parts in
    let head : first.first ≡ second.first = cc in
    sym first.kind_is ∙ ap first_kind head ∙ second.kind_is

-- and one length, so they are one
pub same_front : (k m : TokenKind) (f g r s : List ℕ) → Begins k f r → Begins m g s → f ++ r ≡ g ++ s → (f ≡ g) × (r ≡ s)
same_front k m f g r s token other parts =
    let kind = same_kind k m f g r s token other parts in
    let one : Some (length f) ≡ Some (length g) = sym (reach-found k f r token) ∙ (λ i. reach (kind i) (parts i)) ∙ reach-found m g s other in
    let long : length f ≡ length g = cc in
    same_parts f g r s long parts

-- a gap of blanks before tokens is their first gap, or the one behind the last
pub gap_before : (at place : ℕ) (gap bs cs : List ℕ) (ts : List Token) (end : List ℕ) → list_all is_blank gap ≡ true → cs ≡ gap ++ bs → place ≡ at + length gap → AreTokens place bs ts end → AreTokens at cs ts end
gap_before at place gap bs cs [] end blank parts moved tokens = (
  gap ++ tokens.0,
  blanks gap tokens.0 blank tokens.1,
  parts ∙ ap (λ l. gap ++ l) tokens.2 ∙ sym (append_assoc gap tokens.0 end),
)
gap_before at place gap bs cs (t ∷ ts) end blank parts moved tokens =
    let next = tokens.1 in (
      tokens.0,
      record {
        gap = gap ++ next.gap;
        front = next.front;
        parts = parts ∙ ap (λ l. gap ++ l) next.parts ∙ sym (append_assoc gap next.gap (next.front ++ tokens.0));
        blank = blanks gap next.gap blank next.blank;
        token = next.token;
        start = let from = next.start in omega (arith, length-append gap next.gap);
        end = next.end;
      },
      tokens.2,
    )

-- a token before tokens
pub token_before : (at : ℕ) (bs : List ℕ) (t : Token) (front after : List ℕ) (ts : List Token) (end : List ℕ) → bs ≡ front ++ after → Begins t.kind front after → t.start ≡ at → t.end ≡ at + length front → AreTokens t.end after ts end → AreTokens at bs (t ∷ ts) end
token_before at bs t front after ts end parts token starts_at ends_at tokens = (
  after,
  record { gap = []; front = front; parts = parts; blank = refl; token = token; start = omega arith; end = omega arith },
  tokens,
)

-- the tokens so far are the text's up to the rest, whatever tokens come behind
pub record SoFar (text : List ℕ) (list : List Token) (rest : List ℕ) : Type 0 where
  pub within : length rest ≤ length text
  pub no_blank : starts is_blank rest ≡ false
  pub cut : (ts : List Token) (end : List ℕ) → AreTokens (length text - length rest) rest ts end → AreTokens 0 text (list ++ ts) end

-- before the first token there is a gap
pub so_far_first : (text rest : List ℕ) → HasGap text rest → starts is_blank rest ≡ false → SoFar text [] rest
so_far_first text rest gap no_blank =
    let long = ap length gap.2 ∙ length-append gap.0 rest in
    record {
      within = omega arith;
      no_blank = no_blank;
      cut = λ ts end tokens. gap_before 0 (length text - length rest) gap.0 rest text ts end gap.1 gap.2 (omega arith) tokens;
    }

-- one token more, and the gap behind it
pub so_far_next : (text : List ℕ) (list : List Token) (rest : List ℕ) (t : Token) (len : ℕ) (after left : List ℕ) → SoFar text list rest → BeginsWith t.kind rest len → t.start ≡ length text - length rest → t.end ≡ t.start + len → after ≡ drop len rest → HasGap after left → starts is_blank left ≡ false → SoFar text (list ++ t ∷ []) left
so_far_next text list rest t len after left so_far token starts_at ends_at behind gap no_blank =
    let long = token.long in
    let same : after ≡ token.rest = behind ∙ (λ i. drop (long i) (token.parts i)) ∙ drop-append_seam token.front token.rest in
    let parts : rest ≡ token.front ++ after = token.parts ∙ ap (λ l. token.front ++ l) (sym same) in
    let rest_long = ap length parts ∙ length-append token.front after in
    let after_long = ap length gap.2 ∙ length-append gap.0 left in
    let within = so_far.within in
    let here : Begins t.kind token.front after = subst (Begins t.kind token.front) (sym same) token.token in
    record {
      within = omega arith;
      no_blank = no_blank;
      cut = λ ts end tokens.
          let behind_gap : AreTokens t.end after ts end = gap_before t.end (length text - length left) gap.0 left after ts end gap.1 gap.2 (omega arith) tokens in
          let all = so_far.cut (t ∷ ts) end (token_before (length text - length rest) rest t token.front after ts end parts here starts_at (omega arith) behind_gap) in
          subst (λ l. AreTokens 0 text l end) (sym (append_assoc list (t ∷ []) ts)) all;
    }

-- where nothing is left, the tokens so far are all
pub so_far_done : (text : List ℕ) (list : List Token) (rest : List ℕ) → SoFar text list rest → length rest ≡ 0 → IsCutInto text list
so_far_done text list [] so_far none = subst (IsCutInto text) (append-nil list) (so_far.cut [] [] ([], refl, refl))
so_far_done text list (b ∷ rest) so_far none = absurd (omega arith)

-- where no token begins, the place is the first fault
pub so_far_stuck : (text : List ℕ) (list : List Token) (rest : List ℕ) → SoFar text list rest → 0 < length rest → ((kind : TokenKind) → BeginsNo kind rest) → IsFirstFault text (length text - length rest)
so_far_stuck text list rest so_far some no_token =
    let within = so_far.within in
    record {
      tokens = list ++ [];
      rest = rest;
      before = so_far.cut [] rest ([], refl, refl);
      here = record { no_blank = so_far.no_blank; no_token = no_token };
      place = omega arith;
      within = omega arith;
    }

-- at the end of a text no token begins
end_stuck : IsStuck []
end_stuck = record {
  no_blank = refl;
  no_token = λ kind front rest parts token.
      let long = front_long kind front rest token in
      let none = ap length parts ∙ length-append front rest in
      omega arith;
}

-- two lists of tokens, with nothing that begins behind them, are one, and so is what is behind them
pub same_tokens : (at : ℕ) (bs : List ℕ) (ts us : List Token) (rest sest : List ℕ) → AreTokens at bs ts rest → IsStuck rest → AreTokens at bs us sest → IsStuck sest → (ts ≡ us) × (rest ≡ sest)
same_tokens at bs [] [] rest sest one stuck two ttuck = (refl, (same_gap one.0 two.0 rest sest one.1 two.1 stuck.no_blank ttuck.no_blank (sym one.2 ∙ two.2)).1)
same_tokens at bs [] (u ∷ us) rest sest one stuck two ttuck =
    let next = two.1 in
    let same = same_gap one.0 next.gap rest (next.front ++ two.0) one.1 next.blank stuck.no_blank (front_no_blank u.kind next.front two.0 next.token) (sym one.2 ∙ next.parts) in
    absurd (stuck.no_token u.kind next.front two.0 same.1 next.token)
same_tokens at bs (t ∷ ts) [] rest sest one stuck two ttuck =
    let next = one.1 in
    let same = same_gap two.0 next.gap sest (next.front ++ one.0) two.1 next.blank ttuck.no_blank (front_no_blank t.kind next.front one.0 next.token) (sym two.2 ∙ next.parts) in
    absurd (ttuck.no_token t.kind next.front one.0 same.1 next.token)
same_tokens at bs (t ∷ ts) (u ∷ us) rest sest one stuck two ttuck =
    let a = one.1 in
    let b = two.1 in
    let gaps = same_gap a.gap b.gap (a.front ++ one.0) (b.front ++ two.0) a.blank b.blank (front_no_blank t.kind a.front one.0 a.token) (front_no_blank u.kind b.front two.0 b.token) (sym a.parts ∙ b.parts) in
    let kind = same_kind t.kind u.kind a.front b.front one.0 two.0 a.token b.token gaps.1 in
    let fronts = same_front t.kind u.kind a.front b.front one.0 two.0 a.token b.token gaps.1 in
    let start : t.start ≡ u.start = a.start ∙ ap (λ g. at + length g) gaps.0 ∙ sym b.start in
    let end : t.end ≡ u.end = a.end ∙ (λ i. start i + length (fronts.0 i)) ∙ sym b.end in
    let token : t ≡ u = λ i. record { kind = kind i; start = start i; end = end i } in
    let behind : AreTokens t.end one.0 us sest = subst (λ p. AreTokens p one.0 us sest) (sym end) (subst (λ l. AreTokens u.end l us sest) (sym fronts.1) two.2) in
    let later = same_tokens t.end one.0 ts us rest sest one.2 stuck behind ttuck in
    (λ i. token i ∷ later.0 i, later.1)

-- a text has one list of tokens at most
pub one_cut : (text : List ℕ) (ts us : List Token) → IsCutInto text ts → IsCutInto text us → ts ≡ us
one_cut text ts us one two = (same_tokens 0 text ts us [] [] one end_stuck two end_stuck).0

-- a text has one first fault at most
pub one_fault : (text : List ℕ) (at bt : ℕ) → IsFirstFault text at → IsFirstFault text bt → at ≡ bt
one_fault text at bt one two =
    let same = ap length (same_tokens 0 text one.tokens two.tokens one.rest two.rest one.before one.here two.before two.here).1 in
    let place = one.place in
    let other = two.place in
    omega arith

-- a text with tokens has no fault
pub not_both : (text : List ℕ) (ts : List Token) (at : ℕ) → IsCutInto text ts → IsFirstFault text at → ⊥
not_both text ts at cut fault =
    let same = ap length (same_tokens 0 text ts fault.tokens [] fault.rest cut end_stuck fault.before fault.here).1 in
    let place = fault.place in
    let within = fault.within in
    omega arith

-- tokens stand in order
pub in_order : (at : ℕ) (bs : List ℕ) (ts : List Token) (rest : List ℕ) → AreTokens at bs ts rest → AreInOrder at ts
in_order at bs [] rest tokens = tt
in_order at bs (t ∷ ts) rest tokens =
    let next = tokens.1 in
    let start = next.start in
    let end = next.end in
    let long = front_long t.kind next.front tokens.0 next.token in
    (omega arith, omega arith, in_order t.end tokens.0 ts rest tokens.2)

-- the token that comes next is the slice of its span
next_span : (before bs : List ℕ) (t : Token) (after : List ℕ) → IsNext (length before) bs t after → IsSpan (before ++ bs) t
next_span before bs t after next =
    let start = next.start in
    let end = next.end in
    let long = front_long t.kind next.front after next.token in
    let text : before ++ bs ≡ (before ++ next.gap) ++ (next.front ++ after) = ap (λ l. before ++ l) next.parts ∙ sym (append_assoc before next.gap (next.front ++ after)) in
    let whole = ap length text ∙ length-append (before ++ next.gap) (next.front ++ after) in
    let front_part = length-append before next.gap in
    let back_part = length-append next.front after in
    let at : t.start ≡ length (before ++ next.gap) = omega arith in
    let len : t.end - t.start ≡ length next.front = omega arith in
    let behind : drop t.start (before ++ bs) ≡ next.front ++ after = (λ i. drop (at i) (text i)) ∙ drop-append_seam (before ++ next.gap) (next.front ++ after) in
    let slice : slice_range (before ++ bs) t.start t.end ≡ next.front = (λ i. take (len i) (behind i)) ∙ take-append_seam next.front after in
    record {
      some = omega arith;
      within = omega arith;
      spelled = subst (IsToken t.kind) (sym slice) next.token.spelled;
    }

-- each token is the slice of its span
pub spans : (before bs : List ℕ) (ts : List Token) (rest : List ℕ) → AreTokens (length before) bs ts rest → All (IsSpan (before ++ bs)) ts
spans before bs [] rest tokens = All-nil (IsSpan (before ++ bs))
spans before bs (t ∷ ts) rest tokens =
    let next = tokens.1 in
    let start = next.start in
    let end = next.end in
    let seen = before ++ (next.gap ++ next.front) in
    let place : t.end ≡ length seen = omega (arith, length-append before (next.gap ++ next.front), length-append next.gap next.front) in
    let text : seen ++ tokens.0 ≡ before ++ bs = append_assoc before (next.gap ++ next.front) tokens.0 ∙ ap (λ l. before ++ l) (append_assoc next.gap next.front tokens.0 ∙ sym next.parts) in
    let later = spans seen tokens.0 ts rest (subst (λ p. AreTokens p tokens.0 ts rest) place tokens.2) in
    All-cons (IsSpan (before ++ bs)) t ts (next_span before bs t tokens.0 next) (subst (λ l. All (IsSpan l) ts) text later)

-- what was cut, or refused, unless memory ran out
pub only_cut : (text : List ℕ) (result : Result (List Token) LexFault) → IfOk result (λ ts. IsCutInto text ts) → IfErr result (λ fault. IsFault text fault) → (ts : List Token) → IsCutInto text ts → (result ≡ Err Memory → ⊥) → result ≡ Ok ts
only_cut text (Ok us) ok err ts cut some = ap Ok (one_cut text us ts ok cut)
only_cut text (Err (Bad at)) ok err ts cut some = absurd (not_both text ts at cut err)
only_cut text (Err Memory) ok err ts cut some = absurd (some refl)

-- the place of a fault, unless memory ran out
pub only_place : (text : List ℕ) (result : Result (List Token) LexFault) → IfOk result (λ ts. IsCutInto text ts) → IfErr result (λ fault. IsFault text fault) → (at : ℕ) → IsFirstFault text at → (result ≡ Err Memory → ⊥) → result ≡ Err (Bad at)
only_place text (Ok us) ok err at fault some = absurd (not_both text us at ok fault)
only_place text (Err (Bad bt)) ok err at fault some = ap (λ p. Err (Bad p)) (one_fault text bt at err fault)
only_place text (Err Memory) ok err at fault some = absurd (some refl)
