-- How far a token at the front reaches, as a number that the bytes fix.
use Rattle.std.proofs.Common.{◌≡◌, ℕ, ◌+◌, ◌<◌, ◌≤◌, get_or, Bool, true, false, List, [], ◌∷◌, ◌++◌, length, refl, ap, sym, subst, ◌∙◌, arith, ◌&&◌, Option, Some, None, if◌then◌else◌, ◌==◌, not, append_assoc, length-append, eqb-true}
use Rattle.std.specs.Char.{is_ascii_digit}
use Rattle.std.specs.List.{prefix_len, flat_map}
use Rattle.mz_lex.specs.declared.token.TokenKind.{TokenKind}
use Rattle.mz_lex.specs.declared.token.TokenKind.TheVariants.{Word, Number, Quoted, Sign}
use Rattle.mz_lex.specs.Bytes.{is_word_start, is_word_byte, is_quote, starts}
use Rattle.mz_lex.specs.Quoted.{doubled, quoted, is_one_line}
use Rattle.mz_lex.specs.Reach.{plus, closing, quoted_reach}
use Rattle.mz_lex.specs.Spelling.{is_single, is_double, goes_on, Begins, BeginsWith, BeginsNo, longest_word}
use Rattle.mz_lex.proofs.RunLemmas.{split_run, prefix_len-run}

-- how far a sign reaches
abbrev pub sign_reach : List ℕ → Option ℕ
sign_reach [] = None
sign_reach (b ∷ []) = if is_single b then Some 1 else None
sign_reach (b ∷ c ∷ bs) = if is_double b c then Some 2 else (if is_single b then Some 1 else None)

-- how far a token of the kind reaches, if one stands at the front
abbrev pub reach : TokenKind → List ℕ → Option ℕ
reach Word bs = Some (prefix_len is_word_byte bs)
reach Number bs = Some (prefix_len is_ascii_digit bs)
reach Quoted bs = quoted_reach bs
reach Sign bs = sign_reach bs

-- the first byte, by its index
pub starts_first : (p : ℕ → Bool) (bs : List ℕ) → 0 < length bs → starts p bs ≡ p (get_or bs 0 0)
starts_first p [] some = absurd (omega arith)
starts_first p (b ∷ bs) some = refl

-- a run that is not empty starts with a byte that passes
pub starts_long : (p : ℕ → Bool) (bs : List ℕ) → 0 < prefix_len p bs → starts p bs ≡ true
starts_long p [] long = absurd (omega arith)
starts_long p (b ∷ bs) long = long_starts (p b) (prefix_len p bs) long where
  long_starts : (t : Bool) (n : ℕ) → 0 < (if t then 1 + n else 0) → t ≡ true
  long_starts true n long = refl
  long_starts false n long = absurd (omega arith)

-- what begins a word belongs to words
word_start_goes_on : (b : ℕ) → is_word_start b ≡ true → is_word_byte b ≡ true
word_start_goes_on b is = rw is refl

-- a run with a byte in it starts with what stands before it
starts-run : (p q : ℕ → Bool) (front after : List ℕ) → ((b : ℕ) → p b ≡ true → q b ≡ true) → starts p (front ++ after) ≡ true → starts q after ≡ false → starts p front ≡ true
starts-run p q [] [] implies is stops = is
starts-run p q [] (b ∷ bs) implies is stops = let goes_on = implies b is in cc
starts-run p q (b ∷ front) after implies is stops = is

-- the word at the front, which is not too long
pub word_found : (bs : List ℕ) → starts is_word_start bs ≡ true → prefix_len is_word_byte bs ≤ longest_word → BeginsWith Word bs (prefix_len is_word_byte bs)
word_found bs start short =
    let run = split_run is_word_byte bs in
    let long = ap (prefix_len is_word_byte) run.parts ∙ prefix_len-run is_word_byte run.front run.after run.passes run.stops in
    record {
      front = run.front;
      rest = run.after;
      parts = run.parts;
      token = record {
        spelled = record {
          start = starts-run is_word_start is_word_byte run.front run.after word_start_goes_on (rw run.parts at start) run.stops;
          bytes = run.passes;
          short = rw long at short;
        };
        longest = run.stops;
      };
      long = long;
    }

-- a word is the whole run
pub word_long : (front rest : List ℕ) → Begins Word front rest → prefix_len is_word_byte (front ++ rest) ≡ length front
word_long front rest token = prefix_len-run is_word_byte front rest token.spelled.bytes token.longest

-- the number at the front
pub number_found : (bs : List ℕ) → starts is_ascii_digit bs ≡ true → BeginsWith Number bs (prefix_len is_ascii_digit bs)
number_found bs start =
    let run = split_run is_ascii_digit bs in
    record {
      front = run.front;
      rest = run.after;
      parts = run.parts;
      token = record {
        spelled = record {
          start = starts-run is_ascii_digit is_ascii_digit run.front run.after (λ b is. is) (rw run.parts at start) run.stops;
          bytes = run.passes;
        };
        longest = run.stops;
      };
      long = ap (prefix_len is_ascii_digit) run.parts ∙ prefix_len-run is_ascii_digit run.front run.after run.passes run.stops;
    }

-- behind a sign of two bytes nothing goes on
double_stops : (b c : ℕ) (rest : List ℕ) → starts (goes_on Sign (b ∷ c ∷ [])) rest ≡ false
double_stops b c [] = refl
double_stops b c (d ∷ rest) = refl

-- the sign of two bytes at the front
pub double_found : (b c : ℕ) (rest : List ℕ) → is_double b c ≡ true → BeginsWith Sign (b ∷ c ∷ rest) 2
double_found b c rest is = record {
  front = b ∷ c ∷ [];
  rest = rest;
  parts = refl;
  token = record { spelled = is; longest = double_stops b c rest };
  long = refl;
}

-- the same, by index
pub double_at : (bs : List ℕ) → 2 ≤ length bs → is_double (get_or bs 0 0) (get_or bs 1 0) ≡ true → BeginsWith Sign bs 2
double_at [] long is = absurd (omega arith)
double_at (b ∷ []) long is = absurd (omega arith)
double_at (b ∷ c ∷ bs) long is = double_found b c bs is

-- the sign of one byte at the front
pub single_found : (b : ℕ) (rest : List ℕ) → is_single b ≡ true → starts (is_double b) rest ≡ false → BeginsWith Sign (b ∷ rest) 1
single_found b rest is alone = record {
  front = b ∷ [];
  rest = rest;
  parts = refl;
  token = record { spelled = is; longest = alone_stops rest alone };
  long = refl;
} where
  alone_stops : (rest : List ℕ) → starts (is_double b) rest ≡ false → starts (goes_on Sign (b ∷ [])) rest ≡ false
  alone_stops [] alone = refl
  alone_stops (c ∷ rest) alone = alone

-- a byte that is no quote and no LF is one byte more
closing-other : (b : ℕ) (bs : List ℕ) → is_quote b ≡ false → (b == 10) ≡ false → closing (b ∷ bs) ≡ plus 1 (closing bs)
closing-other b [] no_quote no_line = rw no_quote refl
closing-other b (c ∷ bs) no_quote no_line = rw (no_quote, no_line) refl

-- both tests of an `and` that is true
pub both : (s t : Bool) → (s && t) ≡ true → (s ≡ true) × (t ≡ true)
both true t is = (refl, is)
both false t is = cc

-- a test whose denial is true
pub denied : (t : Bool) → not t ≡ true → t ≡ false
denied true is = sym is
denied false is = refl

-- a quote is written twice
pub doubled-quote : (b : ℕ) → is_quote b ≡ true → doubled b ≡ b ∷ b ∷ []
doubled-quote b is = rw is refl

-- any other byte is written once
pub doubled-other : (b : ℕ) → is_quote b ≡ false → doubled b ≡ b ∷ []
doubled-other b is = rw is refl

-- one byte of the text more
closing_next : (b : ℕ) (text rest : List ℕ) (t : Bool) → is_quote b ≡ t → is_one_line (b ∷ text) ≡ true → (is_one_line text ≡ true → closing (flat_map doubled text ++ 39 ∷ rest) ≡ Some (length (flat_map doubled text) + 1)) → closing (flat_map doubled (b ∷ text) ++ 39 ∷ rest) ≡ Some (length (flat_map doubled (b ∷ text)) + 1)
closing_next b text rest true is line more =
    let sum : 2 + (length (flat_map doubled text) + 1) ≡ length (b ∷ b ∷ flat_map doubled text) + 1 = omega arith in
    let now = more (both _ _ line).1 in
    rw (doubled-quote b is) (rw is (ap (plus 2) now ∙ ap Some sum))
closing_next b text rest false is line more =
    let sum : 1 + (length (flat_map doubled text) + 1) ≡ length (b ∷ flat_map doubled text) + 1 = omega arith in
    let now = more (both _ _ line).1 in
    rw (doubled-other b is) (closing-other b (flat_map doubled text ++ 39 ∷ rest) is (denied _ (both _ _ line).0) ∙ ap (plus 1) now ∙ ap Some sum)

-- the text without LF, and the quote that ends it
pub closing-quoted : (text rest : List ℕ) → is_one_line text ≡ true → starts is_quote rest ≡ false → closing (flat_map doubled text ++ 39 ∷ rest) ≡ Some (length (flat_map doubled text) + 1)
closing-quoted [] [] line stops = refl
closing-quoted [] (b ∷ rest) line stops = rw stops refl
closing-quoted (b ∷ text) rest line stops = closing_next b text rest (is_quote b) refl line (λ more. closing-quoted text rest more stops)

-- a length behind m bytes, without them
plus_some : (m n : ℕ) (len : Option ℕ) → plus m len ≡ Some n → (k : ℕ) × (len ≡ Some k) × (n ≡ m + k)
plus_some m n None is = cc
plus_some m n (Some k) is = (k, refl, cc)

-- behind an open quote: the text, written with doubled quotes, its last quote, and a rest that doesn't go on with it
pub record IsClosed (bs : List ℕ) (n : ℕ) : Type 0 where
  pub text : List ℕ
  pub rest : List ℕ
  pub parts : bs ≡ flat_map doubled text ++ 39 ∷ rest
  pub line : is_one_line text ≡ true
  pub stops : starts is_quote rest ≡ false
  pub long : n ≡ length (flat_map doubled text) + 1

-- a last byte that is a quote
closed_last : (b n : ℕ) (t : Bool) → is_quote b ≡ t → (if t then Some 1 else None) ≡ Some n → IsClosed (b ∷ []) n
closed_last b n true is found = record {
  text = [];
  rest = [];
  parts = ap (λ q. q ∷ []) (eqb-true b 39 is);
  line = refl;
  stops = refl;
  long = cc;
}
closed_last b n false is found = cc

-- a byte with another behind it
closed_next : (b c : ℕ) (bs : List ℕ) (n : ℕ) (s t u : Bool) → is_quote b ≡ s → is_quote c ≡ t → (b == 10) ≡ u → (if s then (if t then plus 2 (closing bs) else Some 1) else (if u then None else plus 1 (closing (c ∷ bs)))) ≡ Some n → ((k : ℕ) → closing bs ≡ Some k → IsClosed bs k) → ((k : ℕ) → closing (c ∷ bs) ≡ Some k → IsClosed (c ∷ bs) k) → IsClosed (b ∷ c ∷ bs) n
closed_next b c bs n true true u is_b is_c is_line found two one =
    let len = plus_some 2 n (closing bs) found in
    let more = two len.0 len.1 in
    record {
      text = 39 ∷ more.text;
      rest = more.rest;
      parts = (λ i. eqb-true b 39 is_b i ∷ eqb-true c 39 is_c i ∷ more.parts i);
      line = more.line;
      stops = more.stops;
      long = let sum = len.2 in let behind = more.long in omega arith;
    }
closed_next b c bs n true false u is_b is_c is_line found two one = record {
  text = [];
  rest = c ∷ bs;
  parts = ap (λ q. q ∷ c ∷ bs) (eqb-true b 39 is_b);
  line = refl;
  stops = is_c;
  long = cc;
}
closed_next b c bs n false t true is_b is_c is_line found two one = cc
closed_next b c bs n false t false is_b is_c is_line found two one =
    let len = plus_some 1 n (closing (c ∷ bs)) found in
    let more = one len.0 len.1 in
    let written = doubled-other b is_b in
    record {
      text = b ∷ more.text;
      rest = more.rest;
      parts = rw written (ap (λ l. b ∷ l) more.parts);
      line = rw is_line more.line;
      stops = more.stops;
      long = let sum = len.2 in let behind = more.long in rw written (omega arith);
    }

-- where a closing quote was found, the bytes up to it are a text
closing_found : (bs : List ℕ) (n : ℕ) → closing bs ≡ Some n → IsClosed bs n
closing_found [] n found = cc
closing_found (b ∷ []) n found = closed_last b n (is_quote b) refl found
closing_found (b ∷ c ∷ bs) n found = closed_next b c bs n (is_quote b) (is_quote c) (b == 10) refl refl refl found (λ k. closing_found bs k) (λ k. closing_found (c ∷ bs) k)

-- an open quote and what closes it
quoted_next : (b : ℕ) (bs : List ℕ) (n : ℕ) (t : Bool) → is_quote b ≡ t → (if t then plus 1 (closing bs) else None) ≡ Some n → BeginsWith Quoted (b ∷ bs) n
quoted_next b bs n true is found =
    let len = plus_some 1 n (closing bs) found in
    let closed = closing_found bs len.0 len.1 in
    record {
      front = quoted closed.text;
      rest = closed.rest;
      parts = (λ i. eqb-true b 39 is i ∷ closed.parts i) ∙ ap (λ l. 39 ∷ l) (sym (append_assoc (flat_map doubled closed.text) (39 ∷ []) closed.rest));
      token = record { spelled = (closed.text, closed.line, refl); longest = closed.stops };
      long = let sum = len.2 in let behind = closed.long in omega (arith, length-append (flat_map doubled closed.text) (39 ∷ []));
    }
quoted_next b bs n false is found = cc

-- the quoted text at the front
pub quoted_found : (bs : List ℕ) (n : ℕ) → quoted_reach bs ≡ Some n → BeginsWith Quoted bs n
quoted_found [] n found = cc
quoted_found (b ∷ bs) n found = quoted_next b bs n (is_quote b) refl found

-- how long a quoted text is
quoted_reach-quoted : (text rest : List ℕ) → is_one_line text ≡ true → starts is_quote rest ≡ false → quoted_reach (quoted text ++ rest) ≡ Some (length (quoted text))
quoted_reach-quoted text rest line stops =
    let sum : 1 + (length (flat_map doubled text) + 1) ≡ length (quoted text) = omega (arith, length-append (flat_map doubled text) (39 ∷ [])) in
    ap (λ bs. plus 1 (closing bs)) (append_assoc (flat_map doubled text) (39 ∷ []) rest) ∙ ap (plus 1) (closing-quoted text rest line stops) ∙ ap Some sum

-- how far a token reaches is fixed by the bytes
pub reach-found : (kind : TokenKind) (front rest : List ℕ) → Begins kind front rest → reach kind (front ++ rest) ≡ Some (length front)
reach-found Word front rest token = ap Some (word_long front rest token)
reach-found Number front rest token = ap Some (prefix_len-run is_ascii_digit front rest token.spelled.bytes token.longest)
reach-found Quoted front rest token =
    let Reach : List ℕ → Type 0 = λ f. quoted_reach (f ++ rest) ≡ Some (length f) in
    subst Reach (sym token.spelled.2) (quoted_reach-quoted token.spelled.0 rest token.spelled.1 token.longest)
reach-found Sign [] rest token = let never = token.spelled in cc
reach-found Sign (b ∷ []) [] token = rw token.spelled refl
reach-found Sign (b ∷ []) (c ∷ rest) token = rw (token.longest, token.spelled) refl
reach-found Sign (b ∷ c ∷ []) rest token = rw token.spelled refl
reach-found Sign (b ∷ c ∷ d ∷ bs) rest token = let never = token.spelled in cc

-- where no closing quote is found, no quoted text stands at the front
pub quoted_none : (bs : List ℕ) → quoted_reach bs ≡ None → BeginsNo Quoted bs
quoted_none bs none front rest parts token =
    let found = reach-found Quoted front rest token in
    let same = ap quoted_reach parts in
    cc
