-- What the tokens of a text that is cut are: their names are names, and their texts are of one line.
use Rattle.std.proofs.Common.{◌≡◌, ◌≢◌, ℕ, Bool, true, false, not, ◌==◌, ◌||◌, List, [], ◌∷◌, Option, Some, None, map, bytes_eq, if◌then◌else◌, refl, sym, ap, subst, ◌∙◌, arith}
use Rattle.std.specs.Cmp.{both_ways}
use Rattle.std.specs.List.{AllByRecursion as Each, list_any, slice_range}
use Rattle.std.proofs.lemmas.Bool.Decides.{nat_tests}
use Rattle.std.proofs.lemmas.List.Elements.{recursion_from_All}
use Rattle.std.proofs.lemmas.Slice.Eq.{bytes_eq-Decides}
use Rattle.mz_lex.specs.declared.token.Token.{Token}
use Rattle.mz_lex.specs.declared.token.TokenKind.{TokenKind}
use Rattle.mz_lex.specs.declared.token.TokenKind.TheVariants as kind
use Rattle.mz_lex.specs.Cut.{IsCutInto, IsSpan}
use Rattle.mz_lex.specs.Lowered.{lowered}
use Rattle.mz_lex.specs.Quoted.{unquoted, is_one_line}
use Rattle.mz_lex.specs.Spelling.{IsToken, IsWord}
use Rattle.mz_lex.proofs.CutLemmas.{spans}
use Rattle.mz_lex.proofs.QuotedLemmas.{unquoted-quoted}
use Rattle.mz_lex.proofs.ReachLemmas.{both}
use Rattle.mz_statement.specs.Word.{IsName, reserved_words}
use Rattle.mz_grammar.specs.declared.key.Key.{Key}
use Rattle.mz_grammar.specs.declared.token.Tok.{Tok}
use Rattle.mz_grammar.specs.declared.token.Tok.TheVariants.{Key as K, Name as N, Number, Text as T}
use Rattle.mz_grammar.specs.Token.{spelling, reserved_keys, is_key, key_among, word_tok, tok_of, toks_of}
use Rattle.mz_grammar.proofs.Words.{word_name}

-- a name is one of a statement, and a text is of one line
abbrev pub IsTok : Tok → Type 0
IsTok (K key) = Unit {0}
IsTok (N name) = IsName name
IsTok (Number n) = Unit {0}
IsTok (T text) = Each (λ byte. byte ≢ 10) text

-- tokens that are ones
abbrev pub AreToks : List Tok → Type 0
AreToks ts = Each IsTok ts

-- ---- words

-- two texts are compared either way
either_way : (xs ys : List ℕ) → bytes_eq xs ys ≡ bytes_eq ys xs
either_way xs ys = both_ways _ _
    (λ e. (bytes_eq-Decides ys xs).1 (sym ((bytes_eq-Decides xs ys).0 e)))
    (λ e. (bytes_eq-Decides xs ys).1 (sym ((bytes_eq-Decides ys xs).0 e)))

-- a key that is not found
not_found : (is_this : Bool) (key : Key) (found : Option Key) → (if is_this then Some key else found) ≡ None
    → (is_this ≡ false) × (found ≡ None)
not_found true key found e = absurd cc
not_found false key found e = (refl, e)

-- the words of keys, with their letters lowered
abbrev words_of : List Key → List (List ℕ)
words_of keys = map (λ key. lowered (spelling key)) keys

-- a word that is none of the keys is none of their words
no_word : (keys : List Key) (word : List ℕ) → key_among keys word ≡ None → list_any (bytes_eq (lowered word)) (words_of keys) ≡ false
no_word [] word none = refl
no_word (key ∷ keys) word none =
    let parts = not_found (is_key word key) key (key_among keys word) none in
    λ i. (either_way (lowered word) (lowered (spelling key)) ∙ parts.0) i || no_word keys word parts.1 i

-- the words of the keys are the reserved ones
all_words : words_of reserved_keys ≡ reserved_words
all_words = refl

-- what a word stands for
word_fits : (bytes : List ℕ) (found : Option Key) → key_among reserved_keys bytes ≡ found → IsWord bytes → IsTok (word_tok found bytes)
word_fits bytes (Some key) is word = tt
word_fits bytes None is word = record { name = word_name bytes word; free = no_word reserved_keys bytes is }

-- ---- texts

-- a byte that is tested not to end a line
no_end : (byte : ℕ) → not (byte == 10) ≡ true → byte ≢ 10
no_end byte is = grind (arith, nat_tests)

-- a text of one line has no end of a line in it
one_line : (text : List ℕ) → is_one_line text ≡ true → Each (λ byte. byte ≢ 10) text
one_line [] is = tt
one_line (byte ∷ text) is = let parts = both _ _ is in (no_end byte parts.0, one_line text parts.1)

-- ---- tokens

-- what bytes of each kind stand for
tok_fits : (kind : TokenKind) (bytes : List ℕ) → IsToken kind bytes → IsTok (tok_of kind bytes)
tok_fits kind.Word bytes is = word_fits bytes (key_among reserved_keys bytes) refl is
tok_fits kind.Number bytes is = tt
tok_fits kind.Quoted bytes (text, line, e) =
    subst (Each (λ byte. byte ≢ 10)) (sym (ap unquoted e ∙ unquoted-quoted text)) (one_line text line)
tok_fits kind.Sign bytes is = tt

-- what tokens stand for, each a span of the text
spans_fit : (text : List ℕ) (tokens : List Token) → Each (IsSpan text) tokens → AreToks (toks_of text tokens)
spans_fit text [] each = tt
spans_fit text (token ∷ tokens) each =
    (tok_fits token.kind (slice_range text token.start token.end) each.0.spelled, spans_fit text tokens each.1)

-- what the tokens of a text that is cut stand for
pub cut_fits : (text : List ℕ) (tokens : List Token) → IsCutInto text tokens → AreToks (toks_of text tokens)
cut_fits text tokens cut = spans_fit text tokens (recursion_from_All (IsSpan text) tokens (spans [] text tokens [] cut))
