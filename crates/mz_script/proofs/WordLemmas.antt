-- Words of a text, one after another.
use Rattle.std.proofs.Common.{◌≡◌, ℕ, suc, ◌+◌, ◌-◌, ◌<◌, Bool, true, false, not, eqb, cond, List, [], ◌∷◌, filter, length, take, take_while, drop, refl, sym, ap, subst, ◌∙◌, arith, one-add, add-one}
use Rattle.std.specs.List.{prefix_len}
use Rattle.std.proofs.lemmas.List.{take_all, length-drop}
use Rattle.std.proofs.lemmas.List.Folds.{length-prefix_len}
use Rattle.std.proofs.lemmas.Bool.Decides.{nat_tests}
use Rattle.mz_script.specs.Words.{is_word, onto_first, pieces_of, words_of}
use Rattle.mz_script.specs.Lines.{after_spaces}

-- all that is left of a list behind a place, as a slice up to its length
pub behind : {A : Type 0} (n : ℕ) (xs : List A) → take (length xs - n) (drop n xs) ≡ drop n xs
behind n xs = take_all _ _ (simp length-drop (omega arith))

-- how many spaces stand at the front
abbrev spaces : List ℕ → ℕ
spaces text = prefix_len (λ b. eqb b 32) text

-- how many bytes stand before the first space
abbrev word_len : List ℕ → ℕ
word_len text = prefix_len (λ b. not (eqb b 32)) text

-- the text behind its leading spaces
abbrev rest : List ℕ → List ℕ
rest text = drop (spaces text) text

after_is : (text : List ℕ) → after_spaces text ≡ rest text
after_is text = ap (λ (n : ℕ). drop n text) (length-prefix_len (λ b. eqb b 32) text)

-- the first piece is what stands before the first space, and the words of the others are those of what is left
record Cut (text : List ℕ) : Type 0 where
  others : List (List ℕ)
  first : pieces_of text ≡ take (word_len text) text ∷ others
  words : filter is_word others ≡ words_of (drop (word_len text) text)

-- a space at the front ends a piece of no bytes
words_of_space : (b : ℕ) (bs : List ℕ) → eqb b 32 ≡ true → words_of bs ≡ words_of (b ∷ bs)
words_of_space b bs e = rw e refl

left_space : (b : ℕ) (bs : List ℕ) → eqb b 32 ≡ true → drop (word_len (b ∷ bs)) (b ∷ bs) ≡ b ∷ bs
left_space b bs e = rw e refl

-- a byte that is no space goes to the first piece
pieces_other : (b : ℕ) (bs : List ℕ) → eqb b 32 ≡ false → pieces_of (b ∷ bs) ≡ onto_first b (pieces_of bs)
pieces_other b bs e = rw e refl

word_other : (b : ℕ) (bs : List ℕ) → eqb b 32 ≡ false → take (word_len (b ∷ bs)) (b ∷ bs) ≡ b ∷ take (word_len bs) bs
word_other b bs e = rw (e, one-add) refl

left_other : (b : ℕ) (bs : List ℕ) → eqb b 32 ≡ false → drop (word_len (b ∷ bs)) (b ∷ bs) ≡ drop (word_len bs) bs
left_other b bs e = rw (e, one-add) refl

cut-step : (b : ℕ) (bs : List ℕ) (t : Bool) → eqb b 32 ≡ t → Cut bs → Cut (b ∷ bs)
cut-step b bs true e ih = record { others = pieces_of bs; first = rw e refl; words = words_of_space b bs e ∙ ap words_of (sym (left_space b bs e)) }
cut-step b bs false e ih = record {
  others = ih.others;
  first = pieces_other b bs e ∙ ap (onto_first b) ih.first ∙ ap (λ (xs : List ℕ). xs ∷ ih.others) (sym (word_other b bs e));
  words = ih.words ∙ ap words_of (sym (left_other b bs e));
}

cut : (text : List ℕ) → Cut text
cut [] = record { others = []; first = refl; words = refl }
cut (b ∷ bs) = cut-step b bs (eqb b 32) refl (cut bs)

rest_of_space : (b : ℕ) (bs : List ℕ) → eqb b 32 ≡ true → rest (b ∷ bs) ≡ rest bs
rest_of_space b bs e = rw (e, one-add) refl

rest_of_other : (b : ℕ) (bs : List ℕ) → eqb b 32 ≡ false → rest (b ∷ bs) ≡ b ∷ bs
rest_of_other b bs e = rw e refl

spaces_gone-step : (b : ℕ) (bs : List ℕ) (t : Bool) → eqb b 32 ≡ t → words_of (rest bs) ≡ words_of bs → words_of (rest (b ∷ bs)) ≡ words_of (b ∷ bs)
spaces_gone-step b bs true e ih = ap words_of (rest_of_space b bs e) ∙ ih ∙ words_of_space b bs e
spaces_gone-step b bs false e ih = ap words_of (rest_of_other b bs e)

-- leading spaces are no words
spaces_gone : (text : List ℕ) → words_of (rest text) ≡ words_of text
spaces_gone [] = refl
spaces_gone (b ∷ bs) = spaces_gone-step b bs (eqb b 32) refl (spaces_gone bs)

-- what stands before the first space of this text is a word, if the text has a byte
record Begins (text : List ℕ) : Type 0 where
  word : is_word text ≡ true → is_word (take (word_len text) text) ≡ true

begins_other : (b : ℕ) (bs : List ℕ) → eqb b 32 ≡ false → Begins (b ∷ bs)
begins_other b bs e = record { word = λ h. rw (e, one-add) refl }

begins-step : (b : ℕ) (bs : List ℕ) (t : Bool) → eqb b 32 ≡ t → Begins (rest bs) → Begins (rest (b ∷ bs))
begins-step b bs true e ih = subst Begins (sym (rest_of_space b bs e)) ih
begins-step b bs false e ih = subst Begins (sym (rest_of_other b bs e)) (begins_other b bs e)

begins : (text : List ℕ) → Begins (rest text)
begins [] = record { word = λ h. h }
begins (b ∷ bs) = begins-step b bs (eqb b 32) refl (begins bs)

some_word : (text : List ℕ) → (length text ≡ 0 → ⊥) → is_word text ≡ true
some_word [] h = absurd (h refl)
some_word (b ∷ bs) h = refl

none_word : (text : List ℕ) → length text ≡ 0 → words_of text ≡ []
none_word [] h = refl
none_word (b ∷ bs) h = absurd (omega (arith, h))

empty_at : (after : List ℕ) (empty : Bool) → empty ≡ eqb (length after) 0 → empty ≡ true → length after ≡ 0
empty_at after empty tested so = let at : eqb (length after) 0 ≡ true = sym tested ∙ so in grind (arith, nat_tests)

some_at : (after : List ℕ) (empty : Bool) → empty ≡ eqb (length after) 0 → empty ≡ false → length after ≡ 0 → ⊥
some_at after empty tested not_so none = let at : eqb (length after) 0 ≡ false = sym tested ∙ not_so in grind (arith, nat_tests)

-- a text of spaces has no word
pub no_word : (text after : List ℕ) (empty : Bool) → after ≡ after_spaces text → empty ≡ eqb (length after) 0 → empty ≡ true → words_of text ≡ []
no_word text after empty is tested so = sym (spaces_gone text) ∙ ap words_of (sym (is ∙ after_is text)) ∙ none_word after (empty_at after empty tested so)

kept_word : (word : List ℕ) (others : List (List ℕ)) → is_word word ≡ true → filter is_word (word ∷ others) ≡ word ∷ filter is_word others
kept_word word others h = rw h refl

first_of : (text : List ℕ) → is_word (take (word_len text) text) ≡ true → Cut text → words_of text ≡ take (word_len text) text ∷ words_of (drop (word_len text) text)
first_of text h parts =
    ap (filter is_word) parts.first
    ∙ kept_word (take (word_len text) text) parts.others h
    ∙ ap (λ (words : List (List ℕ)). take (word_len text) text ∷ words) parts.words

-- a text with a word, behind its leading spaces
first_word : (text : List ℕ) → (length (rest text) ≡ 0 → ⊥) → words_of text ≡ take (word_len (rest text)) (rest text) ∷ words_of (drop (word_len (rest text)) (rest text))
first_word text h = sym (spaces_gone text) ∙ first_of (rest text) ((begins text).word (some_word (rest text) h)) (cut (rest text))

-- has that word, and then the words of what is left
pub one_word : (text after : List ℕ) (empty : Bool) (end : ℕ) → after ≡ after_spaces text → empty ≡ eqb (length after) 0 → empty ≡ false
    → end ≡ length (take_while (λ byte. not (eqb byte 32)) after)
    → words_of text ≡ take end after ∷ words_of (take (length after - end) (drop end after))
one_word text after empty end is tested not_so counted =
    let same : after ≡ rest text = is ∙ after_is text in
    let some : length after ≡ 0 → ⊥ = some_at after empty tested not_so in
    let ends : end ≡ word_len after = counted ∙ length-prefix_len (λ b. not (eqb b 32)) after in
    subst (λ (n : ℕ). words_of text ≡ take n after ∷ words_of (take (length after - n) (drop n after))) (sym ends)
    (rw behind (subst (λ (xs : List ℕ). words_of text ≡ take (word_len xs) xs ∷ words_of (drop (word_len xs) xs)) (sym same)
    (first_word text (subst (λ (xs : List ℕ). length xs ≡ 0 → ⊥) same some))))
