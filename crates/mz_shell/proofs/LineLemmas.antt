-- Bytes that are cut at LF.
use Rattle.std.proofs.Common.{◌≡◌, ℕ, ◌+◌, ◌-◌, ◌<◌, ◌≤◌, Bool, true, false, not, eqb, cond, List, [], ◌∷◌, ◌++◌, length, take, drop, get_or, refl, ap, subst, ◌∙◌, arith, None, Some, ltb, one-add, add-one}
use Rattle.std.specs.List.{position, position_or_len}
use Rattle.std.proofs.lemmas.List.{take_all, length-drop, length-take, length-take-le, length-append, take_more}
use Rattle.std.proofs.lemmas.Bool.Decides.{nat_tests}
use Rattle.mz_shell.specs.Lines.{lines_of, onto_first, whole_lines, onto_some}

-- all that is left of a list behind a place, as a slice up to its length
pub behind : {A : Type 0} (n : ℕ) (xs : List A) → take (length xs - n) (drop n xs) ≡ drop n xs
behind n xs = take_all _ _ (simp length-drop (omega arith))

found_some-step : (n m end : ℕ) (t : Bool) → ltb n m ≡ t → cond t (Some n) None ≡ Some end → (n < m) × (n ≡ end)
found_some-step n m end true e h = (grind (arith, nat_tests), cc)
found_some-step n m end false e h = cc

found_none-step : (n m : ℕ) (t : Bool) → ltb n m ≡ t → cond t (Some n) None ≡ None → m ≤ n
found_none-step n m true e h = cc
found_none-step n m false e h = grind (arith, nat_tests)

-- where none was found, the place is not below the length
pub found_none : (n m : ℕ) → cond (ltb n m) (Some n) None ≡ None → m ≤ n
found_none n m h = found_none-step n m (ltb n m) refl h

-- a place that was found is below the length
pub found_some : (n m end : ℕ) → cond (ltb n m) (Some n) None ≡ Some end → (n < m) × (n ≡ end)
found_some n m end h = found_some-step n m end (ltb n m) refl h

-- where the first LF stands
abbrev first_end : List ℕ → ℕ
first_end bytes = position_or_len (λ b. eqb b 10) bytes

lines_at-step : (b : ℕ) (bs : List ℕ) (t : Bool)
    → (first_end bs < length bs → lines_of bs ≡ take (first_end bs) bs ∷ lines_of (drop (first_end bs + 1) bs))
    → cond (not t) (1 + first_end bs) 0 < length (b ∷ bs)
    → cond t ([] ∷ lines_of bs) (onto_first b (lines_of bs)) ≡ take (cond (not t) (1 + first_end bs) 0) (b ∷ bs) ∷ lines_of (drop (cond (not t) (1 + first_end bs) 0 + 1) (b ∷ bs))
lines_at-step b bs true ih h = refl
lines_at-step b bs false ih h = rw (one-add, add-one, ih (omega arith), add-one) refl

-- an LF at the place: the line before it, and the lines behind it
lines_at : (bytes : List ℕ) → first_end bytes < length bytes → lines_of bytes ≡ take (first_end bytes) bytes ∷ lines_of (drop (first_end bytes + 1) bytes)
lines_at [] h = absurd (omega (arith, h))
lines_at (b ∷ bs) h = lines_at-step b bs (eqb b 10) (lines_at bs) h

-- the same by what a search for LF found
pub lines_split : (bytes : List ℕ) (end : ℕ) → position (λ b. eqb b 10) bytes ≡ Some end → lines_of bytes ≡ take end bytes ∷ lines_of (take (length bytes - (end + 1)) (drop (end + 1) bytes))
lines_split bytes end h =
    let found : (first_end bytes < length bytes) × (first_end bytes ≡ end) = found_some (first_end bytes) (length bytes) end h in
    rw behind (subst (λ (n : ℕ). lines_of bytes ≡ take n bytes ∷ lines_of (drop (n + 1) bytes)) found.1 (lines_at bytes found.0))

lines_none-step : (b : ℕ) (bs : List ℕ) (t : Bool) → (0 < length bs → length bs ≤ first_end bs → lines_of bs ≡ bs ∷ [])
    → length (b ∷ bs) ≤ cond (not t) (1 + first_end bs) 0 → cond t ([] ∷ lines_of bs) (onto_first b (lines_of bs)) ≡ (b ∷ bs) ∷ []
lines_none-step b bs true ih h = absurd (omega arith)
lines_none-step b [] false ih h = refl
lines_none-step b (c ∷ bs) false ih h = rw (ih (omega arith) (omega arith)) refl

-- no LF: the bytes are one line
lines_none : (bytes : List ℕ) → 0 < length bytes → length bytes ≤ first_end bytes → lines_of bytes ≡ bytes ∷ []
lines_none [] h e = absurd (omega (arith, h))
lines_none (b ∷ bs) h e = lines_none-step b bs (eqb b 10) (lines_none bs) e

-- the same by what a search for LF found
pub lines_last : (bytes : List ℕ) → 0 < length bytes → position (λ b. eqb b 10) bytes ≡ None → lines_of bytes ≡ bytes ∷ []
lines_last bytes h e = lines_none bytes h (found_none (first_end bytes) (length bytes) e)

onto_some-more : (b : ℕ) (xs : List ℕ) (c : ℕ) → onto_some b (xs ++ c ∷ []) ≡ b ∷ (xs ++ c ∷ [])
onto_some-more b [] c = refl
onto_some-more b (x ∷ xs) c = refl

whole_push-step : (x : ℕ) (xs : List ℕ) (c : ℕ) (s t : Bool) → whole_lines (xs ++ c ∷ []) ≡ cond t (xs ++ c ∷ []) (whole_lines xs)
    → cond s (x ∷ whole_lines (xs ++ c ∷ [])) (onto_some x (whole_lines (xs ++ c ∷ []))) ≡ cond t (x ∷ (xs ++ c ∷ [])) (cond s (x ∷ whole_lines xs) (onto_some x (whole_lines xs)))
whole_push-step x xs c true true ih = rw ih refl
whole_push-step x xs c false true ih = rw (ih, onto_some-more) refl
whole_push-step x xs c true false ih = rw ih refl
whole_push-step x xs c false false ih = rw ih refl

whole_one : (c : ℕ) (t : Bool) → cond t (c ∷ []) (onto_some c []) ≡ cond t (c ∷ []) []
whole_one c true = refl
whole_one c false = refl

-- one byte more at the end: all lines are whole where it is LF, and those that were so before where it isn't
whole_push : (xs : List ℕ) (c : ℕ) → whole_lines (xs ++ c ∷ []) ≡ cond (eqb c 10) (xs ++ c ∷ []) (whole_lines xs)
whole_push [] c = whole_one c (eqb c 10)
whole_push (x ∷ xs) c = whole_push-step x xs c (eqb x 10) (eqb c 10) (whole_push xs c)

whole_more-step : (xs : List ℕ) (c n : ℕ) (t : Bool) → length xs ≡ n → length (cond t (xs ++ c ∷ []) (whole_lines xs)) ≡ cond t (n + 1) (length (whole_lines xs))
whole_more-step xs c n true h = simp length-append (omega arith)
whole_more-step xs c n false h = refl

-- how many bytes the whole lines have with one byte more
pub whole_more : (bytes : List ℕ) (place d : ℕ) → place < length bytes
    → length (whole_lines (take (place + 1) bytes)) ≡ cond (eqb (get_or bytes place d) 10) (place + 1) (length (whole_lines (take place bytes)))
whole_more bytes place d h =
    ap length (ap whole_lines (take_more bytes place d h) ∙ whole_push (take place bytes) (get_or bytes place d))
    ∙ whole_more-step (take place bytes) (get_or bytes place d) place (eqb (get_or bytes place d) 10) (length-take-le place bytes (omega arith))

whole_front-step : (b : ℕ) (bs : List ℕ) (t : Bool) → take (length (whole_lines bs)) bs ≡ whole_lines bs
    → take (length (cond t (b ∷ whole_lines bs) (onto_some b (whole_lines bs)))) (b ∷ bs) ≡ cond t (b ∷ whole_lines bs) (onto_some b (whole_lines bs))
whole_front-step b bs true ih = ap (λ xs. b ∷ xs) ih
whole_front-step b bs false ih = onto_front (whole_lines bs) ih
  where
    onto_front : (whole : List ℕ) → take (length whole) bs ≡ whole → take (length (onto_some b whole)) (b ∷ bs) ≡ onto_some b whole
    onto_front [] h = refl
    onto_front (w ∷ ws) h = ap (λ xs. b ∷ xs) h

-- the whole lines are a front of the bytes
pub whole_front : (bytes : List ℕ) → take (length (whole_lines bytes)) bytes ≡ whole_lines bytes
whole_front [] = refl
whole_front (b ∷ bs) = whole_front-step b bs (eqb b 10) (whole_front bs)

-- the whole lines are no more than the bytes
pub whole_within : (bytes : List ℕ) → length (whole_lines bytes) ≤ length bytes
whole_within bytes = omega (arith, simp length-take at (ap length (whole_front bytes)))
