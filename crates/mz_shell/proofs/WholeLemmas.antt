-- Whole lines, what is behind them, and the lines of both.
use Rattle.std.proofs.Common.{◌≡◌, ℕ, ◌+◌, ◌<◌, ◌≤◌, Bool, true, false, eqb, cond, List, [], ◌∷◌, ◌++◌, length, refl, ap, sym, subst, ◌∙◌, arith}
use Rattle.std.proofs.lemmas.List.{take-append-drop}
use Rattle.mz_shell.specs.Lines.{lines_of, onto_first, whole_lines, onto_some}
use Rattle.mz_shell.specs.Reading.{unfinished}
use Rattle.mz_shell.proofs.LineLemmas.{whole_front}

-- the whole lines, and what is behind them
pub whole_and_rest : (read : List ℕ) → whole_lines read ++ unfinished read ≡ read
whole_and_rest read = ap (λ (front : List ℕ). front ++ unfinished read) (sym (whole_front read)) ∙ take-append-drop (length (whole_lines read)) read

whole_none-step : (t : ℕ) (read piece : List ℕ) (b : Bool) → whole_lines (read ++ piece) ≡ whole_lines read
    → cond b (t ∷ whole_lines (read ++ piece)) (onto_some t (whole_lines (read ++ piece))) ≡ cond b (t ∷ whole_lines read) (onto_some t (whole_lines read))
whole_none-step t read piece b e = rw e refl

-- a piece without LF makes no more lines whole
pub whole_none : (read piece : List ℕ) → whole_lines piece ≡ [] → whole_lines (read ++ piece) ≡ whole_lines read
whole_none [] piece e = e
whole_none (t ∷ read) piece e = whole_none-step t read piece (eqb t 10) (whole_none read piece e)

onto_some-more : (t : ℕ) (read : List ℕ) (w : ℕ) (ws : List ℕ) → onto_some t (read ++ (w ∷ ws)) ≡ t ∷ (read ++ (w ∷ ws))
onto_some-more t [] w ws = refl
onto_some-more t (r ∷ read) w ws = refl

whole_some-step : (t : ℕ) (read piece : List ℕ) (w : ℕ) (ws : List ℕ) (b : Bool) → whole_lines (read ++ piece) ≡ read ++ (w ∷ ws)
    → cond b (t ∷ whole_lines (read ++ piece)) (onto_some t (whole_lines (read ++ piece))) ≡ t ∷ (read ++ (w ∷ ws))
whole_some-step t read piece w ws true e = rw e refl
whole_some-step t read piece w ws false e = rw e (onto_some-more t read w ws)

-- a piece with LF makes all before it whole
pub whole_some : (read piece : List ℕ) (w : ℕ) (ws : List ℕ) → whole_lines piece ≡ w ∷ ws → whole_lines (read ++ piece) ≡ read ++ (w ∷ ws)
whole_some [] piece w ws e = e
whole_some (t ∷ read) piece w ws e = whole_some-step t read piece w ws (eqb t 10) (whole_some read piece w ws e)

onto_first-append : (b : ℕ) (c : ℕ) (cs : List ℕ) (more : List (List ℕ)) → onto_first b (lines_of (c ∷ cs) ++ more) ≡ onto_first b (lines_of (c ∷ cs)) ++ more
onto_first-append b c cs more = by_lines (lines_of (c ∷ cs)) (lines_some c cs)
  where
    lines_some : (c : ℕ) (cs : List ℕ) → 0 < length (lines_of (c ∷ cs))
    lines_some c cs = some-step (eqb c 10)
      where
        onto_some_line : (lines : List (List ℕ)) → 0 < length (onto_first c lines)
        onto_some_line [] = omega arith
        onto_some_line (line ∷ lines) = omega arith

        some-step : (t : Bool) → 0 < length (cond t ([] ∷ lines_of cs) (onto_first c (lines_of cs)))
        some-step true = omega arith
        some-step false = onto_some_line (lines_of cs)

    by_lines : (lines : List (List ℕ)) → 0 < length lines → onto_first b (lines ++ more) ≡ onto_first b lines ++ more
    by_lines [] h = absurd (omega (arith, h))
    by_lines (line ∷ lines) h = refl

-- the bytes behind the first one are whole too, and there are some where it is no LF
whole_tail : (b : ℕ) (bytes : List ℕ) (t : Bool) → cond t (b ∷ whole_lines bytes) (onto_some b (whole_lines bytes)) ≡ b ∷ bytes
    → (whole_lines bytes ≡ bytes) × (t ≡ false → 0 < length bytes)
whole_tail b bytes true e = (cc, λ x. cc)
whole_tail b bytes false e = by_whole (whole_lines bytes) refl e
  where
    by_whole : (whole : List ℕ) → whole_lines bytes ≡ whole → onto_some b whole ≡ b ∷ bytes → (whole_lines bytes ≡ bytes) × (false ≡ false → 0 < length bytes)
    by_whole [] is e = cc
    by_whole (w ∷ ws) is e = let same : w ∷ ws ≡ bytes = cc in (is ∙ same, λ x. subst (λ (xs : List ℕ). 0 < length xs) same (omega arith))

lines_append-step : (b : ℕ) (bytes rest : List ℕ) (t : Bool) → (t ≡ false → 0 < length bytes) → lines_of (bytes ++ rest) ≡ lines_of bytes ++ lines_of rest
    → cond t ([] ∷ lines_of (bytes ++ rest)) (onto_first b (lines_of (bytes ++ rest))) ≡ cond t ([] ∷ lines_of bytes) (onto_first b (lines_of bytes)) ++ lines_of rest
lines_append-step b bytes rest true some e = rw e refl
lines_append-step b [] rest false some e = absurd (omega (arith, some refl))
lines_append-step b (c ∷ cs) rest false some e = rw e (onto_first-append b c cs (lines_of rest))

-- the lines of whole lines and what follows them
pub lines_append : (bytes rest : List ℕ) → whole_lines bytes ≡ bytes → lines_of (bytes ++ rest) ≡ lines_of bytes ++ lines_of rest
lines_append [] rest e = refl
lines_append (b ∷ bytes) rest e =
    let tail = whole_tail b bytes (eqb b 10) e in
    lines_append-step b bytes rest (eqb b 10) tail.1 (lines_append bytes rest tail.0)

whole_twice-some : (b : ℕ) (w : ℕ) (ws : List ℕ) (t : Bool) → whole_lines (w ∷ ws) ≡ w ∷ ws → cond t (b ∷ whole_lines (w ∷ ws)) (onto_some b (whole_lines (w ∷ ws))) ≡ b ∷ (w ∷ ws)
whole_twice-some b w ws true e = rw e refl
whole_twice-some b w ws false e = rw e refl

-- whole lines are whole
pub whole_twice : (bytes : List ℕ) → whole_lines (whole_lines bytes) ≡ whole_lines bytes
whole_twice [] = refl
whole_twice (b ∷ bytes) = by_test (eqb b 10) refl (whole_lines bytes) (whole_twice bytes)
  where
    by_test : (t : Bool) → eqb b 10 ≡ t → (whole : List ℕ) → whole_lines whole ≡ whole
        → whole_lines (cond t (b ∷ whole) (onto_some b whole)) ≡ cond t (b ∷ whole) (onto_some b whole)
    by_test true e whole same = rw (e, same) refl
    by_test false e [] same = refl
    by_test false e (w ∷ ws) same = whole_twice-some b w ws (eqb b 10) same

onto_first-length : (b : ℕ) (lines : List (List ℕ)) → length (onto_first b lines) ≤ length lines + 1
onto_first-length b [] = omega arith
onto_first-length b (line ∷ lines) = omega arith

lines_count-step : (b : ℕ) (bytes : List ℕ) (t : Bool) → length (lines_of bytes) ≤ length bytes
    → length (cond t ([] ∷ lines_of bytes) (onto_first b (lines_of bytes))) ≤ length bytes + 1
lines_count-step b bytes true h = omega arith
lines_count-step b bytes false h = omega (arith, onto_first-length b (lines_of bytes))

-- there are no more lines than bytes
pub lines_count : (bytes : List ℕ) → length (lines_of bytes) ≤ length bytes
lines_count [] = omega arith
lines_count (b ∷ bytes) = let h = lines_count-step b bytes (eqb b 10) (lines_count bytes) in omega (arith, h)
