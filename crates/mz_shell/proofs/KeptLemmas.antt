-- What is kept of a line that waits says what the whole line would.
use Rattle.std.proofs.Common.{◌≡◌, ℕ, zero, suc, ◌+◌, ◌-◌, ◌<◌, ◌≤◌, Bool, true, false, eqb, cond, List, [], ◌∷◌, ◌++◌, length, map, min, take, drop, nat_le, nat_lt, refl, ap, sym, ◌∙◌, append-nil, length-append, arith}
use Rattle.std.proofs.lemmas.List.{length-take-le, take-append-le, take_all, take_min}
use Rattle.std.proofs.Math.Seq.{take-append-add}
use Rattle.std.proofs.lemmas.Bool.Decides.{nat_tests}
use Rattle.mz_script.specs.declared.script_line.ScriptLine.{ScriptLine}
use Rattle.mz_script.specs.declared.script_line.ScriptLine.TheVariants.{Unreadable}
use Rattle.mz_script.specs.Lines.{line_says, longest_line}
use Rattle.mz_shell.specs.Lines.{lines_of, onto_first, whole_lines, onto_some}
use Rattle.mz_shell.specs.Reading.{kept, most_kept, unfinished}

-- ---- bytes without LF

none_before-step : (b : ℕ) (bs : List ℕ) (t : Bool) (whole : List ℕ) → cond t (b ∷ whole) (onto_some b whole) ≡ [] → (t ≡ false) × (whole ≡ [])
none_before-step b bs true whole h = absurd cc
none_before-step b bs false [] h = (refl, refl)
none_before-step b bs false (w ∷ ws) h = absurd cc

-- where no line is whole, the first byte is no LF, and no line behind it is whole
none_before : (b : ℕ) (bs : List ℕ) → whole_lines (b ∷ bs) ≡ [] → (eqb b 10 ≡ false) × (whole_lines bs ≡ [])
none_before b bs h = none_before-step b bs (eqb b 10) (whole_lines bs) h

-- nor is one in a front
front_none : (n : ℕ) (bytes : List ℕ) → whole_lines bytes ≡ [] → whole_lines (take n bytes) ≡ []
front_none zero bytes h = refl
front_none (suc n) [] h = refl
front_none (suc n) (b ∷ bs) h =
    let parts = none_before b bs h in
    rw (parts.0, front_none n bs parts.1) refl

-- they go before the first line that follows
lines_front : (bytes more line : List ℕ) (lines : List (List ℕ)) → whole_lines bytes ≡ [] → lines_of more ≡ line ∷ lines → lines_of (bytes ++ more) ≡ (bytes ++ line) ∷ lines
lines_front [] more line lines h e = e
lines_front (b ∷ bs) more line lines h e =
    let parts = none_before b bs h in
    rw (parts.0, lines_front bs more line lines parts.1 e) refl

-- and are one line where nothing follows
lines_only : (b : ℕ) (bs : List ℕ) → whole_lines (b ∷ bs) ≡ [] → lines_of (b ∷ bs) ≡ (b ∷ bs) ∷ []
lines_only b [] h = let parts = none_before b [] h in rw parts.0 refl
lines_only b (c ∷ cs) h =
    let parts = none_before b (c ∷ cs) h in
    ap (λ (t : Bool). cond t ([] ∷ lines_of (c ∷ cs)) (onto_first b (lines_of (c ∷ cs)))) parts.0 ∙ ap (onto_first b) (lines_only c cs parts.1)

unfinished_none-step : (b : ℕ) (bs : List ℕ) (t : Bool) → eqb b 10 ≡ t → (whole : List ℕ) → whole_lines bs ≡ whole → whole_lines (drop (length whole) bs) ≡ []
    → whole_lines (drop (length (cond t (b ∷ whole) (onto_some b whole))) (b ∷ bs)) ≡ []
unfinished_none-step b bs true e whole is ih = ih
unfinished_none-step b bs false e [] is ih = rw (e, is) refl
unfinished_none-step b bs false e (w ∷ ws) is ih = ih

-- behind the last LF there is none
pub unfinished_none : (read : List ℕ) → whole_lines (unfinished read) ≡ []
unfinished_none [] = refl
unfinished_none (b ∷ bs) = unfinished_none-step b bs (eqb b 10) refl (whole_lines bs) refl (unfinished_none bs)

-- ---- what is kept

-- so much is kept
pub kept_within : (line : List ℕ) → length (kept line) ≤ most_kept
kept_within line = kept_within-step (nat_le (length line) most_kept) refl
  where
    kept_within-step : (t : Bool) → nat_le (length line) most_kept ≡ t → length (kept line) ≤ most_kept
    kept_within-step true e = rw (take_all most_kept line (grind (arith, nat_tests))) (grind (arith, nat_tests))
    kept_within-step false e = rw (length-take-le most_kept line (grind (arith, nat_tests))) (omega arith)

kept_append-step : (line more : List ℕ) (t : Bool) → nat_le (length line) most_kept ≡ t → kept (kept line ++ more) ≡ kept (line ++ more)
kept_append-step line more true e = rw (take_all most_kept line (grind (arith, nat_tests))) refl
kept_append-step line more false e =
    let past : most_kept ≤ length line = grind (arith, nat_tests) in
    let full : length (kept line) ≡ most_kept = length-take-le most_kept line past in
    take-append-le most_kept (kept line) more (omega arith)
    ∙ take_all most_kept (kept line) (omega arith)
    ∙ sym (take-append-le most_kept line more past)

-- what is kept of a line that goes on is what is kept of what was kept of it, with the same behind it
pub kept_append : (line more : List ℕ) → kept (kept line ++ more) ≡ kept (line ++ more)
kept_append line more = kept_append-step line more (nat_le (length line) most_kept) refl

-- as much is added as is kept
pub kept_more : (waiting bytes : List ℕ) → length waiting ≤ most_kept → waiting ++ take (min (most_kept - length waiting) (length bytes)) bytes ≡ kept (waiting ++ bytes)
kept_more waiting bytes within =
    let room : length waiting + (most_kept - length waiting) ≡ most_kept = omega (arith, within) in
    ap (λ (xs : List ℕ). waiting ++ xs) (take_min (most_kept - length waiting) bytes)
    ∙ sym (take-append-add waiting bytes (most_kept - length waiting))
    ∙ ap (λ (n : ℕ). take n (waiting ++ bytes)) room

-- ---- what it says

-- a line that is too long can't be read
too_long : (line : List ℕ) → longest_line < length line → line_says line ≡ Unreadable
too_long line past =
    let long : nat_lt longest_line (length line) ≡ true = grind (arith, nat_tests) in
    rw long refl

kept_says-step : (line more : List ℕ) (t : Bool) → nat_le (length line) most_kept ≡ t → line_says (kept line ++ more) ≡ line_says (line ++ more)
kept_says-step line more true e = rw (take_all most_kept line (grind (arith, nat_tests))) refl
kept_says-step line more false e =
    let past : most_kept ≤ length line = grind (arith, nat_tests) in
    let full : length (kept line) ≡ most_kept = length-take-le most_kept line past in
    too_long (kept line ++ more) (simp length-append (omega arith)) ∙ sym (too_long (line ++ more) (simp length-append (omega arith)))

-- a line of which not all is kept can't be read, whatever follows
kept_says : (line more : List ℕ) → line_says (kept line ++ more) ≡ line_says (line ++ more)
kept_says line more = kept_says-step line more (nat_le (length line) most_kept) refl

-- the first line of bytes, and the others
record IsCut (lines : List (List ℕ)) : Type 0 where
  line : List ℕ
  others : List (List ℕ)
  is : lines ≡ line ∷ others

some_line : (b : ℕ) (t : Bool) (lines : List (List ℕ)) → IsCut (cond t ([] ∷ lines) (onto_first b lines))
some_line b true lines = record { line = []; others = lines; is = refl }
some_line b false [] = record { line = b ∷ []; others = []; is = refl }
some_line b false (line ∷ lines) = record { line = b ∷ line; others = lines; is = refl }

-- so the lines that a piece completes say what they would
pub kept_lines : (line : List ℕ) (w : ℕ) (ws : List ℕ) → whole_lines line ≡ []
    → map line_says (lines_of (kept line ++ (w ∷ ws))) ≡ map line_says (lines_of (line ++ (w ∷ ws)))
kept_lines line w ws none =
    let first = some_line w (eqb w 10) (lines_of ws) in
    let cut = lines_front (kept line) (w ∷ ws) first.line first.others (front_none most_kept line none) first.is in
    let all = lines_front line (w ∷ ws) first.line first.others none first.is in
    ap (map line_says) cut
    ∙ ap (λ (says : ScriptLine). says ∷ map line_says first.others) (kept_says line first.line)
    ∙ sym (ap (map line_says) all)

-- and so does a last line without its end
pub kept_last : (line : List ℕ) → whole_lines line ≡ [] → map line_says (lines_of (kept line)) ≡ map line_says (lines_of line)
kept_last [] none = refl
kept_last (b ∷ bs) none =
    let same : line_says (kept (b ∷ bs)) ≡ line_says (b ∷ bs) =
    ap line_says (sym (append-nil (kept (b ∷ bs)))) ∙ kept_says (b ∷ bs) [] ∙ ap line_says (append-nil (b ∷ bs)) in
    ap (map line_says) (lines_only b (take 65536 bs) (front_none most_kept (b ∷ bs) none))
    ∙ ap (λ (says : ScriptLine). says ∷ []) same
    ∙ sym (ap (map line_says) (lines_only b bs none))
