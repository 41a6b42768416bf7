-- A script that comes in pieces: what was read, kept and written so far, and how it ends.
use Rattle.std.proofs.Common.{◌≡◌, ℕ, ◌+◌, ◌≤◌, List, [], ◌∷◌, ◌++◌, length, map, drop, refl, ap, sym, subst, ◌∙◌, append_assoc, append-nil, length-append, arith}
use Rattle.std.specs.declared.option.Option.{Option}
use Rattle.std.specs.Io.KnownBytes.{Appends, Consumes, IsAtEnd, Keeps}
use Rattle.std.proofs.KnownBytes.{Appends-nil, Appends-trans, Consumes-nil, Consumes-trans, Consumes-kept}
use Rattle.std.proofs.lemmas.List.{drop-append-le, map-append}
use Rattle.std.proofs.Math.Seq.{drop-append-add}
use Rattle.mz_books.specs.Legal.{Legal}
use Rattle.mz_replay_laws.proofs.LegalReplay.{legal_replay}
use Rattle.mz_script.specs.declared.script_line.ScriptLine.{ScriptLine}
use Rattle.mz_script.specs.Built.{after_built_lines}
use Rattle.mz_script.specs.Lines.{line_says}
use Rattle.mz_script.specs.ScriptLine.{Machine, opening_machine}
use Rattle.mz_shell.specs.Lines.{lines_of, whole_lines}
use Rattle.mz_shell.specs.Transcript.{after_read_lines, after_script, log_of, transcript}
use Rattle.mz_shell.specs.Reading.{DidWrite, IsGoing, completed, completes, kept, left_waiting, longest_piece, most_kept, unfinished}
use Rattle.mz_shell.specs.Runs.{longest_input, IsFinished, IsCutOff}
use Rattle.mz_shell.specs.Carrier.{most_lines}
use Rattle.mz_shell.proofs.LineLemmas.{whole_within}
use Rattle.mz_shell.proofs.WholeLemmas.{lines_append, whole_and_rest, whole_none, whole_some, whole_twice}
use Rattle.mz_shell.proofs.KeptLemmas.{kept_append, kept_last, kept_lines, kept_within, unfinished_none}
use Rattle.mz_shell.proofs.ReadingLemmas.{machine_append, text_append}

-- what the lines among these bytes say
abbrev says : List ℕ → List ScriptLine
says bytes = map line_says (lines_of bytes)

-- the machine after the whole lines of what was read
abbrev pub so_far : List ℕ → Machine
so_far read = (after_script (whole_lines read)).machine

-- ---- one more piece

-- what is whole with one more piece
whole_grown : (read piece : List ℕ) (w : ℕ) (ws : List ℕ) → whole_lines piece ≡ w ∷ ws
    → whole_lines (read ++ piece) ≡ whole_lines read ++ (unfinished read ++ (w ∷ ws))
whole_grown read piece w ws is =
    whole_some read piece w ws is
    ∙ ap (λ (r : List ℕ). r ++ (w ∷ ws)) (sym (whole_and_rest read))
    ∙ append_assoc (whole_lines read) (unfinished read) (w ∷ ws)

-- what is said then: what was said, and the lines that the piece completes
says_grown : (read piece : List ℕ) (w : ℕ) (ws : List ℕ) → whole_lines piece ≡ w ∷ ws
    → says (whole_lines (read ++ piece)) ≡ says (whole_lines read) ++ says (kept (unfinished read) ++ (w ∷ ws))
says_grown read piece w ws is =
    let waiting = unfinished read ++ (w ∷ ws) in
    ap says (whole_grown read piece w ws is)
    ∙ ap (map line_says) (lines_append (whole_lines read) waiting (whole_twice read))
    ∙ map-append line_says (lines_of (whole_lines read)) (lines_of waiting)
    ∙ ap (λ (xs : List ScriptLine). says (whole_lines read) ++ xs) (sym (kept_lines (unfinished read) w ws (unfinished_none read)))

machine_grown-step : (waiting read piece whole : List ℕ) → waiting ≡ kept (unfinished read) → whole_lines piece ≡ whole
    → (after_read_lines (lines_of (completed waiting whole)) (so_far read)).machine ≡ so_far (read ++ piece)
machine_grown-step waiting read piece [] behind is = ap (λ (xs : List ℕ). (after_script xs).machine) (sym (whole_none read piece is))
machine_grown-step waiting read piece (w ∷ ws) behind is =
    ap (λ (xs : List ℕ). (after_built_lines (says (xs ++ (w ∷ ws))) (so_far read)).machine) behind
    ∙ sym (machine_append (says (whole_lines read)) (says (kept (unfinished read) ++ (w ∷ ws))) opening_machine)
    ∙ ap (λ (xs : List ScriptLine). (after_built_lines xs opening_machine).machine) (sym (says_grown read piece w ws is))

-- the lines that one more piece completes lead to the machine after all whole lines
machine_grown : (waiting read piece : List ℕ) → waiting ≡ kept (unfinished read) → (completes (so_far read) waiting piece).machine ≡ so_far (read ++ piece)
machine_grown waiting read piece behind = machine_grown-step waiting read piece (whole_lines piece) behind refl

text_grown-step : (waiting read piece whole : List ℕ) → waiting ≡ kept (unfinished read) → whole_lines piece ≡ whole
    → transcript (whole_lines read) ++ (after_read_lines (lines_of (completed waiting whole)) (so_far read)).text ≡ transcript (whole_lines (read ++ piece))
text_grown-step waiting read piece [] behind is = append-nil (transcript (whole_lines read)) ∙ ap transcript (sym (whole_none read piece is))
text_grown-step waiting read piece (w ∷ ws) behind is =
    ap (λ (xs : List ℕ). transcript (whole_lines read) ++ (after_built_lines (says (xs ++ (w ∷ ws))) (so_far read)).text) behind
    ∙ sym (text_append (says (whole_lines read)) (says (kept (unfinished read) ++ (w ∷ ws))) opening_machine)
    ∙ ap (λ (xs : List ScriptLine). (after_built_lines xs opening_machine).text) (sym (says_grown read piece w ws is))

-- and what they are answered is added to the transcript
pub text_grown : (waiting read piece : List ℕ) → waiting ≡ kept (unfinished read)
    → transcript (whole_lines read) ++ (completes (so_far read) waiting piece).text ≡ transcript (whole_lines (read ++ piece))
text_grown waiting read piece behind = text_grown-step waiting read piece (whole_lines piece) behind refl

left_grown-step : (waiting read piece whole : List ℕ) → waiting ≡ kept (unfinished read) → whole_lines piece ≡ whole
    → left_waiting waiting piece whole ≡ kept (unfinished (read ++ piece))
left_grown-step waiting read piece [] behind is =
    ap (λ (xs : List ℕ). kept (xs ++ piece)) behind
    ∙ kept_append (unfinished read) piece
    ∙ ap kept (sym (drop-append-le (length (whole_lines read)) read piece (whole_within read))
    ∙ ap (λ (xs : List ℕ). drop (length xs) (read ++ piece)) (sym (whole_none read piece is)))
left_grown-step waiting read piece (w ∷ ws) behind is =
    ap kept (sym (drop-append-add read piece (length (w ∷ ws)))
    ∙ ap (λ (n : ℕ). drop n (read ++ piece)) (sym (length-append read (w ∷ ws)))
    ∙ ap (λ (xs : List ℕ). drop (length xs) (read ++ piece)) (sym (whole_some read piece w ws is)))

-- what is kept once one more piece was read
left_grown : (waiting read piece : List ℕ) → waiting ≡ kept (unfinished read) → left_waiting waiting piece (whole_lines piece) ≡ kept (unfinished (read ++ piece))
left_grown waiting read piece behind = left_grown-step waiting read piece (whole_lines piece) behind refl

-- ---- what was read so far

-- nothing was read
pub going_fresh : (left written : Option (List ℕ)) (Stands : Machine → Type 0) (lines : ℕ) (waiting : List ℕ) → Stands opening_machine → lines ≡ 0 → waiting ≡ []
    → IsGoing left left written written Stands lines waiting 0
going_fresh left written Stands lines waiting stands none nothing = record {
  read = [];
  stands = stands;
  behind = nothing;
  few = let empty = ap length nothing in omega arith;
  counted = refl;
  within = omega arith;
  consumed = Consumes-nil left;
  wrote = Appends-nil written;
}

-- no more waits than is kept
pub going_kept : (left left' written written' : Option (List ℕ)) (Stands : Machine → Type 0) (lines : ℕ) (waiting : List ℕ) (count : ℕ)
    → IsGoing left left' written written' Stands lines waiting count → length waiting ≤ most_kept
going_kept left left' written written' Stands lines waiting count going =
    subst (λ (xs : List ℕ). length xs ≤ most_kept) (sym going.behind) (kept_within (unfinished going.read))

-- there is room for the lines of what waits and one more piece
pub going_few : (left left' written written' : Option (List ℕ)) (Stands : Machine → Type 0) (lines : ℕ) (waiting : List ℕ) (count : ℕ)
    → IsGoing left left' written written' Stands lines waiting count → lines + (length waiting + longest_piece) ≤ most_lines
going_few left left' written written' Stands lines waiting count going =
    let few = going.few in
    let within = going.within in
    omega arith

-- one more piece within the limit
pub going_on : (left left' left'' written written' written'' : Option (List ℕ)) (Stands Now : Machine → Type 0) (lines lines' : ℕ) (waiting behind piece : List ℕ) (count : ℕ)
    → (going : IsGoing left left' written written' Stands lines waiting count) → Consumes left' left'' piece → count + length piece ≤ longest_input
    → DidWrite Now written' written'' (completes (so_far going.read) waiting piece) → behind ≡ left_waiting waiting piece (whole_lines piece)
    → lines' + length behind ≤ lines + (length waiting + length piece)
    → IsGoing left left'' written written'' Now lines' behind (count + length piece)
going_on left left' left'' written written' written'' Stands Now lines lines' waiting behind piece count going consumed within did waits few =
    let counted = going.counted in
    let fewer = going.few in
    record {
      read = going.read ++ piece;
      stands = subst Now (machine_grown waiting going.read piece going.behind) did.stands;
      behind = waits ∙ left_grown waiting going.read piece going.behind;
      few = omega arith;
      counted = simp length-append (omega arith);
      within = within;
      consumed = Consumes-trans left left' left'' going.read piece going.consumed consumed;
      wrote = subst (Appends written written'') (text_grown waiting going.read piece going.behind)
          (Appends-trans written written' written'' (transcript (whole_lines going.read)) _ going.wrote did.wrote);
    }

-- the source failed
pub going_cut : (left left' left'' written written' : Option (List ℕ)) (Stands : Machine → Type 0) (lines : ℕ) (waiting : List ℕ) (count : ℕ)
    → IsGoing left left' written written' Stands lines waiting count → Keeps left' left'' → IsCutOff left left'' written written'
going_cut left left' left'' written written' Stands lines waiting count going kept =
    let counted = going.counted in
    let within = going.within in
    record {
      read = going.read;
      consumed = Consumes-kept left left' left'' going.read going.consumed kept;
      within = omega arith;
      wrote = going.wrote;
    }

-- ---- the end

-- all lines say what the whole ones and the last one say
says_ended : (read : List ℕ) → says (whole_lines read) ++ says (kept (unfinished read)) ≡ says read
says_ended read =
    ap (λ (xs : List ScriptLine). says (whole_lines read) ++ xs) (kept_last (unfinished read) (unfinished_none read))
    ∙ sym (map-append line_says (lines_of (whole_lines read)) (lines_of (unfinished read)))
    ∙ ap (map line_says) (sym (lines_append (whole_lines read) (unfinished read) (whole_twice read)))
    ∙ ap says (whole_and_rest read)

machine_ended : (waiting read : List ℕ) → waiting ≡ kept (unfinished read) → (after_read_lines (lines_of waiting) (so_far read)).machine ≡ (after_script read).machine
machine_ended waiting read behind =
    ap (λ (xs : List ℕ). (after_built_lines (says xs) (so_far read)).machine) behind
    ∙ sym (machine_append (says (whole_lines read)) (says (kept (unfinished read))) opening_machine)
    ∙ ap (λ (xs : List ScriptLine). (after_built_lines xs opening_machine).machine) (says_ended read)

-- what is said of all that was read, a last line without LF included
pub text_ended : (waiting read : List ℕ) → waiting ≡ kept (unfinished read) → transcript (whole_lines read) ++ (after_read_lines (lines_of waiting) (so_far read)).text ≡ transcript read
text_ended waiting read behind =
    ap (λ (xs : List ℕ). transcript (whole_lines read) ++ (after_built_lines (says xs) (so_far read)).text) behind
    ∙ sym (text_append (says (whole_lines read)) (says (kept (unfinished read))) opening_machine)
    ∙ ap (λ (xs : List ScriptLine). (after_built_lines xs opening_machine).text) (says_ended read)

-- the input came to its end, and the lines that waited were answered
pub going_end : (left left' left'' written written' written'' : Option (List ℕ)) (Stands Now : Machine → Type 0) (lines : ℕ) (waiting : List ℕ) (count : ℕ)
    → (going : IsGoing left left' written written' Stands lines waiting count) → Consumes left' left'' [] → IsAtEnd left''
    → DidWrite Now written' written'' (after_read_lines (lines_of waiting) (so_far going.read)) → ((machine : Machine) → Now machine → Legal machine.log)
    → IsFinished left left'' written written''
going_end left left' left'' written written' written'' Stands Now lines waiting count going nothing at_end did legal_of =
    let counted = going.counted in
    let within = going.within in
    let legal : Legal (log_of going.read) = legal_of (after_script going.read).machine (subst Now (machine_ended waiting going.read going.behind) did.stands) in
    record {
      read = going.read;
      consumed = subst (Consumes left left'') (append-nil going.read) (Consumes-trans left left' left'' going.read [] going.consumed nothing);
      at_end = at_end;
      within = omega arith;
      wrote = subst (Appends written written'') (text_ended waiting going.read going.behind)
          (Appends-trans written written' written'' (transcript (whole_lines going.read)) _ going.wrote did.wrote);
      legal = legal;
      replays = legal_replay (log_of going.read) legal;
    }
