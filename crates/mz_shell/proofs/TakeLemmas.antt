-- What a piece does that has an LF, or none: what is answered, what waits then, and for how many lines there has to be room.
use Rattle.std.proofs.Common.{◌≡◌, ℕ, ◌+◌, ◌≤◌, Bool, false, eqb, List, [], ◌++◌, length, drop, ap, sym, subst, ◌∙◌, length-append, arith, Result, Ok, Err}
use Rattle.std.specs.Prelude.{OnOk}
use Rattle.std.specs.declared.option.Option.{Option}
use Rattle.std.proofs.lemmas.List.{length-drop, length-take}
use Rattle.std.proofs.lemmas.Bool.Decides.{nat_tests}
use Rattle.mz_io.specs.Written.{AppendsFront}
use Rattle.mz_script.specs.ScriptLine.{Machine}
use Rattle.mz_shell.specs.Carrier.{most_lines}
use Rattle.mz_shell.specs.Lines.{lines_of, whole_lines}
use Rattle.mz_shell.specs.Transcript.{after_read_lines}
use Rattle.mz_shell.specs.Reading.{completed, completes, kept, left_waiting}
use Rattle.mz_shell.proofs.LineLemmas.{whole_within}
use Rattle.mz_shell.proofs.ReadingLemmas.{completed_some, left_some}

-- what follows at an Ok
pub on_ok : {A E P Q : Type 0} (result : Result A E) → OnOk result P → (P → Q) → OnOk result Q
on_ok (Ok value) h f = f h
on_ok (Err error) h f = h

-- there are bytes where a test finds some
pub some_at : (bytes : List ℕ) (empty : Bool) → empty ≡ eqb (length bytes) 0 → empty ≡ false → length bytes ≡ 0 → ⊥
some_at bytes empty tested not_so none = let at : eqb (length bytes) 0 ≡ false = sym tested ∙ not_so in grind (arith, nat_tests)

kept_small : (one other : List ℕ) → length (kept (one ++ other)) ≤ length one + length other
kept_small one other = simp (length-take, length-append) (omega arith)

-- what a piece completes stands in one list
pub completed_is : (waiting piece whole all : List ℕ) → whole ≡ whole_lines piece → (length whole ≡ 0 → ⊥) → all ≡ waiting ++ whole → all ≡ completed waiting (whole_lines piece)
completed_is waiting piece whole all is some grown = grown ∙ sym (completed_some waiting whole some) ∙ ap (completed waiting) is

-- so a front of its answer is one of what the piece is answered
pub front_some : (written written' : Option (List ℕ)) (machine : Machine) (waiting piece all : List ℕ) → all ≡ completed waiting (whole_lines piece)
    → AppendsFront written written' (after_read_lines (lines_of all) machine).text → AppendsFront written written' (completes machine waiting piece).text
front_some written written' machine waiting piece all is front =
    subst (λ (xs : List ℕ). AppendsFront written written' (after_read_lines (lines_of xs) machine).text) is front

-- what waits behind the last LF of a piece
pub left_is : (waiting piece whole left behind rest : List ℕ) → whole ≡ whole_lines piece → (length whole ≡ 0 → ⊥) → left ≡ []
    → behind ≡ drop (length (whole_lines piece)) piece → rest ≡ kept (left ++ behind) → rest ≡ left_waiting waiting piece (whole_lines piece)
left_is waiting piece whole left behind rest is some none cut waits =
    waits
    ∙ ap (λ (xs : List ℕ). kept (xs ++ behind)) none
    ∙ ap kept cut
    ∙ sym (left_some waiting piece (whole_lines piece) (subst (λ (xs : List ℕ). length xs ≡ 0 → ⊥) is some))

-- a piece without LF waits
pub few_none : (lines lines' : ℕ) (waiting rest piece : List ℕ) → lines' ≡ lines → rest ≡ kept (waiting ++ piece) → lines' + length rest ≤ lines + (length waiting + length piece)
few_none lines lines' waiting rest piece same waits =
    let counted = ap length waits in
    let small = kept_small waiting piece in
    omega arith

-- there is room for what another one completes
pub few_add : (lines lines' : ℕ) (waiting whole all piece : List ℕ) → lines' ≡ lines → all ≡ waiting ++ whole → whole ≡ whole_lines piece
    → lines + (length waiting + length piece) ≤ most_lines → lines' + length all ≤ most_lines
few_add lines lines' waiting whole all piece same grown is few =
    let counted : length all ≡ length waiting + length whole = ap length grown ∙ length-append waiting whole in
    let front = ap length is in
    let within = whole_within piece in
    omega arith

-- and what it leaves waiting, with the lines that it completed, is no more than it brought
pub few_some : (lines added answered kept' : ℕ) (waiting whole all left behind rest piece : List ℕ) → added ≡ lines → all ≡ waiting ++ whole → whole ≡ whole_lines piece
    → answered ≤ added + length all → left ≡ [] → kept' ≡ answered → behind ≡ drop (length (whole_lines piece)) piece → rest ≡ kept (left ++ behind)
    → kept' + length rest ≤ lines + (length waiting + length piece)
few_some lines added answered kept' waiting whole all left behind rest piece same grown is few none stays cut waits =
    let counted : length all ≡ length waiting + length whole = ap length grown ∙ length-append waiting whole in
    let front = ap length is in
    let within = whole_within piece in
    let empty = ap length none in
    let tail = simp length-drop at (ap length cut) in
    let small = kept_small left behind in
    let rests = ap length waits in
    omega arith
