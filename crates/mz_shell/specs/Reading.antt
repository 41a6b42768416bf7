-- What is kept of a script while its bytes come in.
use Rattle.std.specs.Prelude.{Result, Ok, Err, None, Some, ◌≡◌, ℕ, ◌+◌, ◌<◌, ◌≤◌, List, [], ◌∷◌, ◌++◌, length, drop, take}
use Rattle.std.specs.declared.option.Option.{Option}
use Rattle.std.specs.Io.KnownBytes.{Appends, Consumes}
use Rattle.mz_io.specs.Causes.{Rose}
use Rattle.mz_script.specs.ScriptLine.{Machine, Said}
use Rattle.mz_shell.specs.declared.script.Stop.{Stop}
use Rattle.mz_shell.specs.declared.script.Stop.TheVariants.{Source, Sink, Memory, TooLong}
use Rattle.mz_shell.specs.Lines.{lines_of, whole_lines}
use Rattle.mz_shell.specs.Transcript.{after_read_lines, after_script, transcript}
use Rattle.mz_shell.specs.Runs.{longest_input, IsFinished, StopsScript}

-- the most bytes that are read at a time
abbrev pub longest_piece : ℕ
longest_piece = 65536

-- the bytes behind the last LF
abbrev pub unfinished : List ℕ → List ℕ
unfinished read = drop (length (whole_lines read)) read

-- the most bytes that are kept of a line that waits for its end: one more than a line may have
abbrev pub most_kept : ℕ
most_kept = 65537

-- what is kept of a line that waits for its end
abbrev pub kept : List ℕ → List ℕ
kept line = take most_kept line

-- so many bytes were read, from what was left and written first to what is now. Their whole lines led to a machine for which the carrier
-- stands, which has carried out no more lines than bytes; what is behind them waits, and what the lines were answered was written
pub record IsGoing (left left' written written' : Option (List ℕ)) (Stands : Machine → Type 0) (lines : ℕ) (waiting : List ℕ) (count : ℕ) : Type 0 where
  pub read : List ℕ
  pub stands : Stands (after_script (whole_lines read)).machine
  pub behind : waiting ≡ kept (unfinished read)
  pub few : lines + length waiting ≤ count
  pub counted : count ≡ length read
  pub within : count ≤ longest_input
  pub consumed : Consumes left left' read
  pub wrote : Appends written written' (transcript (whole_lines read))

-- the lines that a piece completes: with what waited before it, those up to its last LF, if it has any
abbrev pub completed : List ℕ → List ℕ → List ℕ
completed waiting [] = []
completed waiting (byte ∷ whole) = waiting ++ (byte ∷ whole)

-- what they do
abbrev pub completes : Machine → List ℕ → List ℕ → Said
completes machine waiting piece = after_read_lines (lines_of (completed waiting (whole_lines piece))) machine

-- what waits behind a piece: what waited before it and the piece, or what is behind its last LF, if it has any
abbrev pub left_waiting : List ℕ → List ℕ → List ℕ → List ℕ
left_waiting waiting piece [] = kept (waiting ++ piece)
left_waiting waiting piece (byte ∷ whole) = kept (drop (length (byte ∷ whole)) piece)

-- lines did this, and what they were answered was written
pub record DidWrite (Stands : Machine → Type 0) (written written' : Option (List ℕ)) (said : Said) : Type 0 where
  pub stands : Stands said.machine
  pub wrote : Appends written written' said.text

-- how an answer stops: the sink failed, whose count of faults then rose, or there was no memory
abbrev pub StopsAnswer : ℕ → ℕ → Stop → Type 0
StopsAnswer faults faults' Sink = Rose faults faults'
StopsAnswer faults faults' Memory = Unit {0}
StopsAnswer faults faults' Source = ⊥
StopsAnswer faults faults' TooLong = ⊥

-- what one more piece comes to: the end of the input, so many bytes read, which are more than before, or a stop
abbrev pub IsNext : (left left' written written' : Option (List ℕ)) → (source source' sink sink' : ℕ) → (Machine → Type 0) → ℕ → List ℕ → ℕ → Result (Option ℕ) Stop → Type 0
IsNext left left' written written' source source' sink sink' Stands lines waiting count (Ok None) = IsFinished left left' written written'
IsNext left left' written written' source source' sink sink' Stands lines waiting count (Ok (Some more)) =
    IsGoing left left' written written' Stands lines waiting more × (count < more)
IsNext left left' written written' source source' sink sink' Stands lines waiting count (Err stop) =
    StopsScript left left' written written' source source' sink sink' stop
