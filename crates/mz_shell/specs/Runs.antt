-- What the program answers: its status, and what was read and written then.
use Rattle.std.specs.Prelude.{Result, Ok, Err, ◌≡◌, ℕ, ◌<◌, ◌≤◌, ◌⊎◌, List, [], ◌∷◌, ◌++◌, length, take, codes}
use Rattle.std.specs.declared.option.Option.{Option}
use Rattle.std.specs.Io.KnownBytes.{Appends, Consumes, IsAtEnd}
use Rattle.mz_io.specs.Causes.{Rose}
use Rattle.mz_io.specs.Written.{AppendsFront}
use Rattle.mz_books.specs.History.{Replays}
use Rattle.mz_books.specs.Legal.{Legal}
use Rattle.mz_shell.specs.declared.script.Stop.{Stop}
use Rattle.mz_shell.specs.declared.script.Stop.TheVariants.{Source, Sink, Memory, TooLong}
use Rattle.mz_shell.specs.Lines.{whole_lines}
use Rattle.mz_shell.specs.Transcript.{transcript, log_of}

-- the most bytes that a script may have
abbrev pub longest_input : ℕ
longest_input = 67108864

-- the one line that is written where the words are refused
abbrev pub usage : List ℕ
usage = codes "usage: coordinate script | threads N | load SEED SIZE" ++ (10 ∷ [])

-- the words that ask for a script
abbrev pub script_words : List (List ℕ)
script_words = codes "script" ∷ []

-- the input was read to its end, its transcript was written, and its log is legal and replays
pub record IsFinished (left left' written written' : Option (List ℕ)) : Type 0 where
  pub read : List ℕ
  pub consumed : Consumes left left' read
  pub at_end : IsAtEnd left'
  pub within : length read ≤ longest_input
  pub wrote : Appends written written' (transcript read)
  pub legal : Legal (log_of read)
  pub replays : Replays (log_of read)

-- the input was read up to some place, and the transcript of its whole lines was written
pub record IsCutOff (left left' written written' : Option (List ℕ)) : Type 0 where
  pub read : List ℕ
  pub consumed : Consumes left left' read
  pub within : length read ≤ longest_input
  pub wrote : Appends written written' (transcript (whole_lines read))

-- all that was read counts, a last line without LF too: it is no longer than a script may be, and was read to the end
pub record IsWhole (read : List ℕ) (left : Option (List ℕ)) (script : List ℕ) : Type 0 where
  pub all : script ≡ read
  pub within : length read ≤ longest_input
  pub at_end : IsAtEnd left

-- these are the lines that count of what was read: the whole ones within the limit, or all of it. A line that the limit has
-- cut never counts
abbrev pub IsCounted : List ℕ → Option (List ℕ) → List ℕ → Type 0
IsCounted read left script = (script ≡ whole_lines (take longest_input read)) ⊎ IsWhole read left script

-- the input was read up to some place, and a front of the transcript of the lines that count was written
pub record IsPartWritten (left left' written written' : Option (List ℕ)) : Type 0 where
  pub read : List ℕ
  pub consumed : Consumes left left' read
  pub script : List ℕ
  pub counted : IsCounted read left' script
  pub wrote : AppendsFront written written' (transcript script)

-- more bytes came than a script may have, and the transcript of the whole lines within the limit was written
pub record IsTooLong (left left' written written' : Option (List ℕ)) : Type 0 where
  pub read : List ℕ
  pub consumed : Consumes left left' read
  pub too_long : longest_input < length read
  pub wrote : Appends written written' (transcript (whole_lines (take longest_input read)))

-- how a script stops before its end is answered
abbrev pub StopsScript : (left left' written written' : Option (List ℕ)) → (source source' sink sink' : ℕ) → Stop → Type 0
StopsScript left left' written written' source source' sink sink' Source =
    IsCutOff left left' written written' × Rose source source'
StopsScript left left' written written' source source' sink sink' Sink =
    IsPartWritten left left' written written' × Rose sink sink'
StopsScript left left' written written' source source' sink sink' Memory = IsPartWritten left left' written written'
StopsScript left left' written written' source source' sink sink' TooLong = IsTooLong left left' written written'

-- the status with which a script is closed that ended so, where the flush at its end may fail too
abbrev pub ClosesAs : (sink sink' : ℕ) → Result (Unit {0}) Stop → ℕ → Type 0
ClosesAs sink sink' (Ok done) status = (status ≡ 0) ⊎ ((status ≡ 4) × Rose sink sink')
ClosesAs sink sink' (Err TooLong) status = (status ≡ 6) ⊎ ((status ≡ 4) × Rose sink sink')
ClosesAs sink sink' (Err Source) status = status ≡ 3
ClosesAs sink sink' (Err Sink) status = status ≡ 4
ClosesAs sink sink' (Err Memory) status = status ≡ 5

-- what a script is answered. The options are the bytes that the source had left before and has now, and those that the sink had
-- before and has now; the numbers are their counts of faults
pub record IsScriptAnswer (left left' written written' : Option (List ℕ)) (source source' sink sink' status : ℕ) : Type 0 where
  pub known : (status ≡ 0) ⊎ (status ≡ 3) ⊎ (status ≡ 4) ⊎ (status ≡ 5) ⊎ (status ≡ 6)
  pub finished : status ≡ 0 → IsFinished left left' written written'
  pub source_failed : status ≡ 3 → IsCutOff left left' written written' × Rose source source'
  pub sink_failed : status ≡ 4 → IsPartWritten left left' written written' × Rose sink sink'
  pub no_memory : status ≡ 5 → IsPartWritten left left' written written'
  pub too_long : status ≡ 6 → IsTooLong left left' written written'

-- how words are refused: with the usage line, or a front of it where the sink failed
pub record IsRefusal (written written' : Option (List ℕ)) (sink sink' status : ℕ) : Type 0 where
  pub known : (status ≡ 2) ⊎ (status ≡ 4)
  pub refused : status ≡ 2 → Appends written written' usage
  pub sink_failed : status ≡ 4 → AppendsFront written written' usage × Rose sink sink'
