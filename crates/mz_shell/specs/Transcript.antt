-- What a script comes to: its transcript and its log.
use Rattle.std.specs.Prelude.{ℕ, List, map}
use Rattle.mz_log.specs.Log.{Log}
use Rattle.mz_script.specs.Built.{after_built_lines}
use Rattle.mz_script.specs.Lines.{line_says}
use Rattle.mz_script.specs.ScriptLine.{Machine, Said, opening_machine}
use Rattle.mz_shell.specs.Lines.{lines_of}

-- what lines do, one after another, once they are read
abbrev pub after_read_lines : List (List ℕ) → Machine → Said
after_read_lines lines machine = after_built_lines (map line_says lines) machine

-- what the lines of a script do, from the opening machine on
abbrev pub after_script : List ℕ → Said
after_script script = after_read_lines (lines_of script) opening_machine

-- the transcript of a script: what its lines are answered, one after another
abbrev pub transcript : List ℕ → List ℕ
transcript script = (after_script script).text

-- the log of a script
abbrev pub log_of : List ℕ → Log
log_of script = (after_script script).machine.log
