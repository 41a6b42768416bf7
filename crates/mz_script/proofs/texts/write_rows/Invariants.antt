-- what is written, with the rows that are left, is the text before with all rows
use Rattle.std.proofs.Common.{◌≡◌, ◌++◌, drop, string_bytes}
use Rattle.mz_script.specs.Texts.{row_lines}
use Rattle.mz_script.proofs.texts.write_rows.Given as goal

abbrev pub invariant-loop-row : goal.invariant-loop-row
invariant-loop-row l =
    string_bytes l.text ++ row_lines (drop l.row-index l.rows) ≡ string_bytes l.initial.text ++ row_lines l.initial.rows
