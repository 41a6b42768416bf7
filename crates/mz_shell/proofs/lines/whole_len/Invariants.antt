-- the whole lines among the bytes so far
use Rattle.std.proofs.Common.{◌≡◌, ◌≤◌, length, take}
use Rattle.mz_shell.specs.Lines.{whole_lines}
use Rattle.mz_shell.proofs.lines.whole_len.Given as goal

abbrev pub invariant-loop-place : goal.invariant-loop-place
invariant-loop-place l =
    record { value : l.len ≡ length (whole_lines (take l.place l.bytes)); within : l.len ≤ l.place }
