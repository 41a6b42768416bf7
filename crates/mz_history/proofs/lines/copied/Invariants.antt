use Rattle.std.proofs.Common.{◌≡◌, take}
use Rattle.mz_history.proofs.lines.copied.Given as goal

-- the lines so far are copied
abbrev pub invariant-lines : goal.invariant-lines
invariant-lines l = l.copy.items ≡ take l.line-index l.lines
