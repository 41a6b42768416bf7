use Rattle.std.proofs.Common.{◌≡◌, drop, None}
use Rattle.mz_history.specs.Lines.{after_lines}
use Rattle.mz_history.proofs.named.named_in.Given as goal

abbrev pub invariant-lines : goal.invariant-lines
invariant-lines l = after_lines (drop l.line-index l.lines) l.collection l.told ≡ after_lines l.lines l.collection None
