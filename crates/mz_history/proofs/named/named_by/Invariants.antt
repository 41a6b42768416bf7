use Rattle.std.proofs.Common.{◌≡◌, ℕ, drop, None}
use Rattle.std.specs.BTreeMap.{get}
use Rattle.std.specs.Ordering.{nat_cmp}
use Rattle.mz_history.specs.Lines.{after_lines}
use Rattle.mz_history.proofs.named.named_by.Given as goal

abbrev pub invariant-lines : goal.invariant-lines
invariant-lines l = record { each : (number : ℕ) → after_lines (drop l.line-index l.lines) number (get nat_cmp l.told number) ≡ after_lines l.lines number None }
