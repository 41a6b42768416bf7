use Rattle.std.proofs.Common.{◌≡◌, ◌≤◌, length, take}
use Rattle.mz_history.specs.Kept.{AreFound}
use Rattle.mz_history.proofs.named.let_go_behind.Given as goal

abbrev pub invariant-behind : goal.invariant-behind
invariant-behind l = record {
  mark : l.mark ≤ length l.lines.items;
  same : take l.mark l.lines.items ≡ take l.mark l.initial.lines.items;
  found : AreFound l.told l.lines.items;
}

abbrev pub decreases-behind : goal.decreases-behind
decreases-behind l = length l.lines.items
